-- Bands and lookups computed: one node over P1's keys, with room for none, for one and for all; and damaged memory, where both meet
-- the broken rule. Assumes nothing.
use mathlib.Core.List.{List, [], ◌∷◌, ◌++◌}
use mathlib.Core.Path.{◌≡◌, refl}
use Prim.Native.Nat.{ℕ, ◌+◌, ◌*◌, ◌^◌}
use lib.ListN.{replicate, set}
use Rattle.laws.specs.Answers.{done, refused, reversed, out_of_range, wrong_sizes, damage}
use Rattle.listing.specs.Listing.{listing}
use Rattle.marks.specs.Used.{used_at}
use Rattle.model.specs.Slots.{slot_of, in_range}
use Rattle.pool.specs.Memory.{Mem, mem, kind_word}
use Rattle.pool.specs.Reading.{node_in, node_fits, node_at, slot_says, slot_at}
use Rattle.pool.specs.declared.Node.{Node}
use Rattle.store.specs.Bands.{band_items, band, band_out, band_of}
use Rattle.store.specs.Calls.{search_end, search_of, lookup_of}
use Rattle.store.specs.Handles.{new_handle, pools_are, limits_hold, handle_fits}
use Rattle.store.specs.declared.Handle.{Handle}
use Rattle.walk.specs.Events.{first_in, last_in, count_in, in_slot, in_slots, in_record, too_long, events_at, events_of}
use Rattle.walk.specs.Items.{may_enter, may_hold, items}
use Rattle.walk.specs.Walks.{step_in, key_slot, step_good, step_at, step_of, after, walk_from, walk_of}
use Rattle.walk.specs.declared.Event.TheVariants.{Enter, Damage}
use Rattle.walk.specs.declared.Span.TheVariants.{Between}
use Rattle.pool.specs.declared.Rule.TheVariants.{PathTooLong}

-- the first words of a DATA and of a NODE slot
abbrev key : ℕ → ℕ
key k = 2 ^ 48 + k

abbrev child : ℕ → ℕ
child c = 2 * 2 ^ 48 + c

-- P1: the keys 10, 20, 30, 40 with payloads 1, 2, 3, 4 at slots 0, 1, 6, 7 of one node, in 32 records and 8 slots
abbrev root : Node
root = record { model = record { lo = 20; w = 11; l = 8 }; start = 0 }

abbrev nodes : List ℕ
nodes = 20 ∷ 11 ∷ 8 ∷ 0 ∷ 4 ∷ 4 ∷ 0 ∷ 0 ∷ replicate 248 0

abbrev slots : List ℕ
slots = key 10 ∷ 1 ∷ key 20 ∷ 2 ∷ (replicate 8 0 ++ key 30 ∷ 3 ∷ key 40 ∷ 4 ∷ [])

-- record 0, and the slots at the places 32 to 39
abbrev used : List ℕ
used = (1 + 255 * 2 ^ 32) ∷ []

abbrev handle : Handle
handle = new_handle 0 4 16 32 8

abbrev whole : Mem
whole = mem nodes slots used

-- a list of slots with another word in slot 2, where key 22 goes
abbrev slot_two : ℕ → Mem
slot_two word = mem nodes (set slots (kind_word 2) word) used

-- the output holds 9 in every place before the call
abbrev nines : ℕ → List ℕ
nines n = replicate n 9

-- sound memory: room for none (more remain, or nothing does), for one, for just enough, and with places to spare, which stay
bands : (band_of handle 10 40 whole [] [] ≡ band (done (0 ∷ 1 ∷ [])) [] [])
    × (band_of handle 11 19 whole [] [] ≡ band (done (0 ∷ 0 ∷ [])) [] [])
    × (band_of handle 11 40 whole (nines 1) (nines 1) ≡ band (done (1 ∷ 1 ∷ [])) (20 ∷ []) (2 ∷ []))
    × (band_of handle 20 40 whole (nines 3) (nines 3) ≡ band (done (3 ∷ 0 ∷ [])) (20 ∷ 30 ∷ 40 ∷ []) (2 ∷ 3 ∷ 4 ∷ []))
    × (band_of handle 15 35 whole (nines 4) (nines 4) ≡ band (done (2 ∷ 0 ∷ [])) (20 ∷ 30 ∷ 9 ∷ 9 ∷ []) (2 ∷ 3 ∷ 9 ∷ 9 ∷ []))
unfolding band_of band_out band_items listing handle_fits limits_hold pools_are items may_enter may_hold events_of events_at in_record in_slots in_slot first_in last_in count_in node_at node_fits node_in slot_at slot_says slot_of in_range used_at
bands = (refl, refl, refl, refl, refl)

-- refusals in their order: sizes, range, order, and only then damage
refusals : (band_of handle (2 ^ 48) 0 (slot_two (3 * 2 ^ 48)) (nines 1) (nines 2) ≡ band (refused wrong_sizes) (nines 1) (nines 2))
    × (band_of handle (2 ^ 48) 0 (slot_two (3 * 2 ^ 48)) (nines 1) (nines 1) ≡ band (refused out_of_range) (nines 1) (nines 1))
    × (band_of handle 40 10 (slot_two (3 * 2 ^ 48)) (nines 1) (nines 1) ≡ band (refused reversed) (nines 1) (nines 1))
unfolding band_of handle_fits limits_hold pools_are
refusals = (refl, refl, refl)

-- a node that is its own child: its path has 24 nodes, and then one too many
endless : Mem
endless = slot_two (child 0)

path-ends : events_of (Between 22 22) endless 0 0 ≡ replicate 24 (Enter 0 root) ++ (Damage PathTooLong ∷ [])
unfolding endless events_of events_at in_record too_long in_slots in_slot first_in last_in count_in node_at node_fits node_in slot_at slot_says slot_of in_range used_at
path-ends = refl

-- damaged memory: that node, a kind of 3, a DATA key that belongs in another slot, a record that is not marked used
lookups_meet-damage : (lookup_of handle 22 endless ≡ refused damage)
    × (lookup_of handle 22 (slot_two (3 * 2 ^ 48)) ≡ refused damage)
    × (lookup_of handle 22 (slot_two (key 30)) ≡ refused damage)
    × (lookup_of handle 22 (mem nodes slots (0 ∷ [])) ≡ refused damage)
unfolding endless lookup_of search_of search_end handle_fits limits_hold pools_are walk_of walk_from after step_of step_at step_good step_in key_slot node_at node_fits node_in slot_at slot_says slot_of in_range used_at
lookups_meet-damage = (refl, refl, refl, refl)

bands_meet-damage : (band_of handle 22 22 endless (nines 4) (nines 4) ≡ band (refused damage) (nines 4) (nines 4))
    × (band_of handle 10 40 (slot_two (3 * 2 ^ 48)) (nines 4) (nines 4) ≡ band (refused damage) (nines 4) (nines 4))
    × (band_of handle 10 40 (slot_two (key 30)) (nines 4) (nines 4) ≡ band (refused damage) (nines 4) (nines 4))
    × (band_of handle 10 40 (mem nodes slots (0 ∷ [])) (nines 4) (nines 4) ≡ band (refused damage) (nines 4) (nines 4))
unfolding endless band_of band_out band_items listing handle_fits limits_hold pools_are items may_enter may_hold events_of events_at in_record too_long in_slots in_slot first_in last_in count_in node_at node_fits node_in slot_at slot_says slot_of in_range used_at
bands_meet-damage = (refl, refl, refl, refl)

-- a walk stops at the first element beyond the room: damage after it is not met, and damage before it is
stops_at_the_room : (band_of handle 10 40 (slot_two (3 * 2 ^ 48)) (nines 1) (nines 1) ≡ band (done (1 ∷ 1 ∷ [])) (10 ∷ []) (1 ∷ []))
    × (band_of handle 10 40 (slot_two (3 * 2 ^ 48)) (nines 2) (nines 2) ≡ band (refused damage) (nines 2) (nines 2))
unfolding band_of band_out band_items listing handle_fits limits_hold pools_are items may_enter may_hold events_of events_at in_record in_slots in_slot first_in last_in count_in node_at node_fits node_in slot_at slot_says slot_of in_range used_at
stops_at_the_room = (refl, refl)
