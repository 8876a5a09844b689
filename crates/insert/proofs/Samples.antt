-- Inserts computed into P1's keys, loaded in 32 slots: P7 and P8, a tidying done and one put off, and every refusal, which leaves the
-- handle, the memory and scratch as they were. Assumes nothing.
use mathlib.Core.List.{List, [], ◌∷◌, ◌++◌}
use mathlib.Core.Path.{◌≡◌, refl}
use Prim.Native.Nat.{ℕ, ◌+◌, ◌*◌, ◌^◌, ◌-◌}
use lib.ListN.{replicate, set}
use Rattle.build.specs.Building.{lowest_record, lowest_slots, place_node, payloads_to, fill_slot, fill_slots, node_on, node_with, build}
use Rattle.build.specs.Releasing.{drop_node}
use Rattle.build.specs.Sizes.{depth_under, depth_of}
use Rattle.counters.specs.Counters.{one_more, raised_if, is_due, due_node, due_in, raise_elements, raise_conflicts, raise_node, raise}
use Rattle.insert.specs.Inserting.{Insert, insertion, scratch_fits, settled, standing, hung, replaced, tidy_ends, tidy_of, pair_ends, sound_due, settle_at, settle_of, unless_full, insert_end, insert_of}
use Rattle.laws.specs.Answers.{done, refused, refused_with, wrong_sizes, out_of_range, held, not_held, full, no_room, damage}
use Rattle.listing.specs.Listing.{listing}
use Rattle.marks.specs.Used.{used_at, mark_at, clear_at, mark_run, clear_run, first_from, first_unused, free_run, full_run, lowest_from, lowest_run}
use Rattle.model.specs.Choice.{slots_for, count_at, spread_below, spread, model_at, least_from, t_of, model_of}
use Rattle.model.specs.Groups.{keys_to}
use Rattle.model.specs.Slots.{slot_of, in_range}
use Rattle.pool.specs.Memory.{Mem, mem, elements_word, conflicts_word, kind_word}
use Rattle.pool.specs.Reading.{node_in, node_fits, node_at, slot_says, slot_at}
use Rattle.pool.specs.Writing.{put_node, put_data, put_child, zero_record, zero_run}
use Rattle.rebuild.specs.Pairs.{pair_of, pair_if, pair_gone}
use Rattle.rebuild.specs.Rebuilding.{live_items, sound_below, lower_live, upper_live, keys_with, payloads_with, afresh, swapped, in_place, Scratch, scratch, wiped, rebuild_over}
use Rattle.rebuild.specs.Zeroing.{nodes_met, nodes_below, node_alone, zeroed}
use Rattle.store.specs.Calls.{Call, call, search_end, search_of, lookup_of}
use Rattle.store.specs.Handles.{new_handle, limits_hold, pools_are, handle_fits}
use Rattle.store.specs.Loading.{fault_from, first_fault, emptied, load_fits, load_built, load_tree, load_list, load_of}
use Rattle.store.specs.declared.Handle.{Handle}
use Rattle.walk.specs.Events.{first_in, last_in, count_in, in_slot, in_slots, in_record, events_at, events_of}
use Rattle.walk.specs.Items.{may_enter, may_hold, items}
use Rattle.walk.specs.Walks.{step_in, key_slot, step_good, step_at, step_of, after, walk_from, walk_of}

-- the first words of a DATA and of a NODE slot
abbrev key : ℕ → ℕ
key k = 2 ^ 48 + k

abbrev child : ℕ → ℕ
child c = 2 * 2 ^ 48 + c

-- P1: the keys 10, 20, 30, 40 with payloads 1, 2, 3, 4, loaded over junk
abbrev p1 : ℕ → ℕ → Call
p1 capacity records = load_of capacity (10 ∷ 20 ∷ 30 ∷ 40 ∷ []) (1 ∷ 2 ∷ 3 ∷ 4 ∷ []) (mem (replicate (records * 8) 7) (replicate 64 7) (7 ∷ []))

abbrev handle : ℕ → ℕ → ℕ → ℕ → Handle
handle root count capacity records = new_handle root count capacity records 32

-- scratch holds 9 in every place before the call
abbrev nines : ℕ → List ℕ
nines n = replicate n 9

abbrev lent : ℕ → Scratch
lent n = scratch (nines n) (nines n) (nines n)

-- with payload 8 and so many places of scratch
abbrev inserts : Call → ℕ → ℕ → Insert
inserts c k places = insert_of c.handle k 8 c.memory (lent places)

-- the refusal changes nothing
abbrev unchanged : ℕ → Call → ℕ → Insert
unchanged number c places = insertion (refused number) c.handle c.memory (lent places)

-- the root's 8 slots after P1, of which the first and the fourth may hold something else
abbrev root_slots : ℕ → ℕ → ℕ → ℕ → List ℕ
root_slots a p b q = a ∷ p ∷ key 20 ∷ 2 ∷ 0 ∷ 0 ∷ b ∷ q ∷ 0 ∷ 0 ∷ 0 ∷ 0 ∷ key 30 ∷ 3 ∷ key 40 ∷ 4 ∷ []

-- P7: slot 3, no conflict, and one element more
abbrev P7 : Type 0
P7 =
    inserts (p1 16 4) 25 16
    ≡ insertion (done (0 ∷ 0 ∷ [])) (handle 0 5 16 4)
    (mem (20 ∷ 11 ∷ 8 ∷ 0 ∷ 5 ∷ 4 ∷ 0 ∷ 0 ∷ replicate 24 0) (root_slots (key 10) 1 (key 25) 8 ++ replicate 48 0) ((1 + 255 * 16) ∷ [])) (lent 16)

-- P8: a conflict; slot 0 leads to the two-key node at record 1, whose run is 8 to 11
abbrev after_five : Mem
after_five =
    mem (20 ∷ 11 ∷ 8 ∷ 0 ∷ 5 ∷ 4 ∷ 1 ∷ 0 ∷ 5 ∷ 6 ∷ 4 ∷ 8 ∷ 2 ∷ 2 ∷ 0 ∷ 0 ∷ replicate 16 0)
    (root_slots (child 1) 0 0 0 ++ (0 ∷ 0 ∷ key 5 ∷ 8 ∷ key 10 ∷ 1 ∷ replicate 42 0))
    ((3 + (2 ^ 12 - 1) * 16) ∷ [])

abbrev P8 : Type 0
P8 =
    (inserts (p1 16 4) 5 16 ≡ insertion (done (1 ∷ 0 ∷ [])) (handle 0 5 16 4) after_five (lent 16))
    × (lookup_of (handle 0 5 16 4) 7 after_five ≡ refused_with not_held (2 ∷ []))

-- the root is due at its next insert: 64 elements, 6 conflicts
abbrev worn : Call → Call
worn c = call c.answer c.handle (mem (set (set c.memory.nodes (elements_word 0) 63) (conflicts_word 0) 6) c.memory.slots c.memory.used)

-- the new root is at record 1, 25 is in it, and the first 5 places of scratch are zero
abbrev RootTidied : Type 0
RootTidied =
    ((inserts (worn (p1 16 4)) 25 16).answer ≡ done (0 ∷ 1 ∷ []))
    × ((inserts (worn (p1 16 4)) 25 16).handle ≡ handle 1 5 16 4)
    × (lookup_of (handle 1 5 16 4) 25 (inserts (worn (p1 16 4)) 25 16).memory ≡ done (8 ∷ 1 ∷ []))
    × ((inserts (worn (p1 16 4)) 25 16).scratch.keys ≡ replicate 5 0 ++ nines 11)

-- without a second record the tidying is put off, and the insert stands
abbrev TidyingPutOff : Type 0
TidyingPutOff =
    inserts (worn (p1 16 1)) 25 16
    ≡ insertion (done (0 ∷ 2 ∷ [])) (handle 0 5 16 1)
    (mem (20 ∷ 11 ∷ 8 ∷ 0 ∷ 64 ∷ 4 ∷ 6 ∷ 0 ∷ []) (root_slots (key 10) 1 (key 25) 8 ++ replicate 48 0) ((1 + 255 * 2) ∷ []))
    (scratch (replicate 5 0 ++ nines 11) (replicate 5 0 ++ nines 11) (replicate 5 0 ++ nines 11))

-- a kind of 3 in slot 3
abbrev spoilt : Call → Call
spoilt c = call c.answer c.handle (mem c.memory.nodes (set c.memory.slots (kind_word 3) (3 * 2 ^ 48)) c.memory.used)

-- in their order: sizes, range, damage on the path, held, full, damage in the subtree, no room for the two-key node
abbrev Refusals : Type 0
Refusals =
    (inserts (spoilt (p1 16 4)) (2 ^ 48) 15 ≡ unchanged wrong_sizes (spoilt (p1 16 4)) 15)
    × (inserts (spoilt (p1 16 4)) (2 ^ 48) 16 ≡ unchanged out_of_range (spoilt (p1 16 4)) 16)
    × (inserts (spoilt (p1 4 4)) 25 4 ≡ unchanged damage (spoilt (p1 4 4)) 4)
    × (inserts (p1 4 4) 10 4 ≡ unchanged held (p1 4 4) 4)
    × (inserts (p1 4 4) 25 4 ≡ unchanged full (p1 4 4) 4)
    × (inserts (worn (spoilt (p1 16 1))) 5 16 ≡ unchanged damage (worn (spoilt (p1 16 1))) 16)
    × (inserts (p1 16 1) 5 16 ≡ unchanged no_room (p1 16 1) 16)

samples : P7 × P8 × RootTidied × TidyingPutOff × Refusals
unfolding used_at mark_at clear_at mark_run clear_run first_from first_unused free_run full_run lowest_from lowest_run slots_for count_at spread_below spread model_at least_from t_of model_of keys_to slot_of in_range put_node put_data put_child zero_record zero_run node_in node_fits node_at slot_says slot_at lowest_record lowest_slots place_node payloads_to fill_slot fill_slots node_on node_with build drop_node nodes_met nodes_below node_alone zeroed depth_under depth_of first_in last_in count_in in_slot in_slots in_record events_at events_of may_enter may_hold items step_in key_slot step_good step_at step_of after walk_from walk_of listing one_more raised_if is_due due_node due_in raise_elements raise_conflicts raise_node raise pair_of pair_if pair_gone live_items sound_below lower_live upper_live keys_with payloads_with afresh swapped in_place wiped rebuild_over limits_hold pools_are handle_fits search_end search_of lookup_of fault_from first_fault emptied load_fits load_built load_tree load_list load_of scratch_fits settled standing hung replaced tidy_ends tidy_of pair_ends sound_due settle_at settle_of unless_full insert_end insert_of
samples = (refl, (refl, refl), (refl, refl, refl, refl), refl, (refl, refl, refl, refl, refl, refl, refl))
