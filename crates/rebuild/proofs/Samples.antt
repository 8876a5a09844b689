-- Rebuilds computed: P4's root over its keys and key 1, with room and without, at the edge of the depth, and the readings that break a
-- rule; and the two-key node of keys 0 and 1, placed and gone again. Assumes nothing.
use Rattle.std.specs.Prelude.{None, Some}
use mathlib.Core.Bool.{true, false}
use mathlib.Core.List.{List, [], ◌∷◌, ◌++◌}
use mathlib.Core.Path.{◌≡◌, refl}
use Prim.Native.Nat.{ℕ, ◌+◌, ◌-◌, ◌*◌, ◌^◌}
use lib.ListN.{replicate}
use Rattle.build.specs.Building.{lowest_record, lowest_slots, place_node, payloads_to, fill_slot, fill_slots, node_on, node_with, build, out}
use Rattle.build.specs.Releasing.{drop_node, release_slot, release_slots, release_record, release}
use Rattle.build.specs.Sizes.{depth_of, depth_under}
use Rattle.listing.specs.Listing.{listing}
use Rattle.marks.specs.Used.{used_at, mark_at, clear_at, mark_run, clear_run, free_run, full_run, first_from, first_unused, lowest_from, lowest_run}
use Rattle.model.specs.Choice.{slots_for, count_at, spread_below, spread, model_at, least_from, t_of, empty_model, model_of}
use Rattle.model.specs.Groups.{keys_to}
use Rattle.model.specs.Slots.{slot_of, in_range}
use Rattle.pool.specs.Memory.{Mem, mem}
use Rattle.pool.specs.Reading.{node_in, node_fits, node_at, slot_says, slot_at}
use Rattle.pool.specs.Writing.{put_node, put_data, put_child, zero_record, zero_run}
use Rattle.rebuild.specs.Pairs.{pair_of, pair_if, pair_gone}
use Rattle.rebuild.specs.Rebuilding.{live_items, sound_below, lower_live, upper_live, keys_with, payloads_with, afresh, swapped, in_place, Scratch, scratch, wiped, rebuilt, rebuild_over, rebuild_of}
use Rattle.rebuild.specs.Zeroing.{nodes_met, nodes_below, node_alone, zeroed}
use Rattle.walk.specs.Events.{first_in, last_in, count_in, in_slot, in_slots, in_record, events_at, events_of}
use Rattle.walk.specs.Items.{may_enter, may_hold, items}
use Rattle.walk.specs.Walks.{longest_path}

-- the first words of a DATA and of a NODE slot; slots that are NULL
abbrev key : ℕ → ℕ
key k = 2 ^ 48 + k

abbrev child : ℕ → ℕ
child c = 2 * 2 ^ 48 + c

abbrev nulls : ℕ → List ℕ
nulls n = replicate (2 * n) 0

-- P4 with payloads 1 to 6: the root at slots 0 to 11, its children at runs 12 and 16; then the other records and the other slots
abbrev p4 : List ℕ → List ℕ → List ℕ → Mem
p4 records slots used =
    mem
    (101 ∷ 2 ∷ 12 ∷ 0 ∷ 6 ∷ 6 ∷ 0 ∷ 0 ∷ 0 ∷ 101 ∷ 4 ∷ 12 ∷ 2 ∷ 2 ∷ 0 ∷ 0 ∷ 10000 ∷ 10001 ∷ 4 ∷ 16 ∷ 2 ∷ 2 ∷ 0 ∷ 0 ∷ records)
    ((child 1 ∷ 0 ∷ key 101 ∷ 3 ∷ (nulls 4 ++ (key 102 ∷ 4 ∷ (nulls 4 ++ (child 2 ∷ 0 ∷ [])))))
    ++ ((0 ∷ 0 ∷ key 0 ∷ 1 ∷ key 100 ∷ 2 ∷ 0 ∷ 0 ∷ []) ++ ((0 ∷ 0 ∷ key 10000 ∷ 5 ∷ key 20000 ∷ 6 ∷ 0 ∷ 0 ∷ []) ++ slots)))
    used

-- in 6 records, with so many slots free and so many marked
abbrev free : ℕ → ℕ → Mem
free n marked = p4 (replicate 24 0) (nulls n) ((7 + (2 ^ marked - 1) * 2 ^ 6) ∷ [])

abbrev before : Mem
before = free 22 20

-- the new root at record 3 and slots 20 to 33, its children at runs 34 and 38; the old places are zeros and unused
abbrev after : Mem
after =
    mem
    (replicate 24 0 ++ (100 ∷ 3 ∷ 14 ∷ 20 ∷ 7 ∷ 7 ∷ 0 ∷ 0 ∷ 0 ∷ 2 ∷ 4 ∷ 34 ∷ 2 ∷ 2 ∷ 0 ∷ 0 ∷ 10000 ∷ 10001 ∷ 4 ∷ 38 ∷ 2 ∷ 2 ∷ 0 ∷ 0 ∷ []))
    (nulls 20
    ++ ((child 4 ∷ 0 ∷ key 100 ∷ 2 ∷ (nulls 3 ++ (key 101 ∷ 3 ∷ (nulls 3 ++ (key 102 ∷ 4 ∷ (nulls 3 ++ (child 5 ∷ 0 ∷ [])))))))
    ++ ((0 ∷ 0 ∷ key 0 ∷ 1 ∷ key 1 ∷ 7 ∷ 0 ∷ 0 ∷ []) ++ (0 ∷ 0 ∷ key 10000 ∷ 5 ∷ key 20000 ∷ 6 ∷ 0 ∷ 0 ∷ []))))
    ((56 + (2 ^ 22 - 1) * 2 ^ 26) ∷ [])

-- three lists of 8 places, whose first n are zeros
abbrev zeros_to : ℕ → Scratch
zeros_to n = scratch (replicate n 0 ++ replicate (8 - n) 9) (replicate n 0 ++ replicate (8 - n) 9) (replicate n 0 ++ replicate (8 - n) 9)

-- with room for all three nodes
root-rebuilt : rebuild_of 8 1 7 0 0 before (zeros_to 0) ≡ rebuilt (out (Some 3) after) (zeros_to 7)
unfolding rebuild_of rebuild_over wiped in_place swapped afresh payloads_with keys_with upper_live lower_live live_items listing items may_enter may_hold events_of events_at in_record in_slots in_slot first_in last_in count_in node_at node_fits node_in slot_at slot_says slot_of in_range used_at full_run mark_at mark_run clear_at clear_run first_from first_unused free_run lowest_from lowest_run slots_for count_at spread_below spread model_at least_from t_of empty_model model_of keys_to put_node put_data put_child zero_record zero_run lowest_record lowest_slots place_node payloads_to fill_slot fill_slots node_on node_with build depth_of depth_under drop_node nodes_met nodes_below zeroed
root-rebuilt = refl

-- one slot too few: the memory stays, and 7 places of scratch are zeros
without_room : rebuild_of 8 1 7 0 0 (free 21 20) (zeros_to 0) ≡ rebuilt (out None (free 21 20)) (zeros_to 7)
unfolding rebuild_of rebuild_over wiped in_place swapped afresh payloads_with keys_with upper_live lower_live live_items listing items may_enter may_hold events_of events_at in_record in_slots in_slot first_in last_in count_in node_at node_fits node_in slot_at slot_says slot_of in_range used_at full_run mark_at mark_run first_from first_unused free_run lowest_from lowest_run slots_for count_at spread_below spread model_at least_from t_of empty_model model_of keys_to put_node put_data put_child zero_run lowest_record lowest_slots place_node payloads_to fill_slot fill_slots node_on node_with build depth_of depth_under
without_room = refl

-- the new tree has two nodes on its longest path: 22 may stand above it, 23 may not
abbrev keys : List ℕ
keys = 0 ∷ 1 ∷ 100 ∷ 101 ∷ 102 ∷ 10000 ∷ 20000 ∷ []

abbrev payloads : List ℕ
payloads = 1 ∷ 7 ∷ 2 ∷ 3 ∷ 4 ∷ 5 ∷ 6 ∷ []

depth_edge : (in_place 22 (nodes_below 22 0 before) keys payloads before ≡ out (Some 3) after) × (in_place 23 (nodes_below 23 0 before) keys payloads before ≡ out None before)
unfolding in_place swapped afresh node_at node_fits node_in slot_at slot_says slot_of in_range used_at mark_at mark_run clear_at clear_run first_from first_unused free_run lowest_from lowest_run slots_for count_at spread_below spread model_at least_from t_of empty_model model_of keys_to put_node put_data put_child zero_record zero_run lowest_record lowest_slots place_node payloads_to fill_slot fill_slots node_on node_with build depth_of depth_under drop_node nodes_met nodes_below zeroed events_of events_at in_record in_slots in_slot count_in last_in first_in
depth_edge = (refl, refl)

-- 6 keys and a new one are as many as capacity 7; more than 6; key 101 is met; slot 19 is not marked
readings :
    (sound_below 7 1 0 0 before ≡ true)
    × (sound_below 6 1 0 0 before ≡ false)
    × (sound_below 7 101 0 0 before ≡ false)
    × (sound_below 7 1 0 0 (free 22 19) ≡ false)
unfolding sound_below live_items listing items may_enter may_hold events_of events_at in_record in_slots in_slot first_in last_in count_in node_at node_fits node_in slot_at slot_says slot_of in_range used_at full_run
readings = (refl, refl, refl, refl)

-- the node over key 0, which a slot holds, and key 1, at record 3 and slots 20 to 23; released it leaves nothing
abbrev paired : Mem
paired =
    p4 (0 ∷ 2 ∷ 4 ∷ 20 ∷ 2 ∷ 2 ∷ 0 ∷ 0 ∷ replicate 16 0) (0 ∷ 0 ∷ key 0 ∷ 1 ∷ key 1 ∷ 7 ∷ 0 ∷ 0 ∷ nulls 18) ((15 + (2 ^ 24 - 1) * 2 ^ 6) ∷ [])

pair :
    (pair_if true 0 1 1 7 before ≡ out (Some 3) paired)
    × (pair_if true 1 7 0 1 before ≡ out (Some 3) paired)
    × (pair_if false 0 1 1 7 before ≡ out (Some 0) before)
    × (pair_gone true 3 paired ≡ before)
unfolding pair_if pair_of pair_gone node_at node_fits node_in slot_at slot_says slot_of in_range used_at mark_at mark_run clear_at clear_run first_from first_unused free_run lowest_from lowest_run slots_for count_at spread_below spread model_at least_from t_of empty_model model_of keys_to put_node put_data put_child zero_record zero_run lowest_record lowest_slots place_node payloads_to fill_slot fill_slots node_on node_with build drop_node node_alone zeroed
pair = (refl, refl, refl, refl)

-- Damage that breaks no rule: the root's slots lead twice to record 1, whose run (slots 4 to 7) and that of record 2 (slots 6 to 9) overlap in
-- the slot that leads to record 3. No node has a key, and 7 nodes are read of 7 records.
abbrev tangled : Mem
tangled =
    mem
    (0 ∷ 1 ∷ 4 ∷ 0 ∷ 0 ∷ 0 ∷ 0 ∷ 0 ∷ 0 ∷ 1 ∷ 4 ∷ 4 ∷ 0 ∷ 0 ∷ 0 ∷ 0 ∷ 0 ∷ 1 ∷ 4 ∷ 6 ∷ 0 ∷ 0 ∷ 0 ∷ 0 ∷ 0 ∷ 1 ∷ 4 ∷ 10 ∷ 0 ∷ 0 ∷ 0 ∷ 0 ∷ replicate 24 0)
    (child 1 ∷ 0 ∷ child 2 ∷ 0 ∷ child 1 ∷ 0 ∷ (nulls 4 ++ (child 3 ∷ 0 ∷ nulls 6)))
    ((15 + (2 ^ 14 - 1) * 2 ^ 7) ∷ [])

abbrev emptied : Mem
emptied = mem (replicate 56 0) (nulls 14) (0 ∷ [])

untangled :
    (sound_below 8 1 0 0 tangled ≡ true)
    × (zeroed (nodes_below 0 0 tangled) tangled ≡ emptied)
    × (release longest_path tangled 0 ≡ emptied)
unfolding sound_below live_items listing items may_enter may_hold events_of events_at in_record in_slots in_slot first_in last_in count_in node_at node_fits node_in slot_at slot_says slot_of in_range used_at full_run clear_at clear_run zero_record zero_run drop_node nodes_met nodes_below zeroed release_slot release_slots release_record release
untangled = (refl, refl, refl)
