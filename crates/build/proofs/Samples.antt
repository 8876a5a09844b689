-- The build of P4 by computation: root record 0 at slots 0 to 11, children at runs 12 and 16, their keys at slots 1 and 2.
-- Assumes nothing.
use Rattle.std.specs.Prelude.{Some}
use mathlib.Core.List.{List, [], ◌∷◌}
use mathlib.Core.Path.{◌≡◌, refl}
use Prim.Native.Nat.{ℕ, ◌+◌, ◌*◌, ◌^◌, ◌-◌}
use lib.ListN.{replicate}
use Rattle.marks.specs.Used.{used_at, mark_at, mark_run, first_from, first_unused, free_run, lowest_from, lowest_run}
use Rattle.model.specs.Choice.{slots_for, count_at, spread_below, spread, model_at, least_from, t_of, empty_model, model_of}
use Rattle.model.specs.Groups.{keys_to}
use Rattle.model.specs.Slots.{slot_of}
use Rattle.pool.specs.Memory.{Mem, mem}
use Rattle.pool.specs.Writing.{put_node, put_data, put_child, zero_run}
use Rattle.build.specs.Building.{lowest_record, lowest_slots, place_node, payloads_to, fill_slot, fill_slots, node_on, node_with, build, out}
use Rattle.build.specs.Sizes.{sizes_of, sizes_under, depth_of, depth_under}

-- 4 records and 20 slots, with junk in the slots
before : Mem
before = mem (replicate 32 0) (replicate 40 7) (0 ∷ [])

p4 : List ℕ
p4 = 0 ∷ 100 ∷ 101 ∷ 102 ∷ 10000 ∷ 20000 ∷ []

after : Mem
after =
    mem
    (101 ∷ 2 ∷ 12 ∷ 0 ∷ 6 ∷ 6 ∷ 0 ∷ 0 ∷ 0 ∷ 101 ∷ 4 ∷ 12 ∷ 2 ∷ 2 ∷ 0 ∷ 0 ∷ 10000 ∷ 10001 ∷ 4 ∷ 16 ∷ 2 ∷ 2 ∷ 0 ∷ 0 ∷ 0 ∷ 0 ∷ 0 ∷ 0 ∷ 0 ∷ 0 ∷ 0 ∷ 0 ∷ [])
    ((2 * 2 ^ 48 + 1) ∷ 0 ∷ (2 ^ 48 + 101) ∷ 3 ∷ 0 ∷ 0 ∷ 0 ∷ 0 ∷ 0 ∷ 0 ∷ 0 ∷ 0 ∷ (2 ^ 48 + 102) ∷ 4 ∷ 0 ∷ 0 ∷ 0 ∷ 0 ∷ 0 ∷ 0 ∷ 0 ∷ 0 ∷ (2 * 2 ^ 48 + 2) ∷ 0
    ∷ 0 ∷ 0 ∷ (2 ^ 48 + 0) ∷ 1 ∷ (2 ^ 48 + 100) ∷ 2 ∷ 0 ∷ 0
    ∷ 0 ∷ 0 ∷ (2 ^ 48 + 10000) ∷ 5 ∷ (2 ^ 48 + 20000) ∷ 6 ∷ 0 ∷ 0 ∷ [])
    ((7 + (2 ^ 20 - 1) * 16) ∷ [])

p4_built : build 3 p4 (1 ∷ 2 ∷ 3 ∷ 4 ∷ 5 ∷ 6 ∷ []) before ≡ out (Some 0) after
unfolding before p4 after used_at mark_at mark_run first_from first_unused free_run lowest_from lowest_run slots_for count_at spread_below spread model_at least_from t_of empty_model model_of keys_to slot_of put_node put_data put_child zero_run lowest_record lowest_slots place_node payloads_to fill_slot fill_slots node_on node_with build
p4_built = refl

p4_sizes : sizes_of 3 p4 ≡ 12 ∷ 4 ∷ 4 ∷ []
unfolding p4 slots_for count_at spread_below spread model_at least_from t_of empty_model model_of keys_to slot_of sizes_of sizes_under
p4_sizes = refl

p4_depth : depth_of 3 p4 ≡ 2
unfolding p4 slots_for count_at spread_below spread model_at least_from t_of empty_model model_of keys_to slot_of depth_of depth_under
p4_depth = refl
