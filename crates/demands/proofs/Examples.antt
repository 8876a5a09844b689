-- Good memory by computation: the loads of P1 and of six keys (P4 with 1 for 0) and the inserts of P7 and P8 leave just the trees that are written down in
-- specs/Examples, in just the words that are written down in specs/Soundings. What is no Good memory is proofs/Fields. Assumes nothing.
use mathlib.Core.Bool.{true}
use mathlib.Core.List.{List, [], ◌∷◌}
use mathlib.Core.Path.{◌≡◌, refl, subst}
use native.Mathlib.Omega.{arith}
use Prim.Native.Nat.{ℕ, ◌<◌, ◌≤◌}
use lib.ListN.{length}
use Rattle.build.specs.Building.{payloads_to}
use Rattle.counters.specs.Counters.{one_more, raised_if, is_due}
use Rattle.insert.specs.Inserting.{Insert, insertion, scratch_fits, not_due, insert_of}
use Rattle.laws.specs.Answers.{done}
use Rattle.laws.specs.Keys.{key_bound, Rising}
use Rattle.marks.specs.Used.{used_at, mark_at, mark_run, first_from, first_unused, free_run, lowest_from, lowest_run}
use Rattle.model.specs.Choice.{slots_for, count_at, spread_below, spread, model_at, least_from, t_of, empty_model, model_of, choice_of}
use Rattle.model.specs.Groups.{keys_to}
use Rattle.model.specs.Slots.{slot_of}
use Rattle.pool.specs.Memory.{Mem}
use Rattle.store.proofs.Faults.{faultless_rises}
use Rattle.store.specs.Calls.{Call, call}
use Rattle.store.specs.Handles.{limits_hold, pools_are}
use Rattle.store.specs.Loading.{fault_from, first_fault, emptied, load_fits, load_of}
use Rattle.demands.specs.Demand2.{load_tree, LoadLeaves, InsertLeaves}
use Rattle.demands.specs.Examples.{p1_keys, p1_payloads, p1_old, p1_handle, p1_root, p1_slots, p7_handle, p7_root, p7_slots, p8_handle, p8_root, p8_slots, six_keys, six_payloads, six_handle, six_root, six_slots}
use Rattle.demands.specs.Growing.{is as grown, grow_slot, grow_slots, grow_on, grow_with, grow}
use Rattle.demands.specs.Paths.{path_b, path_f, below_b, below_f, graft_b, graft_f}
use Rattle.demands.specs.Placed.{Head, Forest, sub, Good}
use Rattle.demands.specs.Settling.{settles, due_b, due_f, insert_t}
use Rattle.demands.specs.Soundings.{old_pools, old_scratch, p1_pools, six_pools, p7_pools, p8_pools}
use Rattle.demands.proofs.Loads.{load_answers}
use Rattle.demands.proofs.Settling.{insert_answers}
use Rattle.demands.proofs.Soundings.{soundings}

pub p1_rises : Rising p1_keys
unfolding fault_from first_fault
p1_rises = faultless_rises p1_keys refl

pub six_rises : Rising six_keys
unfolding fault_from first_fault
six_rises = faultless_rises six_keys refl

pub p1_fits : load_fits 5 p1_keys p1_payloads p1_old ≡ true
unfolding limits_hold pools_are load_fits
p1_fits = refl

pub six_fits : load_fits 6 six_keys six_payloads old_pools ≡ true
unfolding limits_hold pools_are load_fits
six_fits = refl

-- the trees that document 01 describes over these keys, computed
pub p1_tree : load_tree p1_keys p1_payloads p1_old ≡ grown (sub p1_root p1_slots) p1_pools.used
unfolding slots_for count_at spread_below spread model_at least_from t_of empty_model model_of choice_of slot_of keys_to used_at mark_at mark_run first_from first_unused free_run lowest_from lowest_run payloads_to emptied grow_slot grow_slots grow_on grow_with grow
p1_tree = refl

pub six_tree : load_tree six_keys six_payloads old_pools ≡ grown (sub six_root six_slots) six_pools.used
unfolding slots_for count_at spread_below spread model_at least_from t_of empty_model model_of choice_of slot_of keys_to used_at mark_at mark_run first_from first_unused free_run lowest_from lowest_run payloads_to emptied grow_slot grow_slots grow_on grow_with grow
six_tree = refl

p1_load : load_of 5 p1_keys p1_payloads p1_old ≡ call (done []) p1_handle p1_pools
p1_load = soundings.1.1.1.1.1.1.1.1.1.0

six_load : load_of 6 six_keys six_payloads old_pools ≡ call (done []) six_handle six_pools
six_load = soundings.1.1.1.1.1.1.1.1.1.1.1.1.1.1.1.1.1.1.1.1.1.0

loaded-good : (c : ℕ) (ks ps : List ℕ) (m : Mem) → load_fits c ks ps m ≡ true → length ks ≤ c → Rising ks → (t : Head) (g : Forest) (u : List ℕ) → load_tree ks ps m ≡ grown (sub t g) u
    → (x : Call) → load_of c ks ps m ≡ x → Good x.handle x.memory t g
loaded-good c ks ps m f l r t g u e x s = subst (λ (y : Call). Good y.handle y.memory t g) s (subst (LoadLeaves c ks ps m (load_of c ks ps m)) e (load_answers c ks ps m f l r)).2

pub p1_good : Good p1_handle p1_pools p1_root p1_slots
p1_good = loaded-good 5 p1_keys p1_payloads p1_old p1_fits (omega arith) p1_rises p1_root p1_slots p1_pools.used p1_tree (call (done []) p1_handle p1_pools) p1_load

pub six_good : Good six_handle six_pools six_root six_slots
six_good = loaded-good 6 six_keys six_payloads old_pools six_fits (omega arith) six_rises six_root six_slots six_pools.used six_tree (call (done []) six_handle six_pools) six_load

-- The inserts of P7 and P8 leave the trees that are written down, computed, in the words that are written down.
pub scratch-fits : scratch_fits 5 old_scratch ≡ true
unfolding scratch_fits
scratch-fits = refl

pub p7_tree : insert_t p1_handle (sub p1_root p1_slots) p1_pools.used 25 9 ≡ settles 0 not_due (sub p7_root p7_slots)
unfolding slot_of path_b path_f below_b below_f graft_b graft_f due_b due_f one_more raised_if is_due
p7_tree = refl

pub p8_tree : insert_t p1_handle (sub p1_root p1_slots) p1_pools.used 5 9 ≡ settles 1 not_due (sub p8_root p8_slots)
unfolding slots_for count_at spread_below spread model_at least_from t_of empty_model model_of choice_of slot_of keys_to used_at mark_at mark_run first_from first_unused free_run lowest_from lowest_run payloads_to grow_slot grow_slots grow_on grow_with grow path_b path_f below_b below_f graft_b graft_f due_b due_f one_more raised_if is_due
p8_tree = refl

p7_insert : insert_of p1_handle 25 9 p1_pools old_scratch ≡ insertion (done (0 ∷ 0 ∷ [])) p7_handle p7_pools old_scratch
p7_insert = soundings.1.1.1.1.1.1.1.1.1.1.0

p8_insert : insert_of p1_handle 5 9 p1_pools old_scratch ≡ insertion (done (1 ∷ 0 ∷ [])) p8_handle p8_pools old_scratch
p8_insert = soundings.1.1.1.1.1.1.1.1.1.1.1.0

inserted-good : (k p conflict tidying : ℕ) → k < key_bound → (t : Head) (g : Forest) → insert_t p1_handle (sub p1_root p1_slots) p1_pools.used k p ≡ settles conflict tidying (sub t g)
    → (x : Insert) → insert_of p1_handle k p p1_pools old_scratch ≡ x → Good x.handle x.memory t g
inserted-good k p conflict tidying l t g e x s =
    subst (λ (y : Insert). Good y.handle y.memory t g) s
    (subst (InsertLeaves p1_handle p1_pools p1_slots k p (insert_of p1_handle k p p1_pools old_scratch)) e
    (insert_answers p1_handle p1_pools p1_root p1_slots p1_good k p l old_scratch scratch-fits)).2

pub p7_good : Good p7_handle p7_pools p7_root p7_slots
p7_good = inserted-good 25 9 0 not_due (omega arith) p7_root p7_slots p7_tree (insertion (done (0 ∷ 0 ∷ [])) p7_handle p7_pools old_scratch) p7_insert

pub p8_good : Good p8_handle p8_pools p8_root p8_slots
p8_good = inserted-good 5 9 1 not_due (omega arith) p8_root p8_slots p8_tree (insertion (done (1 ∷ 0 ∷ [])) p8_handle p8_pools old_scratch) p8_insert
