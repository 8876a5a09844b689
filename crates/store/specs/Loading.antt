-- Load (document 01, "The calls": "takes rising keys with payloads, treats the pools as empty, and builds"), on every input: the
-- answer, the handle and every lent word. Refusals: "1, 7, then the first place with 2 or 4 (2 wins at one place), 8"; a refused load
-- gives zeros for its handle and changes nothing. Definitions only.
use Rattle.std.specs.Prelude.{Bool, ◌&&◌, List, [], ◌∷◌, ◌≡◌, ℕ, ◌+◌, ◌≤◌, ltb, leb, eqb, length, replicate, None, Option, Some, Result, Ok, Err}
use Rattle.build.specs.Building.{Out, build}
use Rattle.build.specs.Sizes.{sizes_of, total}
use Rattle.laws.specs.Answers.{done, refused, refused_with, wrong_sizes, out_of_range, not_rising, full, no_room}
use Rattle.laws.specs.Keys.{key_bound, Rising}
use Rattle.laws.specs.Pick.{pick}
use Rattle.model.specs.Choice.{most_keys}
use Rattle.pool.specs.Memory.{Mem, mem, records_in, slots_in}
use Rattle.store.specs.Calls.{Call, call}
use Rattle.store.specs.Handles.{new_handle, most_records, most_pool_slots, map_words, limits_hold, pools_are, no_handle}
use Rattle.store.specs.declared.Fault.{Fault}
use Rattle.store.specs.declared.Fault.TheVariants.{OutOfRange as KeyOutOfRange, NotRising as KeyNotRising}
use Rattle.store.specs.declared.Handle.{Handle}
use Rattle.laws.specs.Refusals.{refusal}
use Rattle.laws.specs.declared.Refusal.{Refusal}
use Rattle.laws.specs.declared.Refusal.TheVariants.{OutOfRange, NotRising}
use Rattle.walk.specs.Walks.{longest_path}

-- the first fault of a list from place i on, where a key below `least` is not above its forerunner
unfoldable pub fault_from : ℕ → ℕ → List ℕ → Option Fault
fault_from i least [] = None
fault_from i least (k ∷ ks) =
    pick (ltb k key_bound) (pick (leb least k) (fault_from (i + 1) (k + 1) ks) (Some (KeyNotRising i))) (Some KeyOutOfRange)

unfoldable pub first_fault : List ℕ → Option Fault
first_fault ks = fault_from 0 0 ks

-- the pools as if empty: zeros
unfoldable pub emptied : Mem → Mem
emptied m = mem (replicate (length m.nodes) 0) (replicate (length m.slots) 0) (replicate (length m.used) 0)

-- row 1 of the answers, for a load: its capacity and the lent lists themselves
unfoldable pub load_fits : ℕ → List ℕ → List ℕ → Mem → Bool
load_fits capacity ks ps m =
    limits_hold capacity (records_in m.nodes) (slots_in m.slots)
    && (pools_are (records_in m.nodes) (slots_in m.slots) m && eqb (length ks) (length ps))

-- what is made of a build onto empty pools
unfoldable pub load_built : ℕ → ℕ → Mem → Option ℕ → Mem → Call
load_built capacity count m (Some r) after =
    call (done []) (new_handle r count capacity (records_in m.nodes) (slots_in m.slots)) after
load_built capacity count m None after = call (refused no_room) no_handle m

abbrev pub load_from : ℕ → ℕ → Mem → Out → Call
load_from capacity count m o = load_built capacity count m o.built o.memory

-- "treats the pools as empty, and builds"
unfoldable pub load_tree : ℕ → List ℕ → List ℕ → Mem → Call
load_tree capacity ks ps m = load_from capacity (length ks) m (build longest_path ks ps (emptied m))

unfoldable pub load_list : ℕ → List ℕ → List ℕ → Mem → Option Fault → Call
load_list capacity ks ps m None = load_tree capacity ks ps m
load_list capacity ks ps m (Some KeyOutOfRange) = call (refused out_of_range) no_handle m
load_list capacity ks ps m (Some (KeyNotRising p)) = call (refused_with not_rising (p ∷ [])) no_handle m

unfoldable pub load_of : ℕ → List ℕ → List ℕ → Mem → Call
load_of capacity ks ps m =
    pick (load_fits capacity ks ps m)
    (pick (leb (length ks) capacity) (load_list capacity ks ps m (first_fault ks)) (call (refused full) no_handle m))
    (call (refused wrong_sizes) no_handle m)

-- what each case of the code's answer is in document 01, with its handle and the memory left
unfoldable pub loaded : Result Handle Refusal → Mem → Call
loaded (Ok h) m = call (done []) h m
loaded (Err e) m = call (refusal e) no_handle m

-- the refusal of a fault
abbrev pub refusal_for : Fault → Refusal
refusal_for KeyOutOfRange = OutOfRange
refusal_for (KeyNotRising p) = NotRising p

-- What the code knows of a list and pools that it builds in.
pub record Loadable (ks ps : List ℕ) (m : Mem) : Type 0 where
  pub rising : Rising ks
  pub same : length ps ≡ length ks
  pub few : length ks ≤ most_keys
  pub records : records_in m.nodes ≤ most_records
  pub slots : slots_in m.slots ≤ most_pool_slots
  pub map : length m.used ≡ map_words (records_in m.nodes) (slots_in m.slots)

-- records for all nodes of the build, and slots for all their runs
pub record Roomy (ks : List ℕ) (m : Mem) : Type 0 where
  pub nodes : length (sizes_of longest_path ks) ≤ records_in m.nodes
  pub slots : total (sizes_of longest_path ks) ≤ slots_in m.slots
