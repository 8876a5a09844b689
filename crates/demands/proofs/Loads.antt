-- Load: a build onto empty pools, so that memory holds just the tree that document 01 describes. Assumes nothing.
use Rattle.std.specs.Prelude.{None}
use mathlib.Core.Bool.{Bool, true, false}
use mathlib.Core.List.{List, [], ◌∷◌}
use mathlib.Core.Path.{◌≡◌, refl, sym, subst⁻¹, ap, ◌∙◌}
use native.Mathlib.Nat.{zero-div}
use native.Mathlib.Omega.{arith}
use Prim.Native.Nat.{ℕ, zero, suc, zero-le, ◌+◌, ◌*◌, ◌-◌, ◌<◌, ◌≤◌, ◌/◌, ◌%◌, ◌^◌}
use lib.Dec.{ltb}
use lib.ListN.{length, get_or, replicate, length-replicate}
use borrow.Author.Tests.{lt-ltb, le-leb, eqb-true}
use Rattle.build.specs.Building.{Out, build}
use Rattle.laws.proofs.Risings.{rising_tail}
use Rattle.laws.proofs.Tests.{and_both}
use Rattle.laws.specs.Keys.{key_bound, Rising}
use Rattle.laws.specs.Pick.{pick}
use Rattle.pool.proofs.Sets.{zeros-words}
use Rattle.pool.specs.Memory.{Mem, records_in, slots_in}
use Rattle.store.proofs.Fitting.{Limits, limits_given, pools_given}
use Rattle.store.specs.Calls.{Call}
use Rattle.store.specs.Handles.{limits_hold, pools_are}
use Rattle.store.specs.Loading.{fault_from, first_fault, emptied, load_fits, load_built, load_from, load_tree as tree_load, load_list, load_of}
use Rattle.walk.specs.Walks.{longest_path}
use Rattle.demands.specs.Demand2.{load_tree, load_handle, LoadLeaves, LoadAnswers}
use Rattle.demands.specs.Growing.{Grown, is as grown, no_room as roomless}
use Rattle.demands.specs.Map.{bulkload, size}
use Rattle.demands.specs.Placed.{null, leaf, sub, Word, bit, in_node, in_slot, cell_w, in_b, view, Words}
use Rattle.demands.specs.Stores.{ours}
use Rattle.demands.proofs.Adding.{Fine}
use Rattle.demands.proofs.Fitting.{kept_good}
use Rattle.demands.proofs.Growing.{Agrees, grow_agrees}
use Rattle.demands.proofs.Walking.{Sized}

-- a list that rises has no fault
fault_free : (i least : ℕ) (ks : List ℕ) → ((j : ℕ) → j < length ks → least ≤ get_or ks j 0) → Rising ks → fault_from i least ks ≡ None
unfolding fault_from
fault_free i least [] h r = refl
fault_free i least (k ∷ ks) h r =
    rw (lt-ltb k key_bound (r.below 0 (omega arith)), le-leb least k (h 0 (omega arith)))
    (fault_free (i + 1) (k + 1) ks (λ j l. let a = r.rises 0 (suc j) (omega arith) (omega arith) in omega arith) (rising_tail k ks r))

pub rises_faultless : (ks : List ℕ) → Rising ks → first_fault ks ≡ None
unfolding first_fault
rises_faultless ks r = fault_free 0 0 ks (λ j l. zero-le) r

-- empty pools
zeros_get : (n i : ℕ) → get_or {A = ℕ} (replicate n 0) i 0 ≡ 0
zeros_get zero i = refl
zeros_get (suc n) zero = refl
zeros_get (suc n) (suc i) = zeros_get n i

same_way : (a b : Bool) → pick {A = ℕ} a (pick b 0 0) 0 ≡ 0
same_way true true = refl
same_way true false = refl
same_way false b = refl

pub empty-view : (R : ℕ) (m : Mem) (x : ℕ) (w : Word) → view R (emptied m) x w ≡ 0
unfolding view emptied
empty-view R m x bit = rw (zeros_get (length m.used) (x / 64), zero-div (2 ^ (x % 64)))
empty-view R m x (in_node i) = rw (zeros_get (length m.nodes) (x * 8 + i)) (same_way (ltb i 8) (ltb x R))
empty-view R m x (in_slot i) = rw (zeros_get (length m.slots) ((x - R) * 2 + i)) (same_way (ltb i 2) (ltb x R))

empty-words : (m : Mem) → Words (emptied m).used
unfolding emptied
empty-words m = zeros-words (length m.used)

pub empty_fine : (R S : ℕ) (m : Mem) → Sized R S m → Fine R S (emptied m)
unfolding emptied
empty_fine R S m s = record {
  sized = record { nodes = length-replicate _ 0 ∙ s.nodes; slots = length-replicate _ 0 ∙ s.slots; used = length-replicate _ 0 ∙ s.used; few = s.few };
  clean = λ x z w. empty-view R m x w;
  words = empty-words m;
}

pub size-load : (ks ps : List ℕ) → length ps ≡ length ks → size (bulkload ks ps) ≡ length ks
size-load [] ps e = refl
size-load (k ∷ ks) [] e = absurd (no e)
  where
    no : ◌≡◌ {A = ℕ} 0 (suc (length ks)) → ⊥
    no h = omega arith
size-load (k ∷ ks) (p ∷ ps) e = ap suc (size-load ks ps (omega arith))

-- what a load is given
pub record Given (c : ℕ) (ks ps : List ℕ) (m : Mem) : Type 0 where
  pub limits : Limits c (records_in m.nodes) (slots_in m.slots)
  pub sized : Sized (records_in m.nodes) (slots_in m.slots) m
  pub same : length ps ≡ length ks

pub given : (c : ℕ) (ks ps : List ℕ) (m : Mem) → load_fits c ks ps m ≡ true → Given c ks ps m
unfolding load_fits
given c ks ps m e =
    let a = and_both (limits_hold c (records_in m.nodes) (slots_in m.slots)) _ e in
    let b = and_both (pools_are (records_in m.nodes) (slots_in m.slots) m) _ a.1 in
    let l = limits_given _ _ _ a.0 in
    let p = pools_given _ _ _ b.0 in
    record { limits = l; sized = record { nodes = p.nodes-are; slots = p.slots-are; used = p.map_is; few = omega (arith, l.records-most) }; same = sym (eqb-true _ _ b.1) }

module _ (c : ℕ) (ks ps : List ℕ) (m : Mem) (fits : load_fits c ks ps m ≡ true) (few : length ks ≤ c) (rises : Rising ks) where
  gv : Given c ks ps m
  gv = given c ks ps m fits

  load_is : load_of c ks ps m ≡ load_from c (length ks) m (build longest_path ks ps (emptied m))
  unfolding load_of load_list tree_load
  load_is = rw (fits, le-leb (length ks) c few, rises_faultless ks rises)

  leaves : (x : Out) (w : Grown) → Agrees (records_in m.nodes) (slots_in m.slots) longest_path (emptied m) (bulkload ks ps) w x → LoadLeaves c ks ps m (load_from c (length ks) m x) w
  unfolding load_built gv
  leaves x (grown null u) a = absurd a
  leaves x (grown (leaf k p) u) a = absurd a
  leaves x (grown (sub t g) u) a =
      rw a.0 (
        refl,
        refl,
        kept_good (load_handle t.at (length ks) c m) x.memory t g gv.limits few refl (sym (ap size a.2.flat ∙ size-load ks ps gv.same)) (record {
          image = λ y w. a.2.adds.law y w ∙ ap (λ (n : ℕ). n + in_b (records_in m.nodes) (cell_w w) y (sub t g)) (empty-view (records_in m.nodes) m y w) ∙ zero_plus _;
          okay = a.2.okay;
          deep = a.2.deep;
          sized = a.2.adds.fine.sized;
          words = a.2.adds.fine.words;
        }),
        a.2.flat,
        a.1,
      )
    where
      zero_plus : (n : ℕ) → 0 + n ≡ n
      zero_plus n = omega arith
  leaves x roomless a = rw a

  loads : LoadLeaves c ks ps m (load_of c ks ps m) (load_tree ks ps m)
  unfolding gv
  loads =
      subst⁻¹ (λ (y : Call). LoadLeaves c ks ps m y (load_tree ks ps m)) load_is
      (leaves (build longest_path ks ps (emptied m)) (load_tree ks ps m) (grow_agrees (records_in m.nodes) (slots_in m.slots) longest_path (emptied m) ks ps (empty_fine _ _ m gv.sized) rises gv.same))

pub load_answers : LoadAnswers ours
load_answers c ks ps m fits few rises = loads c ks ps m fits few rises
