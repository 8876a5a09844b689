-- Laws of load: its tests, a law for each refusal, and that the sums of the build's sizes decide whether there is room, since
-- the pools count as empty. Assumes nothing.
use Rattle.std.specs.Prelude.{None, Option, Some, Ok, Err}
use mathlib.Core.Bool.{true, false}
use mathlib.Core.List.{List}
use mathlib.Core.Path.{◌≡◌, refl, sym, ap, ◌∙◌}
use Prim.Native.Nat.{ℕ, ◌+◌, ◌*◌, ◌<◌, ◌≤◌}
use native.Mathlib.Omega.{arith}
use borrow.Author.Tests.{le-leb, lt-leb, eqb-true}
use lib.ListN.{length, length-replicate}
use Rattle.build.proofs.Rooms.{empty_builds, builds_empty}
use Rattle.build.specs.Building.{Out, out, build}
use Rattle.build.specs.Hints.{Sized}
use Rattle.laws.proofs.Tests.{and_both}
use Rattle.model.proofs.Heights.{height-within}
use Rattle.model.specs.Height.{height}
use Rattle.pool.specs.Memory.{Mem, records_in, slots_in}
use Rattle.store.proofs.Faults.{faultless_rises}
use Rattle.store.proofs.Fitting.{limits_given, pools_given}
use Rattle.store.specs.Calls.{Call}
use Rattle.store.specs.Handles.{new_handle, limits_hold, pools_are}
use Rattle.store.specs.Loading.{first_fault, refusal_for, emptied, load_fits, load_built, load_tree, load_list, load_of, loaded, Loadable, Roomy}
use Rattle.store.specs.declared.Fault.{Fault}
use Rattle.store.specs.declared.Fault.TheVariants.{OutOfRange as KeyOutOfRange, NotRising as KeyNotRising}
use Rattle.laws.specs.declared.Refusal.TheVariants.{WrongSizes, Full, NoRoom}
use Rattle.store.specs.declared.Handle.{Handle}
use Rattle.walk.specs.Walks.{longest_path}

module _ (c : ℕ) (ks ps : List ℕ) (m : Mem) where
  -- what is known of a list and pools that pass, rise and fit
  pub loadable : load_fits c ks ps m ≡ true → length ks ≤ c → first_fault ks ≡ None → Loadable ks ps m
  unfolding load_fits
  loadable e le f =
      let a = and_both (limits_hold c (records_in m.nodes) (slots_in m.slots)) _ e in
      let b = and_both (pools_are (records_in m.nodes) (slots_in m.slots) m) _ a.1 in
      let l = limits_given _ _ _ a.0 in
      let p = pools_given _ _ _ b.0 in
      record {
        rising = faultless_rises ks f;
        same = sym (eqb-true _ _ b.1);
        few = omega (arith, l.capacity-most);
        records = l.records-most;
        slots = l.slots-most;
        map = p.map_is;
      }

  -- the refusals
  pub load-sizes : load_fits c ks ps m ≡ false → loaded (Err WrongSizes) m ≡ load_of c ks ps m
  unfolding loaded load_of
  load-sizes e = rw e

  module _ (e : load_fits c ks ps m ≡ true) where
    pub load_full : c < length ks → loaded (Err Full) m ≡ load_of c ks ps m
    unfolding loaded load_of
    load_full lt = rw (e, lt-leb (length ks) c lt)

    module _ (le : length ks ≤ c) where
      pub load-fault : (f : Fault) → first_fault ks ≡ Some f → loaded (Err (refusal_for f)) m ≡ load_of c ks ps m
      unfolding loaded load_of load_list
      load-fault KeyOutOfRange f = rw (e, le-leb (length ks) c le, f)
      load-fault (KeyNotRising p) f = rw (e, le-leb (length ks) c le, f)

      pub load_tree-load_of : (x : Call) → first_fault ks ≡ None → x ≡ load_tree c ks ps m → x ≡ load_of c ks ps m
      unfolding load_of load_list
      load_tree-load_of x f q = rw (e, le-leb (length ks) c le, f, q)

-- onto empty pools
module _ (c : ℕ) (ks ps : List ℕ) (m : Mem) (l : Loadable ks ps m) where
  zero_records : records_in (emptied m).nodes ≡ records_in m.nodes
  unfolding emptied
  zero_records = rw (length-replicate {A = ℕ} (length m.nodes) 0)

  zero_slots : slots_in (emptied m).slots ≡ slots_in m.slots
  unfolding emptied
  zero_slots = rw (length-replicate {A = ℕ} (length m.slots) 0)

  zero_words : length (emptied m).used ≡ length m.used
  unfolding emptied
  zero_words = length-replicate {A = ℕ} (length m.used) 0

  enough : height (length ks) ≤ longest_path
  enough = omega (arith, height-within (length ks) l.few)

  mapped : records_in (emptied m).nodes + slots_in (emptied m).slots ≤ length m.used * 64
  mapped = rw (zero_records, zero_slots) (omega (arith, l.map))

  pub empty-sized : (n : Mem) → n ≡ emptied m → Sized n
  empty-sized n e =
      rw e
      (record {
        mapped = omega (arith, mapped, zero_words);
        records = omega (arith, zero_records, l.records);
        slots = omega (arith, zero_slots, l.slots);
      })

  built_roomy : (r : ℕ) → (build longest_path ks ps (emptied m)).built ≡ Some r → Roomy ks m
  unfolding emptied
  built_roomy r e =
      let h = builds_empty longest_path ks l.rising enough ps (emptied m).nodes (emptied m).slots (length m.used) mapped r e in
      record { nodes = omega (arith, h.0, zero_records); slots = omega (arith, h.1, zero_slots) }

  roomy_built : Roomy ks m → (r : ℕ) × ((build longest_path ks ps (emptied m)).built ≡ Some r)
  unfolding emptied
  roomy_built y =
      empty_builds longest_path ks l.rising enough ps (emptied m).nodes (emptied m).slots (length m.used) mapped
      (omega (arith, y.nodes, zero_records)) (omega (arith, y.slots, zero_slots))

  -- too few records or slots: no room, and nothing was stored
  pub load-roomless : (Roomy ks m → ⊥) → loaded (Err NoRoom) m ≡ load_tree c ks ps m
  unfolding loaded load_tree load_built
  load-roomless lacks = go (build longest_path ks ps (emptied m)).built refl
    where
      go : (b : Option ℕ) → (build longest_path ks ps (emptied m)).built ≡ b → loaded (Err NoRoom) m ≡ load_tree c ks ps m
      go (Some r) e = absurd (lacks (built_roomy r e))
      go None e = rw e

  module _ (y : Roomy ks m) (b : Option ℕ) (after : Mem) (e : out b after ≡ build longest_path ks ps (emptied m)) where
    pub load-done : (r : ℕ) (h : Handle) → b ≡ Some r
        → h ≡ new_handle r (length ks) c (records_in m.nodes) (slots_in m.slots)
        → loaded (Ok h) after ≡ load_tree c ks ps m
    unfolding loaded load_tree load_built
    load-done r h f g = rw (← e, f, g)

    pub load_cannot : b ≡ None → ⊥
    load_cannot f =
        let q = roomy_built y in
        let a : b ≡ Some q.0 = ap (λ (o : Out). o.built) e ∙ q.1 in
        let z : ◌≡◌ {A = ℕ} 0 1 = cc in
        omega arith
