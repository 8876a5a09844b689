-- When a handle fits the lent pools: the tests of specs/Handles as records of facts, both ways. Assumes nothing.
use mathlib.Core.Bool.{true}
use mathlib.Core.Path.{◌≡◌, sym}
use Prim.Native.Nat.{ℕ, ◌*◌, ◌≤◌}
use native.Mathlib.Omega.{arith}
use borrow.Author.Tests.{le-leb, leb-true, eq-eqb, eqb-true}
use lib.Dec.{leb, eqb}
use lib.ListN.{length}
use Rattle.laws.proofs.Tests.{and_both, and_true}
use Rattle.pool.specs.Memory.{Mem, record_words, slot_words, records_in, slots_in}
use Rattle.store.specs.Handles.{least_capacity, most_capacity, least_records, most_records, least_pool_slots, most_pool_slots, within, map_words, pools_are, limits_hold, handle_fits}
use Rattle.store.specs.declared.Handle.{Handle}

pub record Limits (capacity records slots : ℕ) : Type 0 where
  pub capacity-least : least_capacity ≤ capacity
  pub capacity-most : capacity ≤ most_capacity
  pub records-least : least_records ≤ records
  pub records-most : records ≤ most_records
  pub slots-least : least_pool_slots ≤ slots
  pub slots-most : slots ≤ most_pool_slots

module _ (c r s : ℕ) where
  pub limits_pass : Limits c r s → true ≡ limits_hold c r s
  unfolding limits_hold
  limits_pass h =
      sym (and_true (and_true (le-leb least_capacity c h.capacity-least) (le-leb c most_capacity h.capacity-most))
      (and_true (and_true (le-leb least_records r h.records-least) (le-leb r most_records h.records-most))
      (and_true (le-leb least_pool_slots s h.slots-least) (le-leb s most_pool_slots h.slots-most))))

  pub limits_given : limits_hold c r s ≡ true → Limits c r s
  unfolding limits_hold
  limits_given e =
      let a = and_both (within least_capacity most_capacity c) _ e in
      let b = and_both (within least_records most_records r) _ a.1 in
      let x = and_both (leb least_capacity c) _ a.0 in
      let y = and_both (leb least_records r) _ b.0 in
      let z = and_both (leb least_pool_slots s) _ b.1 in
      record {
        capacity-least = leb-true _ _ x.0;
        capacity-most = leb-true _ _ x.1;
        records-least = leb-true _ _ y.0;
        records-most = leb-true _ _ y.1;
        slots-least = leb-true _ _ z.0;
        slots-most = leb-true _ _ z.1;
      }

pub record Pools (records slots : ℕ) (m : Mem) : Type 0 where
  pub nodes-are : length m.nodes ≡ records * record_words
  pub slots-are : length m.slots ≡ slots * slot_words
  pub map_is : length m.used ≡ map_words records slots

module _ (r s : ℕ) (m : Mem) where
  pub pools_pass : Pools r s m → true ≡ pools_are r s m
  unfolding pools_are
  pools_pass h = sym (and_true (eq-eqb _ _ h.nodes-are) (and_true (eq-eqb _ _ h.slots-are) (eq-eqb _ _ h.map_is)))

  pub pools_given : pools_are r s m ≡ true → Pools r s m
  unfolding pools_are
  pools_given e =
      let a = and_both (eqb (length m.nodes) (r * record_words)) _ e in
      let b = and_both (eqb (length m.slots) (s * slot_words)) _ a.1 in
      record { nodes-are = eqb-true _ _ a.0; slots-are = eqb-true _ _ b.0; map_is = eqb-true _ _ b.1 }

pub record Fits (h : Handle) (m : Mem) : Type 0 where
  pub limits : Limits h.capacity h.records h.slots
  pub pools : Pools h.records h.slots m
  pub count : h.count ≤ h.capacity

module _ (h : Handle) (m : Mem) where
  pub fits_given : handle_fits h m ≡ true → Fits h m
  unfolding handle_fits
  fits_given e =
      let a = and_both (limits_hold h.capacity h.records h.slots) _ e in
      let b = and_both (pools_are h.records h.slots m) _ a.1 in
      record { limits = limits_given _ _ _ a.0; pools = pools_given _ _ _ b.0; count = leb-true _ _ b.1 }

  pub fits_count : limits_hold h.capacity h.records h.slots ≡ true → pools_are h.records h.slots m ≡ true → leb h.count h.capacity ≡ handle_fits h m
  unfolding handle_fits
  fits_count e f = rw (e, f)

  -- how many records and slots there are
  module _ (f : Fits h m) where
    pub records_of : records_in m.nodes ≡ h.records
    records_of = omega (arith, f.pools.nodes-are)

    pub slots_of : slots_in m.slots ≡ h.slots
    slots_of = omega (arith, f.pools.slots-are)
