-- Band, way by way: the refusals in their order, damage, and the output that the second reading leaves. Assumes nothing.
use mathlib.Core.Bool.{true, false}
use mathlib.Core.List.{List}
use mathlib.Core.Path.{◌≡◌, sym}
use Prim.Native.Nat.{ℕ, ◌<◌, ◌≤◌}
use borrow.Author.Tests.{eq-eqb, ne_eqb, lt-ltb, le-ltb, le-leb, lt-leb}
use lib.ListN.{length}
use lib.Seq.{sets}
use Rattle.laws.proofs.Tests.{both, true_not_false}
use Rattle.laws.specs.Keys.{key_bound}
use Rattle.listing.proofs.Counts.{counted_done, counted_damage}
use Rattle.listing.proofs.Listings.{relisted}
use Rattle.listing.proofs.Writes.{payloads_at}
use Rattle.listing.specs.Listing.{listing, count_from}
use Rattle.std.specs.Prelude.{Ok, Err}
use Rattle.std.specs.Result.{is_err}
use Rattle.laws.specs.declared.Refusal.{Refusal}
use Rattle.laws.specs.declared.Refusal.TheVariants.{WrongSizes, OutOfRange, Reversed, Damage}
use Rattle.listing.specs.declared.Listed.{Listed}
use Rattle.pool.specs.Memory.{Mem}
use Rattle.store.specs.Bands.{band, band_items, band_out, band_of, listed}
use Rattle.store.specs.Handles.{handle_fits}
use Rattle.store.specs.declared.Handle.{Handle}

module _ (h : Handle) (u v : ℕ) (m : Mem) (ks ps : List ℕ) where
  pub band-sizes : handle_fits h m ≡ false → band (listed (Err WrongSizes)) ks ps ≡ band_of h u v m ks ps
  unfolding band_of listed
  band-sizes e = rw e

  module _ (fits : handle_fits h m ≡ true) where
    pub band_unequal : (length ks ≡ length ps → ⊥) → band (listed (Err WrongSizes)) ks ps ≡ band_of h u v m ks ps
    unfolding band_of listed
    band_unequal e = rw (fits, ne_eqb (length ks) (length ps) e)

    module _ (same : length ks ≡ length ps) where
      pub band-first-out : key_bound ≤ u → band (listed (Err OutOfRange)) ks ps ≡ band_of h u v m ks ps
      unfolding band_of listed
      band-first-out e = rw (fits, eq-eqb (length ks) (length ps) same, le-ltb u key_bound e)

      module _ (low : u < key_bound) where
        pub band_last_out : key_bound ≤ v → band (listed (Err OutOfRange)) ks ps ≡ band_of h u v m ks ps
        unfolding band_of listed
        band_last_out e = rw (fits, eq-eqb (length ks) (length ps) same, lt-ltb u key_bound low, le-ltb v key_bound e)

        module _ (high : v < key_bound) where
          pub band-reversed : v < u → band (listed (Err Reversed)) ks ps ≡ band_of h u v m ks ps
          unfolding band_of listed
          band-reversed e = rw (fits, eq-eqb (length ks) (length ps) same, lt-ltb u key_bound low, lt-ltb v key_bound high, lt-leb u v e)

          module _ (order : u ≤ v) where
            at_listing : band_out m (listing u v (length ks) (band_items h u v m)) ks ps ≡ band_of h u v m ks ps
            unfolding band_of
            at_listing = rw (fits, eq-eqb (length ks) (length ps) same, lt-ltb u key_bound low, lt-ltb v key_bound high, le-leb u v order)

            pub band-damage : (r : Refusal) → Err r ≡ count_from 0 (listing u v (length ks) (band_items h u v m)) → band (listed (Err r)) ks ps ≡ band_of h u v m ks ps
            unfolding band_out listed
            band-damage r e =
                let d = counted_damage (listing u v (length ks) (band_items h u v m)) r e in
                rw d.1 (rw d.0 at at_listing)

            pub band-done : (x : Listed) → Ok x ≡ count_from 0 (listing u v (length ks) (band_items h u v m))
                → (ks' ps' : List ℕ) → ks' ≡ sets ks 0 (listing u v x.count (band_items h u v m)).keys
                → ps' ≡ sets ps 0 (payloads_at m.slots (listing u v x.count (band_items h u v m)).places)
                → band (listed (Ok x)) ks' ps' ≡ band_of h u v m ks ps
            unfolding band_out listed
            band-done x e ks' ps' p q =
                let c = counted_done (listing u v (length ks) (band_items h u v m)) x e in
                let r = relisted u v (band_items h u v m) (length ks) in
                rw (p, q, c.2, c.1, r.0, r.1) (rw c.0 at at_listing)

-- a listing in which damage was met is refused
pub band_damaged : (h : Handle) (u v : ℕ) (m : Mem) (ks ps : List ℕ) → handle_fits h m ≡ true → length ks ≡ length ps → u < key_bound → v < key_bound → u ≤ v
    → is_err (count_from 0 (listing u v (length ks) (band_items h u v m))) ≡ true → band_of h u v m ks ps ≡ band (listed (Err Damage)) ks ps
unfolding band_of band_out listed count_from
band_damaged h u v m ks ps fits same low high order e =
    both (listing u v (length ks) (band_items h u v m)).sound
    (λ t. absurd (true_not_false (sym (rw t at e))))
    (λ t. rw (fits, eq-eqb (length ks) (length ps) same, lt-ltb u key_bound low, lt-ltb v key_bound high, le-leb u v order, t))
