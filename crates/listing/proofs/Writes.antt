-- The second reading, element by element: the output is filled from the front with just what the first reading counted. Assumes
-- nothing.
use mathlib.Core.List.{List, [], map}
use mathlib.Core.Path.{◌≡◌, ap}
use Prim.Native.Nat.{ℕ, suc, ◌+◌, ◌-◌, ◌<◌, ◌≤◌}
use native.Mathlib.Numerals.{add-one}
use native.Mathlib.Omega.{arith}
use lib.ListN.{length, get_or, set}
use lib.Seq.{sets}
use Rattle.listing.specs.Listing.{Listing, listing, first, left, Inside, Lands}
use Rattle.listing.proofs.Landings.{rest, left-held, left-broken, left_end, held-inside}
use Rattle.listing.proofs.Listings.{inside_is_listed, listing_without_room}
use Rattle.pool.specs.Memory.{Mem, payload_word}
use Rattle.walk.specs.Moves.{Holds}
use Rattle.walk.specs.declared.Item.{Item}
use Rattle.walk.specs.declared.Item.TheVariants.{Held, Broken, End}
use Rattle.walk.specs.declared.Next.{Next}
use Rattle.walk.specs.declared.Span.{Span}

-- the payloads of slots
abbrev pub payloads_at : List ℕ → List ℕ → List ℕ
payloads_at ss qs = map (λ (q : ℕ). get_or ss (payload_word q) 0) qs

-- from place `at` on the output is written up to place n, and x is the next; with what is left it holds the whole
pub record Writing (s : Span) (m : Mem) (above u v at count : ℕ) (whole : Listing) (ks₀ ps₀ : List ℕ) (n : ℕ) (x : Next) (rs js ks ps : List ℕ) : Type 0 where
  pub stands : Holds s m above x.item x.cursor
  pub within : Inside u v x.item
  pub keys : sets ks n (listing u v (at + count - n) (left s m above x rs js)).keys ≡ sets ks₀ at whole.keys
  pub payloads : sets ps n (payloads_at m.slots (listing u v (at + count - n) (left s m above x rs js)).places) ≡ sets ps₀ at (payloads_at m.slots whole.places)
  pub reaches : n + length (listing u v (at + count - n) (left s m above x rs js)).keys ≡ at + length whole.keys

-- what a reading that is over leaves: the output and the place after the last
pub record Wrote (at : ℕ) (l : Listing) (ss ks ps ks' ps' : List ℕ) (n : ℕ) : Type 0 where
  pub place : n ≡ at + length l.keys
  pub keys : ks' ≡ sets ks at l.keys
  pub payloads : ps' ≡ sets ps at (payloads_at ss l.places)

module _ (s : Span) (m : Mem) (above u v at count : ℕ) where
  -- none is written yet
  pub writing_first : (is : List Item) (x : Next) (rs js ks ps : List ℕ) → Lands s m above u v is x rs js
      → Writing s m above u v at count (listing u v count (left s m above x rs js)) ks ps at x rs js ks ps
  writing_first is x rs js ks ps l =
      let z : at + count - at ≡ count = omega arith in
      record { stands = l.stands; within = l.within; keys = rw z; payloads = rw z; reaches = rw z }

  -- all is written: the output holds what the items list
  pub all_written : (is : List Item) (x : Next) (rs js ks ps ks' ps' : List ℕ) (n : ℕ) → Lands s m above u v is x rs js
      → Wrote at (listing u v count (left s m above x rs js)) m.slots ks ps ks' ps' n
      → Wrote at (listing u v count is) m.slots ks ps ks' ps' n
  all_written is x rs js ks ps ks' ps' n l w = rw (l.lists count) at w

  -- a place of what is to be written is one of the output
  pub place-within : (is : List Item) (x : Next) (rs js : List ℕ) → Lands s m above u v is x rs js → (n len : ℕ)
      → at + length (listing u v count is).keys ≤ len → n < at + length (listing u v count (left s m above x rs js)).keys → n < len
  place-within is x rs js l n len h i = let e = ap (λ (z : Listing). length z.keys) (l.lists count) in omega (arith, e)

  module _ (is : Listing) (ks₀ ps₀ : List ℕ) (n : ℕ) (x : Next) (rs js ks ps : List ℕ)
      (w : Writing s m above u v at count is ks₀ ps₀ n x rs js ks ps) where
    -- an element between u and v, with one more to write
    module _ (q k : ℕ) (e : x.item ≡ Held q k) (h : n < at + count) where
      one-listed : listing u v (at + count - n) (left s m above x rs js) ≡ first q k (listing u v (at + count - (n + 1)) (rest s m above x rs js))
      one-listed =
          let z : at + count - n ≡ suc (at + count - (n + 1)) = omega arith in
          rw (left-held s m above x rs js q k e, z)
          (inside_is_listed u v q k (rest s m above x rs js) (held-inside u v x q k e w.within) (at + count - (n + 1)))

      reaches_on : n + 1 + length (listing u v (at + count - (n + 1)) (rest s m above x rs js)).keys ≡ at + length is.keys
      reaches_on =
          let r : n + length (first q k (listing u v (at + count - (n + 1)) (rest s m above x rs js))).keys ≡ at + length is.keys = rw one-listed at w.reaches in
          omega (arith, r)

      -- it has a place in the output
      pub writing_within : n < at + length is.keys
      writing_within = omega (arith, reaches_on)

      pub writing_next : (y : Next) (rs' js' : List ℕ) → Lands s m above u v (rest s m above x rs js) y rs' js'
          → Writing s m above u v at count is ks₀ ps₀ (n + 1) y rs' js' (set ks n k) (set ps n (get_or m.slots (payload_word q) 0))
      writing_next y rs' js' l =
          record {
            stands = l.stands;
            within = l.within;
            keys = rw (l.lists (at + count - (n + 1)), add-one n) (rw (one-listed, add-one n) at w.keys);
            payloads = rw (l.lists (at + count - (n + 1)), add-one n) (rw (one-listed, add-one n) at w.payloads);
            reaches = rw (l.lists (at + count - (n + 1))) reaches_on;
          }

    -- nothing is left to write
    over : (listing u v (at + count - n) (left s m above x rs js)).keys ≡ [] → (listing u v (at + count - n) (left s m above x rs js)).places ≡ [] → Wrote at is m.slots ks₀ ps₀ ks ps n
    over a b =
        let r : n + 0 ≡ at + length is.keys = rw a at w.reaches in
        record { place = omega (arith, r); keys = rw a at w.keys; payloads = rw b at w.payloads }

    pub writing_done : at + count ≤ n → Wrote at is m.slots ks₀ ps₀ ks ps n
    writing_done h =
        let z : at + count - n ≡ 0 = omega arith in
        let t = listing_without_room u v (left s m above x rs js) in
        over (rw z t.0) (rw z t.1)

    pub writing_broken : x.item ≡ Broken → Wrote at is m.slots ks₀ ps₀ ks ps n
    unfolding listing
    writing_broken e = over (rw (left-broken s m above x rs js e)) (rw (left-broken s m above x rs js e))

    pub writing_end : x.item ≡ End → Wrote at is m.slots ks₀ ps₀ ks ps n
    unfolding listing
    writing_end e = over (rw (left_end s m above x rs js e)) (rw (left_end s m above x rs js e))
