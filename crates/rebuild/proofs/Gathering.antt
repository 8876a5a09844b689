-- Gathering the keys of a rebuild: the live keys up to the new one, the new key, and the live keys after it are as many as scratch has
-- places for, rise, and stand in scratch from the front. Assumes nothing.
use mathlib.Core.List.{List, ◌∷◌, ◌++◌}
use mathlib.Core.Logic.{⊎_elim}
use mathlib.Core.Path.{◌≡◌, refl, sym, ◌∙◌}
use Prim.Native.Nat.{ℕ, suc, ◌+◌, ◌-◌, ◌<◌, ◌≤◌}
use native.Mathlib.Omega.{arith}
use lib.ListN.{length, get_or, set, length-append, length-map, get_or-append}
use lib.Seq.{sets, get_or-append_seam, get_or-append-add}
use Rattle.laws.proofs.Sets.{sets_append}
use Rattle.laws.proofs.Tests.{le_or_lt}
use Rattle.laws.specs.Keys.{key_bound, Rising}
use Rattle.listing.proofs.Counts.{counted_done, counted_damage}
use Rattle.listing.proofs.Halves.{listed_between, halves_few}
use Rattle.listing.proofs.Keys.{Ruled, listing_ruled}
use Rattle.listing.specs.Listing.{listing, count_from}
use Rattle.std.specs.Prelude.{Result, Ok, Err, is_ok}
use Rattle.laws.specs.declared.Refusal.{Refusal}
use Rattle.listing.specs.declared.Listed.{Listed}
use Rattle.pool.specs.Memory.{Mem, records_in, payload_word}
use Rattle.rebuild.specs.Judging.{Gatherable, Gathers}
use Rattle.rebuild.specs.Rebuilding.{rebuild_rules, live_items, last_key, sound_below, lower_live, upper_live, payloads_in, keys_with, payloads_with}
use Rattle.walk.specs.Events.{events_of}
use Rattle.walk.specs.Items.{items}
use Rattle.walk.specs.declared.Rules.{Rules}
use Rattle.walk.specs.declared.Span.TheVariants.{Whole}

-- two parts with one value between them
sets_between : (l : List ℕ) (xs : List ℕ) (y : ℕ) (ys : List ℕ) → sets (set (sets l 0 xs) (length xs) y) (length xs + 1) ys ≡ sets l 0 (xs ++ (y ∷ ys))
sets_between l xs y ys =
    let e : length xs + 1 ≡ suc (length xs) = omega arith in
    let z : 0 + length xs ≡ length xs = omega arith in
    rw e (rw z at (sets_append l 0 xs (y ∷ ys)))

-- a list that rises up to a key and from it on rises as a whole
module _ (xs : List ℕ) (k : ℕ) (ys : List ℕ) (a : Rising xs) (b : Rising ys) (bound : k < key_bound)
    (before : (i : ℕ) → i < length xs → get_or xs i 0 < k) (after : (i : ℕ) → i < length ys → k < get_or ys i 0) where
  at_before : (i : ℕ) → i < length xs → get_or (xs ++ (k ∷ ys)) i 0 ≡ get_or xs i 0
  at_before i h = get_or-append xs (k ∷ ys) 0 i h

  at_key : get_or (xs ++ (k ∷ ys)) (length xs) 0 ≡ k
  at_key = get_or-append_seam xs k ys 0

  at_after : (i : ℕ) → length xs < i → get_or (xs ++ (k ∷ ys)) i 0 ≡ get_or ys (i - (length xs + 1)) 0
  at_after i h =
      let e : length xs + suc (i - (length xs + 1)) ≡ i = omega arith in
      rw e at (get_or-append-add xs (k ∷ ys) (suc (i - (length xs + 1))) 0)

  whole_length : length (xs ++ (k ∷ ys)) ≡ length xs + 1 + length ys
  whole_length = let e = length-append xs (k ∷ ys) in omega (arith, e)

  key_below : (i : ℕ) → i < length (xs ++ (k ∷ ys)) → get_or (xs ++ (k ∷ ys)) i 0 < key_bound
  key_below i h =
      ⊎_elim
      (λ (ge : length xs ≤ i).
      ⊎_elim
      (λ (le : i ≤ length xs). let e : i ≡ length xs = omega arith in rw (e, at_key) bound)
      (λ (lt : length xs < i). rw (at_after i lt) (b.below (i - (length xs + 1)) (omega (arith, whole_length))))
      (le_or_lt i (length xs)))
      (λ (lt : i < length xs). rw (at_before i lt) (a.below i lt))
      (le_or_lt (length xs) i)

  -- a key of the first part, then one of the rest
  from_before : (i j : ℕ) → i < length xs → i < j → j < length (xs ++ (k ∷ ys)) → get_or xs i 0 < get_or (xs ++ (k ∷ ys)) j 0
  from_before i j lt ij h =
      ⊎_elim
      (λ (ge : length xs ≤ j).
      ⊎_elim
      (λ (le : j ≤ length xs). let e : j ≡ length xs = omega arith in rw (e, at_key) (before i lt))
      (λ (past : length xs < j). rw (at_after j past) (omega (arith, before i lt, after (j - (length xs + 1)) (omega (arith, whole_length)))))
      (le_or_lt j (length xs)))
      (λ (jt : j < length xs). rw (at_before j jt) (a.rises i j ij jt))
      (le_or_lt (length xs) j)

  from_after : (i j : ℕ) → length xs ≤ i → i < j → j < length (xs ++ (k ∷ ys)) → get_or (xs ++ (k ∷ ys)) i 0 < get_or (xs ++ (k ∷ ys)) j 0
  from_after i j ge ij h =
      ⊎_elim
      (λ (le : i ≤ length xs).
      let e : i ≡ length xs = omega arith in
      rw (e, at_key, at_after j (omega arith)) (after (j - (length xs + 1)) (omega (arith, whole_length))))
      (λ (past : length xs < i).
      rw (at_after i past, at_after j (omega arith)) (b.rises (i - (length xs + 1)) (j - (length xs + 1)) (omega arith) (omega (arith, whole_length))))
      (le_or_lt i (length xs))

  pub rising_joined : Rising (xs ++ (k ∷ ys))
  rising_joined =
      record {
        below = key_below;
        rises =
            λ i j ij h.
            ⊎_elim
            (λ (ge : length xs ≤ i). from_after i j ge ij h)
            (λ (lt : i < length xs). rw (at_before i lt) (from_before i j lt ij h))
            (le_or_lt (length xs) i);
      }

module _ (capacity k above top : ℕ) (m : Mem) where
  -- the survey says whether a rule is broken
  module _ (ru : Rules) (are : ru ≡ rebuild_rules (records_in m.nodes) capacity k) (c : Result Listed Refusal) (e : c ≡ count_from 0 (listing 0 last_key capacity (items m ru (events_of Whole m above top)))) where
    surveyed_as : (x : Result Listed Refusal) → c ≡ x → is_ok x ≡ sound_below capacity k above top m
    unfolding sound_below live_items
    surveyed_as (Ok x) f = sym (counted_done (listing 0 last_key capacity (live_items capacity k above top m)) x (sym f ∙ rw are at e)).0
    surveyed_as (Err r) f = sym (counted_damage (listing 0 last_key capacity (live_items capacity k above top m)) r (sym f ∙ rw are at e)).0

    pub surveyed : is_ok c ≡ sound_below capacity k above top m
    surveyed = surveyed_as c refl

  lower_ruled : Ruled m (rebuild_rules (records_in m.nodes) capacity k) (lower_live capacity k above top m)
  unfolding lower_live live_items
  lower_ruled = listing_ruled m 0 k capacity (rebuild_rules (records_in m.nodes) capacity k) Whole above top

  upper_ruled : Ruled m (rebuild_rules (records_in m.nodes) capacity k) (upper_live capacity k above top m)
  unfolding upper_live live_items
  upper_ruled = listing_ruled m k last_key capacity (rebuild_rules (records_in m.nodes) capacity k) Whole above top

  parts-few : length (lower_live capacity k above top m).keys + length (upper_live capacity k above top m).keys ≤ capacity - 1
  unfolding lower_live upper_live live_items
  parts-few = halves_few m last_key (rebuild_rules (records_in m.nodes) capacity k) refl capacity capacity (events_of Whole m above top)

  lower_below : (i : ℕ) → i < length (lower_live capacity k above top m).keys → get_or (lower_live capacity k above top m).keys i 0 < k
  unfolding lower_live
  lower_below i h =
      ⊎_elim
      (λ (ge : k ≤ get_or (lower_live capacity k above top m).keys i 0).
      absurd (lower_ruled.new refl i h (omega (arith, ge, (listed_between 0 k capacity (live_items capacity k above top m) i h).1))))
      (λ (lt : get_or (lower_live capacity k above top m).keys i 0 < k). lt)
      (le_or_lt k (get_or (lower_live capacity k above top m).keys i 0))

  upper_above : (i : ℕ) → i < length (upper_live capacity k above top m).keys → k < get_or (upper_live capacity k above top m).keys i 0
  unfolding upper_live
  upper_above i h =
      ⊎_elim
      (λ (le : get_or (upper_live capacity k above top m).keys i 0 ≤ k).
      absurd (upper_ruled.new refl i h (omega (arith, le, (listed_between k last_key capacity (live_items capacity k above top m) i h).0))))
      (λ (lt : k < get_or (upper_live capacity k above top m).keys i 0). lt)
      (le_or_lt (get_or (upper_live capacity k above top m).keys i 0) k)

  pub with_rising : k < key_bound → Rising (keys_with capacity k above top m)
  unfolding keys_with
  with_rising b =
      rising_joined (lower_live capacity k above top m).keys k (upper_live capacity k above top m).keys lower_ruled.rising upper_ruled.rising b lower_below upper_above

  pub with_length : length (keys_with capacity k above top m) ≡ length (lower_live capacity k above top m).keys + 1 + length (upper_live capacity k above top m).keys
  unfolding keys_with
  with_length = let e = length-append (lower_live capacity k above top m).keys (k ∷ (upper_live capacity k above top m).keys) in omega (arith, e)

  pub with_few : 1 ≤ capacity → length (keys_with capacity k above top m) ≤ capacity
  with_few h = omega (arith, with_length, parts-few)

  pub with_some : 1 ≤ length (keys_with capacity k above top m)
  with_some = omega (arith, with_length)

  lower_payloads : length (payloads_in m (lower_live capacity k above top m).places) ≡ length (lower_live capacity k above top m).keys
  lower_payloads = length-map (lower_live capacity k above top m).places (λ (q : ℕ). get_or m.slots (payload_word q) 0) ∙ lower_ruled.paired

  upper_payloads : length (payloads_in m (upper_live capacity k above top m).places) ≡ length (upper_live capacity k above top m).keys
  upper_payloads = length-map (upper_live capacity k above top m).places (λ (q : ℕ). get_or m.slots (payload_word q) 0) ∙ upper_ruled.paired

  pub with_same : (p : ℕ) → length (payloads_with capacity k p above top m) ≡ length (keys_with capacity k above top m)
  unfolding payloads_with
  with_same p =
      let e = length-append (payloads_in m (lower_live capacity k above top m).places) (p ∷ payloads_in m (upper_live capacity k above top m).places) in
      omega (arith, e, lower_payloads, upper_payloads, with_length)

  -- what the two listings of the code are
  module _ (ru : Rules) (are : ru ≡ rebuild_rules (records_in m.nodes) capacity k) (keys payloads : List ℕ) (g : Gatherable capacity k above keys payloads) where
    pub first_fits : 0 + length (listing 0 k capacity (items m ru (events_of Whole m above top))).keys ≤ length keys
    unfolding lower_live live_items
    first_fits = rw are (omega (arith, parts-few, g.least, g.room))

    module _ (n₁ : ℕ) (place : n₁ ≡ 0 + length (listing 0 k capacity (items m ru (events_of Whole m above top))).keys) where
      lower_count : n₁ ≡ length (lower_live capacity k above top m).keys
      unfolding lower_live live_items
      lower_count = rw are at place ∙ (let z : 0 + length (lower_live capacity k above top m).keys ≡ length (lower_live capacity k above top m).keys = omega arith in z)

      pub middle_fits : n₁ < length keys
      middle_fits = omega (arith, lower_count, parts-few, g.least, g.room)

      pub second_fits : n₁ + 1 + length (listing k last_key capacity (items m ru (events_of Whole m above top))).keys ≤ length keys
      unfolding upper_live live_items
      second_fits = rw are (omega (arith, lower_count, parts-few, g.least, g.room))

      module _ (n : ℕ) (ends : n ≡ n₁ + 1 + length (listing k last_key capacity (items m ru (events_of Whole m above top))).keys) where
        upper_count : n ≡ n₁ + 1 + length (upper_live capacity k above top m).keys
        unfolding upper_live live_items
        upper_count = rw are at ends

        module _ (p : ℕ) (keys₁ payloads₁ keys₂ payloads₂ : List ℕ)
            (a : keys₁ ≡ sets keys 0 (listing 0 k capacity (items m ru (events_of Whole m above top))).keys)
            (b : payloads₁ ≡ sets payloads 0 (payloads_in m (listing 0 k capacity (items m ru (events_of Whole m above top))).places))
            (c : keys₂ ≡ sets (set keys₁ n₁ k) (n₁ + 1) (listing k last_key capacity (items m ru (events_of Whole m above top))).keys)
            (d : payloads₂ ≡ sets (set payloads₁ n₁ p) (n₁ + 1) (payloads_in m (listing k last_key capacity (items m ru (events_of Whole m above top))).places)) where
          all-keys : keys₂ ≡ sets keys 0 (keys_with capacity k above top m)
          unfolding keys_with lower_live upper_live live_items
          all-keys = rw (c, a, are, lower_count) (sets_between keys (lower_live capacity k above top m).keys k (upper_live capacity k above top m).keys)

          all-payloads : payloads₂ ≡ sets payloads 0 (payloads_with capacity k p above top m)
          unfolding payloads_with lower_live upper_live live_items
          all-payloads =
              rw (d, b, are, lower_count, sym lower_payloads)
              (sets_between payloads (payloads_in m (lower_live capacity k above top m).places) p (payloads_in m (upper_live capacity k above top m).places))

          pub gathered : Gathers capacity k p above top m keys payloads keys₂ payloads₂ n
          gathered = record { count = omega (arith, upper_count, lower_count, with_length); keys-are = all-keys; payloads-are = all-payloads }
