-- Rising lists and parts of them, and the search for the first place that does not rise: a list rises just when the search
-- runs past its end, where it ends sooner the list falls there and rises up to there, and at each place what is left to search
-- from there is the whole search. Assumes nothing.
use mathlib.Core.List.{List, [], ◌∷◌}
use mathlib.Core.Path.{◌≡◌, refl, sym, ◌∙◌}
use Prim.Native.Nat.{ℕ, zero, suc, ◌+◌, ◌-◌, ◌<◌, ◌≤◌}
use native.Mathlib.Numerals.{add-one}
use native.Mathlib.Omega.{arith}
use borrow.Author.Tests.{ltb-true, ltb-false, lt-ltb, le-ltb}
use lib.Dec.{ltb}
use lib.ListN.{length, get_or, take, drop, drop_of_length-le}
use lib.Seq.{drop-cons}
use Rattle.laws.specs.Keys.{Rising, fall_from, first_fall}
use Rattle.laws.proofs.Parts.{length_part, get_or-part}
use Rattle.laws.proofs.Tests.{both}

-- of the first n keys every earlier one is below every later one
abbrev RisesTo : ℕ → List ℕ → Type 0
RisesTo n ks = (i j : ℕ) → i < j → j < n → get_or ks i 0 < get_or ks j 0

-- every earlier key is below every later one
abbrev pub Rises : List ℕ → Type 0
Rises ks = (i j : ℕ) → i < j → j < length ks → get_or ks i 0 < get_or ks j 0

rises_tail : (k : ℕ) (ks : List ℕ) → Rises (k ∷ ks) → Rises ks
rises_tail k ks r i j a b = r (suc i) (suc j) (omega arith) (omega arith)

pub rising_tail : (k : ℕ) (ks : List ℕ) → Rising (k ∷ ks) → Rising ks
rising_tail k ks r = record {
  below = λ i h. r.below (suc i) (omega arith);
  rises = rises_tail k ks r.rises;
}

pub rising_part : (ks : List ℕ) (a b : ℕ) → b ≤ length ks → Rising ks → Rising (take (b - a) (drop a ks))
rising_part ks a b h r = record {
  below = λ i lt.
      let n : length (take (b - a) (drop a ks)) ≡ b - a = length_part ks a b h in
      rw (get_or-part ks a b i (omega arith)) (r.below (a + i) (omega arith));
  rises = λ i j lt under.
      let n : length (take (b - a) (drop a ks)) ≡ b - a = length_part ks a b h in
      rw (get_or-part ks a b i (omega arith), get_or-part ks a b j (omega arith)) (r.rises (a + i) (a + j) (omega arith) (omega arith));
}

-- the search ends at most past the last place
fall_from-within : (i p : ℕ) (ks : List ℕ) → fall_from i p ks ≤ i + length ks
unfolding fall_from
fall_from-within i p [] = omega arith
fall_from-within i p (k ∷ ks) =
    let ih : fall_from (i + 1) k ks ≤ i + 1 + length ks = fall_from-within (i + 1) k ks in
    both (ltb p k) (λ e. rw e (omega arith)) (λ e. rw e (omega arith))

pub fall_within : (ks : List ℕ) → first_fall ks ≤ length ks
unfolding first_fall
fall_within [] = omega arith
fall_within (k ∷ ks) = let h : fall_from 1 k ks ≤ 1 + length ks = fall_from-within 1 k ks in omega arith

-- a lower key in front
rises_to_cons : (n p k : ℕ) (ks : List ℕ) → p < k → RisesTo n (k ∷ ks) → RisesTo (suc n) (p ∷ k ∷ ks)
rises_to_cons n p k ks lt r zero zero a b = absurd (omega arith)
rises_to_cons n p k ks lt r zero (suc zero) a b = lt
rises_to_cons n p k ks lt r zero (suc (suc j)) a b = let h : k < get_or ks j 0 = r 0 (suc j) (omega arith) (omega arith) in omega arith
rises_to_cons n p k ks lt r (suc i) zero a b = absurd (omega arith)
rises_to_cons n p k ks lt r (suc i) (suc j) a b = r i j (omega arith) (omega arith)

rises-cons : (p k : ℕ) (ks : List ℕ) → p < k → Rises (k ∷ ks) → Rises (p ∷ k ∷ ks)
rises-cons p k ks lt r = rises_to_cons (length (k ∷ ks)) p k ks lt r

fall_from-rises : (i p : ℕ) (ks : List ℕ) → fall_from i p ks ≡ i + length ks → Rises (p ∷ ks)
unfolding fall_from
fall_from-rises i p [] e = λ a b h lt. absurd (omega arith)
fall_from-rises i p (k ∷ ks) e =
    both (ltb p k)
    (λ t.
    let q : fall_from (i + 1) k ks ≡ i + suc (length ks) = rw t at e in
    rises-cons p k ks (ltb-true p k t) (fall_from-rises (i + 1) k ks (omega arith)))
    (λ t. let q : i ≡ i + suc (length ks) = rw t at e in absurd (omega arith))

pub fall_rising : (ks : List ℕ) → first_fall ks ≡ length ks → (i j : ℕ) → i < j → j < length ks → get_or ks i 0 < get_or ks j 0
unfolding first_fall
fall_rising [] e = λ i j a b. absurd (omega arith)
fall_rising (k ∷ ks) e = fall_from-rises 1 k ks (omega arith)

rises-fall_from : (i p : ℕ) (ks : List ℕ) → Rises (p ∷ ks) → fall_from i p ks ≡ i + length ks
unfolding fall_from
rises-fall_from i p [] r = omega arith
rises-fall_from i p (k ∷ ks) r =
    let ih : fall_from (i + 1) k ks ≡ i + 1 + length ks = rises-fall_from (i + 1) k ks (rises_tail p (k ∷ ks) r) in
    rw (lt-ltb p k (r 0 1 (omega arith) (omega arith))) (omega arith)

pub rising_fall : (ks : List ℕ) → Rising ks → first_fall ks ≡ length ks
unfolding first_fall
rising_fall [] r = refl
rising_fall (k ∷ ks) r = let h : fall_from 1 k ks ≡ 1 + length ks = rises-fall_from 1 k ks r.rises in omega arith

-- a search from i that ends before the end: n places on the key is not above its forerunner, and up to there all rise
record Falls (i p : ℕ) (ks : List ℕ) (f : ℕ) : Type 0 where
  n : ℕ
  place : f ≡ i + n
  falls : get_or ks n 0 ≤ get_or (p ∷ ks) n 0
  rises : RisesTo (suc n) (p ∷ ks)

fall_from_at : (i p : ℕ) (ks : List ℕ) → fall_from i p ks < i + length ks → Falls i p ks (fall_from i p ks)
unfolding fall_from
fall_from_at i p [] h = absurd (omega arith)
fall_from_at i p (k ∷ ks) h =
    both (ltb p k)
    (λ t.
    let lt : fall_from (i + 1) k ks < i + suc (length ks) = rw t at h in
    let f = fall_from_at (i + 1) k ks (omega arith) in
    rw t
    (record {
      n = suc f.n;
      place = omega (arith, f.place);
      falls = f.falls;
      rises = rises_to_cons (suc f.n) p k ks (ltb-true p k t) f.rises;
    }))
    (λ t.
    rw t
    (record {
      n = 0;
      place = omega arith;
      falls = ltb-false p k t;
      rises = λ a b l m. absurd (omega arith);
    }))

-- what 4 promises: "place, from 0, of the first key not above its forerunner"
pub fall_at : (ks : List ℕ) → first_fall ks < length ks
    → (0 < first_fall ks) × (get_or ks (first_fall ks) 0 ≤ get_or ks (first_fall ks - 1) 0) × ((i j : ℕ) → i < j → j < first_fall ks → get_or ks i 0 < get_or ks j 0)
unfolding first_fall
fall_at [] h = absurd (omega arith)
fall_at (k ∷ ks) h =
    let f = fall_from_at 1 k ks (omega arith) in
    let e : fall_from 1 k ks ≡ suc f.n = omega (arith, f.place) in
    let back : suc f.n - 1 ≡ f.n = omega arith in
    rw (e, back) (omega arith, f.falls, f.rises)

-- a loop over the list: i is the place reached, from 1 on
pub fall_start : (ks : List ℕ) → 0 < length ks → fall_from 1 (get_or ks 0 0) (drop 1 ks) ≡ first_fall ks
unfolding first_fall
fall_start [] h = absurd (omega arith)
fall_start (k ∷ ks) h = refl

pub fall_step : (ks : List ℕ) (i : ℕ) → 0 < i → i < length ks → get_or ks (i - 1) 0 < get_or ks i 0
    → fall_from i (get_or ks (i - 1) 0) (drop i ks) ≡ fall_from (i + 1) (get_or ks i 0) (drop (i + 1) ks)
unfolding fall_from
fall_step ks i pos h up = rw (drop-cons ks i 0 h, lt-ltb _ _ up, add-one i)

pub fall_here : (ks : List ℕ) (i : ℕ) → 0 < i → i < length ks → get_or ks i 0 ≤ get_or ks (i - 1) 0 → fall_from i (get_or ks (i - 1) 0) (drop i ks) ≡ i
unfolding fall_from
fall_here ks i pos h down = rw (drop-cons ks i 0 h, le-ltb _ _ down)

pub fall_end : (ks : List ℕ) (i : ℕ) → length ks ≤ i → fall_from i (get_or ks (i - 1) 0) (drop i ks) ≡ i
unfolding fall_from
fall_end ks i h = rw (drop_of_length-le ks h)

-- a key is not below an earlier one, nor below itself
pub rising_climbs : (ks : List ℕ) → Rising ks → (i j : ℕ) → i ≤ j → j < length ks → get_or ks i 0 ≤ get_or ks j 0
rising_climbs ks r i j h lt =
    both (ltb i j)
    (λ e. let q : get_or ks i 0 < get_or ks j 0 = r.rises i j (ltb-true i j e) lt in omega arith)
    (λ e. let q : i ≡ j = omega (arith, ltb-false i j e) in rw q (omega arith))

-- The search as a loop makes it, with the forerunner p at hand: at each place what is left to search is the whole search.
module _ (ks : List ℕ) where
  pub falls_none : length ks < 1 → 0 ≡ first_fall ks
  unfolding first_fall
  falls_none h = let e : length ks ≡ 0 = omega arith in go ks e
    where
      go : (l : List ℕ) → length l ≡ 0 → 0 ≡ first_fall l
      go [] e = refl
      go (k ∷ l) e = absurd (omega arith)

  pub falls_start : (p : ℕ) → 0 < length ks → p ≡ get_or ks 0 0 → fall_from 1 p (drop 1 ks) ≡ first_fall ks
  falls_start p h e = rw e (fall_start ks h)

  module _ (i p k : ℕ) (pos : 0 < i) (h : i < length ks) (e : p ≡ get_or ks (i - 1) 0) (q : k ≡ get_or ks i 0) where
    pub falls_here : k ≤ p → fall_from i p (drop i ks) ≡ first_fall ks → i ≡ first_fall ks
    falls_here le inv = sym (fall_here ks i pos h (rw (← q, ← e) le)) ∙ rw (← e) inv

    pub falls_step : p < k → fall_from i p (drop i ks) ≡ first_fall ks → fall_from (i + 1) k (drop (i + 1) ks) ≡ first_fall ks
    falls_step lt inv = rw q (sym (fall_step ks i pos h (rw (← q, ← e) lt)) ∙ rw (← e) inv)

  pub falls_end : (i p : ℕ) → length ks ≤ i → p ≡ get_or ks (i - 1) 0 → fall_from i p (drop i ks) ≡ first_fall ks → i ≡ first_fall ks
  falls_end i p le e inv = sym (fall_end ks i le) ∙ rw (← e) inv
