-- Counting the keys of a slot: over a list put together of two, over one key more, and what the counting test says when it
-- passes or fails. The loops over words and over bytes both end in these laws. Assumes nothing.
use mathlib.Core.Bool.{true, false}
use mathlib.Core.List.{List, [], ◌∷◌, ◌++◌}
use mathlib.Core.Path.{◌≡◌, refl, sym, ap, ◌∙◌}
use Prim.Native.Nat.{ℕ, zero, suc, ◌+◌, ◌<◌, ◌≤◌}
use native.Mathlib.Nat.{add-zero}
use native.Mathlib.Numerals.{add-one}
use native.Mathlib.Omega.{arith}
use borrow.Author.Tests.{eq-eqb, ne_eqb, le-leb, leb-true, eqb-true, eqb-false}
use lib.Dec.{leb, eqb}
use lib.ListN.{length, get_or, take, drop, set, replicate, take-append-drop, length-set, get_or-replicate}
use lib.Seq.{take-suc, get_or-set_same, get_or-set_other, take_all}
use Rattle.laws.proofs.Tests.{both, pick_and}
use Rattle.laws.specs.Pick.{pick}
use Rattle.model.specs.Choice.{count_at, spread_below, spread}
use Rattle.model.specs.Slots.{slot_of}
use Rattle.model.specs.declared.Model.{Model}

module _ (m : Model) (s : ℕ) where
  pub count-append : (xs ys : List ℕ) → count_at m s (xs ++ ys) ≡ count_at m s xs + count_at m s ys
  unfolding count_at
  count-append [] ys = omega arith
  count-append (x ∷ xs) ys =
      both (eqb (slot_of m x) s) (λ e. rw (e, count-append xs ys) (omega arith)) (λ e. rw (e, count-append xs ys))

  pub count-within : (xs : List ℕ) → count_at m s xs ≤ length xs
  unfolding count_at
  count-within [] = omega arith
  count-within (x ∷ xs) =
      both (eqb (slot_of m x) s) (λ e. rw e (omega (arith, count-within xs))) (λ e. rw e (omega (arith, count-within xs)))

  -- a slot to which none of the keys goes
  pub count_none : (xs : List ℕ) → ((i : ℕ) → i < length xs → slot_of m (get_or xs i 0) ≡ s → ⊥) → count_at m s xs ≡ 0
  unfolding count_at
  count_none [] h = refl
  count_none (x ∷ xs) h =
      rw (ne_eqb (slot_of m x) s (h 0 (omega arith))) (count_none xs (λ i lt. h (suc i) (omega arith)))

  count-one : (k : ℕ) → count_at m s (k ∷ []) ≡ pick (eqb (slot_of m k) s) 1 0
  unfolding count_at
  count-one k = refl

  module _ (ks : List ℕ) (i : ℕ) (h : i < length ks) where
    next : count_at m s (take (i + 1) ks) ≡ count_at m s (take i ks) + pick (eqb (slot_of m (get_or ks i 0)) s) 1 0
    next = rw (add-one i, take-suc ks i 0 h, count-append (take i ks) (get_or ks i 0 ∷ []), count-one (get_or ks i 0))

    -- one key more, and it goes to s
    pub count-more : slot_of m (get_or ks i 0) ≡ s → count_at m s (take (i + 1) ks) ≡ count_at m s (take i ks) + 1
    count-more e = next ∙ rw (eq-eqb (slot_of m (get_or ks i 0)) s e)

    -- one key more, and it goes elsewhere
    pub count_same : (slot_of m (get_or ks i 0) ≡ s → ⊥) → count_at m s (take (i + 1) ks) ≡ count_at m s (take i ks)
    count_same e = next ∙ rw (ne_eqb (slot_of m (get_or ks i 0)) s e, add-zero)

  -- the first keys are no more than all
  pub count_part : (i : ℕ) (ks : List ℕ) → count_at m s (take i ks) ≤ count_at m s ks
  count_part i ks =
      let e : count_at m s ks ≡ count_at m s (take i ks) + count_at m s (drop i ks) = ap (count_at m s) (sym (take-append-drop i ks)) ∙ count-append (take i ks) (drop i ks) in
      omega arith

module _ (m : Model) (t : ℕ) (ks : List ℕ) where
  below_passes : (n : ℕ) → ((s : ℕ) → s < n → count_at m s ks ≤ t) → spread_below m t ks n ≡ true
  unfolding spread_below
  below_passes zero h = refl
  below_passes (suc n) h = rw (le-leb (count_at m n ks) t (h n (omega arith))) (below_passes n (λ s lt. h s (omega arith)))

  below_bounds : (n : ℕ) → spread_below m t ks n ≡ true → (s : ℕ) → s < n → count_at m s ks ≤ t
  unfolding spread_below
  below_bounds zero e s lt = absurd (omega arith)
  below_bounds (suc n) e s lt =
      let a = pick_and (leb (count_at m n ks) t) (spread_below m t ks n) e in
      both (eqb s n)
      (λ q. rw (eqb-true s n q) (leb-true _ _ a.0))
      (λ q. below_bounds n a.1 s (omega (arith, eqb-false s n q)))

  -- no slot has more than t: the test passes
  pub spread_passes : ((s : ℕ) → s < m.l → count_at m s ks ≤ t) → spread m t ks ≡ true
  unfolding spread
  spread_passes h = below_passes m.l h

  -- the test passes: no slot has more than t
  pub spread_bounds : spread m t ks ≡ true → (s : ℕ) → s < m.l → count_at m s ks ≤ t
  unfolding spread
  spread_bounds e = below_bounds m.l e

  -- one slot has more than t: the test fails
  pub spread_fails : (s : ℕ) → s < m.l → t < count_at m s ks → spread m t ks ≡ false
  spread_fails s lt more =
      both (spread m t ks) (λ e. let q : count_at m s ks ≤ t = spread_bounds e s lt in absurd (omega arith)) (λ e. e)

-- The table of counters: after i keys it has each slot's count, none above t.
pub record Counted (m : Model) (t : ℕ) (ks : List ℕ) (i : ℕ) (counts : List ℕ) : Type 0 where
  pub size : length counts ≡ 4096
  pub each : (s : ℕ) → s < 4096 → get_or counts s 0 ≡ count_at m s (take i ks)
  pub few : (s : ℕ) → s < 4096 → get_or counts s 0 ≤ t

module _ (m : Model) (t : ℕ) (ks : List ℕ) where
  pub counted_none : Counted m t ks 0 (replicate 4096 0)
  unfolding count_at
  counted_none = record {
    size = refl;
    each = λ s lt. get_or-replicate 4096 s 0 0 lt;
    few = λ s lt. rw (get_or-replicate {A = ℕ} 4096 s 0 0 lt) (omega arith);
  }

  module _ (i : ℕ) (counts : List ℕ) (c : Counted m t ks i counts) (s : ℕ) (h : i < length ks) (e : s ≡ slot_of m (get_or ks i 0)) (lt : s < 4096) where
    -- a slot with room for one more key
    pub counted_more : get_or counts s 0 < t → Counted m t ks (i + 1) (set counts s (get_or counts s 0 + 1))
    counted_more few = record {
      size = length-set counts s (get_or counts s 0 + 1) ∙ c.size;
      each = λ j b.
          both (eqb j s)
          (λ q. let z : j ≡ s = eqb-true j s q in
          rw (z, get_or-set_same counts s (get_or counts s 0 + 1) 0 (rw c.size lt), c.each s lt) (sym (count-more m s ks i h (sym e))))
          (λ q. let z : j ≡ s → ⊥ = eqb-false j s q in
          rw (get_or-set_other counts s j (get_or counts s 0 + 1) 0 z, c.each j b) (sym (count_same m j ks i h (λ x. z (sym (e ∙ x))))));
      few = λ j b.
          both (eqb j s)
          (λ q. let z : j ≡ s = eqb-true j s q in
          rw (z, get_or-set_same counts s (get_or counts s 0 + 1) 0 (rw c.size lt)) (omega arith))
          (λ q. let z : j ≡ s → ⊥ = eqb-false j s q in
          rw (get_or-set_other counts s j (get_or counts s 0 + 1) 0 z) (c.few j b));
    }

    -- a slot that has t already: one more is too many
    pub counted_full : s < m.l → t ≤ get_or counts s 0 → false ≡ spread m t ks
    counted_full under many =
        let a : count_at m s (take (i + 1) ks) ≡ count_at m s (take i ks) + 1 = count-more m s ks i h (sym e) in
        let b : count_at m s (take (i + 1) ks) ≤ count_at m s ks = count_part m s (i + 1) ks in
        let d : get_or counts s 0 ≡ count_at m s (take i ks) = c.each s lt in
        sym (spread_fails m t ks s under (omega arith))

  -- all keys counted
  pub counted_all : (i : ℕ) (counts : List ℕ) → Counted m t ks i counts → length ks ≤ i → m.l ≤ 4096 → true ≡ spread m t ks
  counted_all i counts c le small =
      sym (spread_passes m t ks (λ s lt.
      let a : get_or counts s 0 ≤ t = c.few s (omega arith) in
      let b : get_or counts s 0 ≡ count_at m s (take i ks) = c.each s (omega arith) in
      let d : take i ks ≡ ks = take_all i ks le in
      rw d at (rw b at a)))
