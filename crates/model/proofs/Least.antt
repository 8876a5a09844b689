-- The T of document 01 exists: leaving ceil(n/3) keys to each end always passes the counting test (n = 4 has its own argument),
-- so the search from 1 up ends within floor((n-1)/2), at the least T that passes. Assumes nothing.
use mathlib.Core.Bool.{Bool, true, false}
use mathlib.Core.List.{List, [], ◌∷◌}
use mathlib.Core.Path.{◌≡◌, sym, ap, ◌∙◌}
use Prim.Native.Nat.{ℕ, zero, suc, ◌+◌, ◌-◌, ◌*◌, ◌/◌, ◌<◌, ◌≤◌}
use native.Mathlib.Nat.{le-div_iff_mul-le, div-eq_of_lt, zero-mul}
use native.Mathlib.Omega.{arith}
use borrow.Author.Tests.{eqb-true, eqb-false, ltb-true, ltb-false, lt-ltb, le-ltb}
use lib.Dec.{eqb, ltb}
use lib.ListN.{length, get_or, take, drop, take-append-drop, length-drop}
use lib.Seq.{drop-cons, get_or-drop, get_or-take, length-take-le}
use Rattle.laws.proofs.Risings.{rising_climbs}
use Rattle.laws.proofs.Tests.{both, true_not_false}
use Rattle.laws.specs.Keys.{Rising}
use Rattle.model.proofs.Counts.{count-append, count-within, count_none, spread_passes}
use Rattle.model.proofs.Slots.{slot-first, slot_last, slot-within, slot_between}
use Rattle.model.specs.Choice.{slots_for, count_at, spread, model_at, least_from, t_of, model_of, empty_model, choice_of}
use Rattle.model.specs.Height.{third}
use Rattle.model.specs.Slots.{slot_of, InRange}
use Rattle.model.specs.declared.Model.{Model}

-- A search that finds, and that finds the least.
module _ (P : ℕ → Bool) where
  pub record Found (t f : ℕ) (j : ℕ) : Type 0 where
    pub from : t ≤ least_from P t f
    pub upto : least_from P t f ≤ j
    pub passes : P (least_from P t f) ≡ true

  pub least-found : (t f j : ℕ) → t ≤ j → j < t + f → P j ≡ true → Found t f j
  unfolding least_from
  least-found t zero j a b e = absurd (omega arith)
  least-found t (suc f) j a b e =
      both (P t)
      (λ q. record { from = rw q (omega arith); upto = rw q a; passes = rw (q, q) })
      (λ q.
      let d : j ≡ t → ⊥ = λ z. true_not_false (sym e ∙ ap P z ∙ q) in
      let i = least-found (t + 1) f j (omega (arith, d)) (omega arith) e in
      record { from = rw q (omega (arith, i.from)); upto = rw q i.upto; passes = rw q i.passes })

  pub least_before : (t f i : ℕ) → t ≤ i → i < least_from P t f → P i ≡ false
  unfolding least_from
  least_before t zero i a b = absurd (omega arith)
  least_before t (suc f) i a b =
      both (P t)
      (λ q. let z : i < t = rw q at b in absurd (omega arith))
      (λ q.
      both (eqb i t)
      (λ z. rw (eqb-true i t z) q)
      (λ z. least_before (t + 1) f i (omega (arith, eqb-false i t z)) (rw q at b)))

-- two keys that go to different slots
pub count-two : (m : Model) (s a b : ℕ) → (slot_of m a ≡ slot_of m b → ⊥) → count_at m s (a ∷ b ∷ []) ≤ 1
unfolding count_at
count-two m s a b d =
    both (eqb (slot_of m a) s)
    (λ p.
    both (eqb (slot_of m b) s)
    (λ q. absurd (d (eqb-true _ _ p ∙ sym (eqb-true _ _ q))))
    (λ q. rw (p, q) (omega arith)))
    (λ p.
    both (eqb (slot_of m b) s)
    (λ q. rw (p, q) (omega arith))
    (λ q. rw (p, q) (omega arith)))

module _ (ks : List ℕ) (r : Rising ks) (t : ℕ) (h : t + t < length ks) where
  -- the highest key within
  abbrev top : ℕ
  top = length ks - 1 - t

  pub model_in-range : InRange (model_at ks t)
  unfolding model_at slots_for
  model_in-range =
      let a : get_or ks t 0 ≤ get_or ks top 0 = rising_climbs ks r t top (omega arith) (omega arith) in
      record {
        least = omega arith;
        most = omega arith;
        wide = omega arith;
        top = omega (arith, r.below top (omega arith));
      }

  -- where the keys go: the first t to the first slot, the last t to the last, the others between
  pub low_first : (i : ℕ) → i < t → slot_of (model_at ks t) (get_or ks i 0) ≡ 0
  unfolding model_at
  low_first i lt = slot-first (model_at ks t) (get_or ks i 0) (r.rises i t lt (omega arith))

  pub high_last : (i : ℕ) → top < i → i < length ks → slot_of (model_at ks t) (get_or ks i 0) ≡ slots_for (length ks) - 1
  unfolding model_at
  high_last i lt u =
      let a : get_or ks t 0 ≤ get_or ks top 0 = rising_climbs ks r t top (omega arith) (omega arith) in
      let b : get_or ks top 0 < get_or ks i 0 = r.rises top i lt u in
      slot_last (model_at ks t) (get_or ks i 0) (omega arith) (omega arith)

  within : (i : ℕ) → t ≤ i → i ≤ top → ((model_at ks t).lo ≤ get_or ks i 0) × (get_or ks i 0 < (model_at ks t).lo + (model_at ks t).w)
  unfolding model_at
  within i a b =
      let x : get_or ks t 0 ≤ get_or ks i 0 = rising_climbs ks r t i a (omega arith) in
      let y : get_or ks i 0 ≤ get_or ks top 0 = rising_climbs ks r i top b (omega arith) in
      (omega arith, omega arith)

  pub middle_between : (i : ℕ) → t ≤ i → i ≤ top → (1 ≤ slot_of (model_at ks t) (get_or ks i 0)) × (slot_of (model_at ks t) (get_or ks i 0) < slots_for (length ks) - 1)
  unfolding model_at
  middle_between i a b = slot_between (model_at ks t) model_in-range (get_or ks i 0) (within i a b).0 (within i a b).1

  -- the list in three
  abbrev low : List ℕ
  low = take t ks

  abbrev middle : List ℕ
  middle = take (length ks - t - t) (drop t ks)

  abbrev high : List ℕ
  high = drop (length ks - t - t) (drop t ks)

  in_three : (s : ℕ) → count_at (model_at ks t) s ks ≡ count_at (model_at ks t) s low + (count_at (model_at ks t) s middle + count_at (model_at ks t) s high)
  in_three s =
      let m = model_at ks t in
      let a : count_at m s ks ≡ count_at m s low + count_at m s (drop t ks) = ap (count_at m s) (sym (take-append-drop t ks)) ∙ count-append m s low (drop t ks) in
      let b : count_at m s (drop t ks) ≡ count_at m s middle + count_at m s high =
      ap (count_at m s) (sym (take-append-drop (length ks - t - t) (drop t ks))) ∙ count-append m s middle high
      in
      a ∙ ap (λ (x : ℕ). count_at m s low + x) b

  length-low : length low ≡ t
  length-low = length-take-le t ks (omega arith)

  length_middle : length middle ≡ length ks - t - t
  length_middle = length-take-le (length ks - t - t) (drop t ks) (simp length-drop (omega arith))

  length_high : length high ≡ t
  length_high = simp length-drop (omega arith)

  low_at : (i : ℕ) → i < t → get_or low i 0 ≡ get_or ks i 0
  low_at i lt = get_or-take t ks i 0 lt

  middle_at : (i : ℕ) → i < length ks - t - t → get_or middle i 0 ≡ get_or ks (t + i) 0
  middle_at i lt = get_or-take (length ks - t - t) (drop t ks) i 0 lt ∙ get_or-drop t ks i 0

  high_at : (i : ℕ) → get_or high i 0 ≡ get_or ks (t + (length ks - t - t + i)) 0
  high_at i = get_or-drop (length ks - t - t) (drop t ks) i 0 ∙ get_or-drop t ks (length ks - t - t + i) 0

  low-none : (s : ℕ) → 1 ≤ s → count_at (model_at ks t) s low ≡ 0
  low-none s pos =
      count_none (model_at ks t) s low (λ i lt e.
      let q : i < t = rw length-low at lt in
      let z : slot_of (model_at ks t) (get_or low i 0) ≡ 0 = rw (low_at i q) (low_first i q) in
      omega arith)

  middle_none : (s : ℕ) → (1 ≤ s → slots_for (length ks) - 1 ≤ s) → count_at (model_at ks t) s middle ≡ 0
  middle_none s out =
      count_none (model_at ks t) s middle (λ i lt e.
      let q : i < length ks - t - t = rw length_middle at lt in
      let b = middle_between (t + i) (omega arith) (omega arith) in
      let z : slot_of (model_at ks t) (get_or ks (t + i) 0) ≡ s = rw (middle_at i q) at e in
      let w : slots_for (length ks) - 1 ≤ s = out (omega arith) in
      omega arith)

  high-none : (s : ℕ) → (s ≡ slots_for (length ks) - 1 → ⊥) → count_at (model_at ks t) s high ≡ 0
  high-none s other =
      count_none (model_at ks t) s high (λ i lt e.
      let q : i < t = rw length_high at lt in
      let z : slot_of (model_at ks t) (get_or high i 0) ≡ slots_for (length ks) - 1 = rw (high_at i) (high_last (t + (length ks - t - t + i)) (omega arith) (omega arith)) in
      other (sym e ∙ z))

  -- no slot gets more than t where no slot gets more than t of the keys between
  middle_passes : ((s : ℕ) → count_at (model_at ks t) s middle ≤ t) → spread (model_at ks t) t ks ≡ true
  unfolding slots_for
  middle_passes few =
      let m = model_at ks t in
      let four : 4 ≤ slots_for (length ks) = omega arith in
      spread_passes m t ks (λ s lt.
      both (eqb s 0)
      (λ e.
      let z : s ≡ 0 = eqb-true s 0 e in
      let a : count_at m s low ≤ length low = count-within m s low in
      let b : count_at m s middle ≡ 0 = middle_none s (λ p. absurd (omega arith)) in
      let c : count_at m s high ≡ 0 = high-none s (λ p. omega arith) in
      rw (in_three s) (omega (arith, length-low)))
      (λ e.
      let z : s ≡ 0 → ⊥ = eqb-false s 0 e in
      let a : count_at m s low ≡ 0 = low-none s (omega (arith, z)) in
      both (eqb s (slots_for (length ks) - 1))
      (λ f.
      let y : s ≡ slots_for (length ks) - 1 = eqb-true s (slots_for (length ks) - 1) f in
      let b : count_at m s middle ≡ 0 = middle_none s (λ p. omega arith) in
      let c : count_at m s high ≤ length high = count-within m s high in
      rw (in_three s) (omega (arith, length_high)))
      (λ f.
      let c : count_at m s high ≡ 0 = high-none s (eqb-false s (slots_for (length ks) - 1) f) in
      rw (in_three s) (omega (arith, few s)))))

  pub thirds_pass : length ks ≤ t + t + t → spread (model_at ks t) t ks ≡ true
  thirds_pass le = middle_passes (λ s. omega (arith, count-within (model_at ks t) s middle, length_middle))

-- n = 4: the two keys between part, since the upper one goes to slot 4 or later
module _ (ks : List ℕ) (r : Rising ks) (four : length ks ≡ 4) where
  abbrev one : Model
  one = model_at ks 1

  parts : slot_of one (get_or ks 1 0) ≡ slot_of one (get_or ks 2 0) → ⊥
  unfolding model_at slots_for
  parts e =
      let up : get_or ks 1 0 < get_or ks 2 0 = r.rises 1 2 (omega arith) (omega arith) in
      let n : length ks - 1 - 1 ≡ 2 = omega arith in
      let w : one.w ≡ get_or ks 2 0 - get_or ks 1 0 + 1 = rw n in
      let l : one.l ≡ 8 = rw four in
      let a : slot_of one (get_or ks 1 0) ≡ 1 + (get_or ks 1 0 - get_or ks 1 0) * (one.l - 2) / one.w = slot-within one (get_or ks 1 0) (omega arith) (omega arith) in
      let b : slot_of one (get_or ks 2 0) ≡ 1 + (get_or ks 2 0 - get_or ks 1 0) * (one.l - 2) / one.w = slot-within one (get_or ks 2 0) (omega arith) (omega arith) in
      let z : get_or ks 1 0 - get_or ks 1 0 ≡ 0 = omega arith in
      let x : (get_or ks 1 0 - get_or ks 1 0) * (one.l - 2) / one.w ≡ 0 = rw (z, zero-mul) (div-eq_of_lt {m = one.w} (omega arith)) in
      let y : 1 ≤ (get_or ks 2 0 - get_or ks 1 0) * (one.l - 2) / one.w =
      (le-div_iff_mul-le {k = one.w} {x = 1} {y = (get_or ks 2 0 - get_or ks 1 0) * (one.l - 2)} (omega arith)).1 (rw (l, w) (omega arith))
      in
      omega arith

  pub four_pass : spread one 1 ks ≡ true
  four_pass =
      let two : length ks - 1 - 1 ≡ 2 = omega arith in
      let a : drop 1 ks ≡ get_or ks 1 0 ∷ drop 2 ks = drop-cons ks 1 0 (omega arith) in
      let b : drop 2 ks ≡ get_or ks 2 0 ∷ drop 3 ks = drop-cons ks 2 0 (omega arith) in
      middle_passes ks r 1 (omega arith) (λ s. rw (two, a, b) (count-two one s (get_or ks 1 0) (get_or ks 2 0) parts))

-- what T is, for three keys or more
pub record IsLeast (ks : List ℕ) (t : ℕ) : Type 0 where
  pub positive : 1 ≤ t
  pub within : t + t < length ks
  pub thirds : t ≤ third (length ks)
  pub passes : spread (model_at ks t) t ks ≡ true
  pub least : (i : ℕ) → 1 ≤ i → i < t → spread (model_at ks i) i ks ≡ false

module _ (ks : List ℕ) (r : Rising ks) (three : 3 ≤ length ks) where
  abbrev Pass : ℕ → Bool
  Pass t = spread (model_at ks t) t ks

  -- a try that passes is enough
  from_one : (j : ℕ) → 1 ≤ j → j + j < length ks → j ≤ third (length ks) → Pass j ≡ true → IsLeast ks (t_of ks)
  unfolding t_of
  from_one j pos half le e =
      let f = least-found Pass 1 ((length ks - 1) / 2) j pos (omega arith) e in
      rw (le-ltb (length ks) 3 three)
      (record {
        positive = f.from;
        within = omega (arith, f.upto);
        thirds = omega (arith, f.upto);
        passes = f.passes;
        least = λ i a b. least_before Pass 1 ((length ks - 1) / 2) i a b;
      })

  pub t-least : IsLeast ks (t_of ks)
  t-least =
      both (eqb (length ks) 4)
      (λ e.
      let four : length ks ≡ 4 = eqb-true (length ks) 4 e in
      from_one 1 (omega arith) (omega arith) (omega arith) (four_pass ks r four))
      (λ e.
      let h : third (length ks) + third (length ks) < length ks = omega (arith, eqb-false (length ks) 4 e) in
      from_one (third (length ks)) (omega arith) h (omega arith) (thirds_pass ks r (third (length ks)) h (omega arith)))

  -- a try that passes, up to T, is T
  pub least_is : (t : ℕ) → 1 ≤ t → t ≤ t_of ks → Pass t ≡ true → t ≡ t_of ks
  least_is t pos le e =
      both (ltb t (t_of ks))
      (λ q. absurd (true_not_false (sym e ∙ t-least.least t pos (ltb-true t (t_of ks) q))))
      (λ q. omega (arith, ltb-false t (t_of ks) q))

  -- a try that fails is before T
  pub fails_before : (t : ℕ) → t ≤ t_of ks → Pass t ≡ false → t < t_of ks
  fails_before t le e =
      both (eqb t (t_of ks))
      (λ q. absurd (true_not_false (sym t-least.passes ∙ ap Pass (sym (eqb-true t (t_of ks) q)) ∙ e)))
      (λ q. omega (arith, eqb-false t (t_of ks) q))

  pub t_model : model_of ks ≡ model_at ks (t_of ks)
  unfolding model_of
  t_model = rw (le-ltb (length ks) 1 (omega arith))

-- One try of the search, as the code makes it: the model m that leaves t keys to each end, and the test's result b.
module _ (ks : List ℕ) (r : Rising ks) (three : 3 ≤ length ks) (t : ℕ) (pos : 1 ≤ t) (le : t ≤ t_of ks) where
  pub try_within : t + t < length ks
  try_within = omega (arith, (t-least ks r three).within)

  module _ (m : Model) (e : m ≡ model_at ks t) where
    pub try_in_range : InRange m
    try_in_range = rw e (model_in-range ks r t try_within)

    pub try_passes : (b : Bool) → b ≡ spread m t ks → b ≡ true → record { model = m; t = t } ≡ choice_of ks
    unfolding choice_of
    try_passes b q f =
        let p : spread (model_at ks t) t ks ≡ true = rw e at (sym q ∙ f) in
        let z : t ≡ t_of ks = least_is ks r three t pos le p in
        rw (e, z, t_model ks r three)

    pub try_fails : (b : Bool) → b ≡ spread m t ks → b ≡ false → t < t_of ks
    try_fails b q f = let p : spread (model_at ks t) t ks ≡ false = rw e at (sym q ∙ f) in fails_before ks r three t le p

-- fewer keys than three
module _ (ks : List ℕ) where
  pub few-t : length ks < 3 → t_of ks ≡ 0
  unfolding t_of
  few-t h = rw (lt-ltb (length ks) 3 h)

  pub few-choice : (m : Model) → 1 ≤ length ks → length ks < 3 → m ≡ model_at ks 0 → record { model = m; t = 0 } ≡ choice_of ks
  unfolding choice_of model_of
  few-choice m pos h e = rw (e, few-t h, le-ltb (length ks) 1 pos)

  pub empty-choice : (m : Model) → length ks < 1 → m ≡ empty_model → record { model = m; t = 0 } ≡ choice_of ks
  unfolding choice_of model_of
  empty-choice m h e = rw (e, few-t (omega arith), lt-ltb (length ks) 1 h)

-- L, lo and W of a chosen model are in range
pub chosen-in_range : (ks : List ℕ) → Rising ks → InRange (model_of ks)
unfolding model_of empty_model
chosen-in_range ks r =
    both (ltb (length ks) 1)
    (λ e. rw e (record { least = omega arith; most = omega arith; wide = omega arith; top = omega arith }))
    (λ e.
    rw e
    (both (ltb (length ks) 3)
    (λ f. rw (few-t ks (ltb-true _ _ f)) (model_in-range ks r 0 (omega (arith, ltb-false (length ks) 1 e))))
    (λ f. model_in-range ks r (t_of ks) (t-least ks r (ltb-false _ _ f)).within)))
