-- How keys part under the chosen model: one key, two keys, and more. Of three keys or more no group has more than T, which is at
-- most a third of the list, rounded up; so every group is smaller than its list. That is why a build ends, and how high its tree
-- is. Assumes nothing.
use mathlib.Core.List.{List, [], ◌∷◌}
use mathlib.Core.Path.{◌≡◌, refl, sym, subst, ◌∙◌}
use Prim.Native.Nat.{ℕ, ◌+◌, ◌-◌, ◌*◌, ◌/◌, ◌<◌, ◌≤◌}
use native.Mathlib.Nat.{div-eq_of_lt, div-eq_of_lt-le, zero-mul}
use native.Mathlib.Omega.{arith}
use borrow.Author.Tests.{eqb-true, eqb-false, le-ltb, ltb-true, ltb-false}
use lib.Dec.{ltb, eqb}
use lib.ListN.{length, get_or}
use Rattle.laws.proofs.Tests.{both}
use Rattle.laws.specs.Keys.{Rising}
use Rattle.model.proofs.Counts.{count-within, count_none, spread_bounds}
use Rattle.model.proofs.Groups.{group_counted}
use Rattle.model.proofs.Heights.{height-rises, height-step}
use Rattle.model.proofs.Least.{t-least, t_model, few-t, chosen-in_range, count-two}
use Rattle.model.proofs.Slots.{slot-within, slot_under}
use Rattle.model.specs.Choice.{slots_for, count_at, model_at, model_of, t_of}
use Rattle.model.specs.Groups.{keys_to}
use Rattle.model.specs.Height.{third, height}
use Rattle.model.specs.Slots.{value_of, slot_of}

two-keys : (ks : List ℕ) → length ks ≡ 2 → ks ≡ get_or ks 0 0 ∷ get_or ks 1 0 ∷ []
two-keys [] e = absurd (omega arith)
two-keys (a ∷ []) e = absurd (omega arith)
two-keys (a ∷ b ∷ []) e = refl
two-keys (a ∷ b ∷ c ∷ ks) e = absurd (omega arith)

module _ (ks : List ℕ) where
  -- one or two keys: none is left to the ends
  few_model : 1 ≤ length ks → length ks < 3 → model_of ks ≡ model_at ks 0
  unfolding model_of
  few_model pos h = rw (le-ltb (length ks) 1 pos, few-t ks h)

  -- the first of few keys goes to slot 1
  pub first_at : 1 ≤ length ks → length ks < 3 → slot_of (model_of ks) (value_of (get_or ks 0 0)) ≡ 1
  unfolding model_at
  first_at pos h =
      let m = model_at ks 0 in
      let z : get_or ks 0 0 - get_or ks 0 0 ≡ 0 = omega arith in
      rw (few_model pos h)
      (slot-within m (get_or ks 0 0) (omega arith) (omega arith)
      ∙ rw (z, zero-mul, div-eq_of_lt {n = 0} {m = m.w} (omega arith)))

  -- two keys always part: slots 1 and 2
  pub second_at : Rising ks → length ks ≡ 2 → slot_of (model_of ks) (value_of (get_or ks 1 0)) ≡ 2
  unfolding model_at slots_for
  second_at r two =
      let m = model_at ks 0 in
      let up : get_or ks 0 0 < get_or ks 1 0 = r.rises 0 1 (omega arith) (omega arith) in
      let n : length ks - 1 - 0 ≡ 1 = omega arith in
      let w : m.w ≡ get_or ks 1 0 - get_or ks 0 0 + 1 = rw n in
      let l : m.l ≡ 4 = rw two in
      let q : (get_or ks 1 0 - get_or ks 0 0) * (m.l - 2) / m.w ≡ 1 =
      rw (l, w) (div-eq_of_lt-le {k = 1} (get_or ks 1 0 - get_or ks 0 0 + 1) (omega arith) (omega arith))
      in
      rw (few_model (omega arith) (omega arith)) (slot-within m (get_or ks 1 0) (omega arith) (omega arith) ∙ rw q)

  module _ (r : Rising ks) where
    -- a slot that the node does not have
    count_past : (s : ℕ) → (model_of ks).l ≤ s → count_at (model_of ks) s ks ≡ 0
    count_past s h = count_none (model_of ks) s ks (λ i lt e. omega (arith, slot_under (model_of ks) (chosen-in_range ks r) (get_or ks i 0)))

    -- "no slot gets more than T of the keys"
    pub group_few : 3 ≤ length ks → (s : ℕ) → count_at (model_of ks) s ks ≤ t_of ks
    group_few three s =
        let e : model_of ks ≡ model_at ks (t_of ks) = t_model ks r three in
        both (ltb s (model_of ks).l)
        (λ q.
        let lt : s < (model_at ks (t_of ks)).l = rw e at (ltb-true s (model_of ks).l q) in
        rw e (spread_bounds (model_at ks (t_of ks)) (t_of ks) ks (t-least ks r three).passes s lt))
        (λ q. rw (count_past s (ltb-false s (model_of ks).l q)) (omega arith))

    pub group_third : 3 ≤ length ks → (s : ℕ) → count_at (model_of ks) s ks ≤ third (length ks)
    group_third three s = omega (arith, group_few three s, (t-least ks r three).thirds)

    pair_single : length ks ≡ 2 → (s : ℕ) → count_at (model_of ks) s ks ≤ 1
    pair_single two s =
        let e : ks ≡ get_or ks 0 0 ∷ get_or ks 1 0 ∷ [] = two-keys ks two in
        let parted : slot_of (model_of ks) (get_or ks 0 0) ≡ slot_of (model_of ks) (get_or ks 1 0) → ⊥ =
        λ q. omega (arith, q, first_at (omega arith) (omega arith), second_at r two)
        in
        subst (λ (l : List ℕ). count_at (model_of ks) s l ≤ 1) (sym e) (count-two (model_of ks) s (get_or ks 0 0) (get_or ks 1 0) parted)

    -- up to four keys each stands alone
    pub group_single : length ks ≤ 4 → (s : ℕ) → count_at (model_of ks) s ks ≤ 1
    group_single four s =
        both (ltb (length ks) 3)
        (λ q.
        both (eqb (length ks) 2)
        (λ e. pair_single (eqb-true (length ks) 2 e) s)
        (λ e. omega (arith, count-within (model_of ks) s ks, ltb-true (length ks) 3 q, eqb-false (length ks) 2 e)))
        (λ q.
        let three : 3 ≤ length ks = ltb-false (length ks) 3 q in
        omega (arith, group_few three s, (t-least ks r three).within))

    -- a group is smaller than its list
    pub group_fewer : 2 ≤ length ks → (s : ℕ) → count_at (model_of ks) s ks < length ks
    group_fewer several s =
        both (ltb (length ks) 3)
        (λ q. omega (arith, group_single (omega (arith, ltb-true (length ks) 3 q)) s))
        (λ q.
        let three : 3 ≤ length ks = ltb-false (length ks) 3 q in
        omega (arith, group_few three s, (t-least ks r three).within))

    -- five keys or more: each group's H is lower by one, so H bounds the nodes on a path of the tree built over them
    pub group_height : 4 < length ks → (s : ℕ) → 1 + height (length (keys_to (model_of ks) s ks)) ≤ height (length ks)
    group_height many s =
        let few : length (keys_to (model_of ks) s ks) ≤ third (length ks) = rw (group_counted (model_of ks) s ks) (group_third (omega arith) s) in
        omega (arith, height-rises _ _ few, height-step (length ks) many)
