-- Laws of the slot formula: a slot is one of the node's, slots do not fall as values rise, and the test of a model's range
-- says what the record of its range says. Assumes nothing.
use mathlib.Core.Bool.{true, false}
use mathlib.Core.List.{[], ◌∷◌}
use mathlib.Core.Logic.{◌⊎◌, inl, inr}
use mathlib.Core.Path.{◌≡◌}
use Prim.Native.Nat.{ℕ, ◌+◌, ◌-◌, ◌*◌, ◌/◌, ◌^◌, ◌<◌, ◌≤◌}
use native.Mathlib.Nat.{div-le_self}
use native.Mathlib.Omega.{arith}
use borrow.Author.Tests.{lt-ltb, le-ltb, le-leb, lt-leb, leb-true}
use lib.Dec.{leb}
use Rattle.laws.proofs.Quotients.{product_under, share_under, share_rises}
use Rattle.laws.proofs.Tests.{le_or_lt, pick_and}
use Rattle.laws.specs.Answers.{done}
use Rattle.laws.specs.Keys.{key_bound}
use Rattle.laws.specs.Refusals.{refusal}
use Rattle.laws.specs.declared.Refusal.TheVariants.{OutOfRange, Damage}
use Rattle.model.specs.Slots.{least_slots, most_slots, slot_of, InRange, in_range, slot_choice}
use Rattle.model.specs.declared.Model.{Model}

-- the formula's product fits 64 bits
pub scaled_fits : (x m : ℕ) → x ≤ 2 ^ 48 → m ≤ 4096 → x * m ≤ 2 ^ 60
scaled_fits x m hx hm = product_under (2 ^ 48) 4096 hx hm

pub scaled_fits64 : (x m : ℕ) → x ≤ 2 ^ 48 → m ≤ 4096 → x * m < 2 ^ 64
scaled_fits64 x m hx hm = omega (arith, scaled_fits x m hx hm)

-- and so does its quotient with one more, whatever the divisor
pub share_fits64 : (x m w : ℕ) → x ≤ 2 ^ 48 → m ≤ 4096 → 1 + x * m / w < 2 ^ 64
share_fits64 x m w hx hm = omega (arith, div-le_self (x * m) w, scaled_fits x m hx hm)

module _ (m : Model) where
  -- the formula, case by case
  pub slot-first : (x : ℕ) → x < m.lo → slot_of m x ≡ 0
  unfolding slot_of
  slot-first x a = simp lt-ltb

  pub slot_last : (x : ℕ) → m.lo ≤ x → m.lo + m.w ≤ x → slot_of m x ≡ m.l - 1
  unfolding slot_of
  slot_last x a b = simp (le-ltb, le-leb)

  pub slot-within : (x : ℕ) → m.lo ≤ x → x < m.lo + m.w → slot_of m x ≡ 1 + (x - m.lo) * (m.l - 2) / m.w
  unfolding slot_of
  slot-within x a b = simp (le-ltb, lt-leb)

  module _ (r : InRange m) where
    share : (x : ℕ) → m.lo ≤ x → x < m.lo + m.w → (x - m.lo) * (m.l - 2) / m.w < m.l - 2
    share x a b = share_under (x - m.lo) m.w (m.l - 2) (omega arith) (omega arith)

    pub slot_under : (x : ℕ) → slot_of m x < m.l
    slot_under x = go (le_or_lt m.lo x) (le_or_lt (m.lo + m.w) x)
      where
        go : (m.lo ≤ x) ⊎ (x < m.lo) → (m.lo + m.w ≤ x) ⊎ (x < m.lo + m.w) → slot_of m x < m.l
        go (inr a) b = rw (slot-first x a) (omega arith)
        go (inl a) (inl b) = rw (slot_last x a b) (omega arith)
        go (inl a) (inr b) = rw (slot-within x a b) (omega (arith, share x a b))

    -- a value within goes to none of the two ends
    pub slot_between : (x : ℕ) → m.lo ≤ x → x < m.lo + m.w → (1 ≤ slot_of m x) × (slot_of m x < m.l - 1)
    slot_between x a b = rw (slot-within x a b) (omega arith, omega (arith, share x a b))

    pub slot-rises : (x y : ℕ) → x ≤ y → slot_of m x ≤ slot_of m y
    slot-rises x y h = go (le_or_lt m.lo x) (le_or_lt (m.lo + m.w) y)
      where
        within : m.lo ≤ x → y < m.lo + m.w → slot_of m x ≤ slot_of m y
        within a b =
            rw (slot-within x a (omega arith), slot-within y (omega arith) b)
            (omega (arith, share_rises {x = x - m.lo} {y = y - m.lo} m.w (m.l - 2) r.wide (omega arith)))

        go : (m.lo ≤ x) ⊎ (x < m.lo) → (m.lo + m.w ≤ y) ⊎ (y < m.lo + m.w) → slot_of m x ≤ slot_of m y
        go (inr a) b = rw (slot-first x a) (omega arith)
        go (inl a) (inl b) = rw (slot_last y (omega arith) b) (omega (arith, slot_under x))
        go (inl a) (inr b) = within a b

  pub range_passes : InRange m → in_range m ≡ true
  unfolding in_range
  range_passes r = simp (le-leb, r.least, r.most, r.wide, r.top)

  pub passes_range : in_range m ≡ true → InRange m
  unfolding in_range
  passes_range e =
      let a = pick_and (leb least_slots m.l) _ e in
      let b = pick_and (leb m.l most_slots) _ a.1 in
      let c = pick_and (leb 1 m.w) _ b.1 in
      record { least = leb-true _ _ a.0; most = leb-true _ _ b.0; wide = leb-true _ _ c.0; top = leb-true _ _ c.1 }

-- slot choice, way by way
module _ (k : ℕ) (m : Model) where
  pub choice-key : key_bound ≤ k → refusal OutOfRange ≡ slot_choice k m
  unfolding slot_choice
  choice-key h = rw (le-ltb k key_bound h)

  pub choice_model : k < key_bound → in_range m ≡ false → refusal Damage ≡ slot_choice k m
  unfolding slot_choice
  choice_model h e = rw (lt-ltb k key_bound h, e)

  pub choice-slot : (s : ℕ) → k < key_bound → InRange m → s ≡ slot_of m k → done (s ∷ []) ≡ slot_choice k m
  unfolding slot_choice
  choice-slot s h r e = rw (lt-ltb k key_bound h, range_passes m r, e)
