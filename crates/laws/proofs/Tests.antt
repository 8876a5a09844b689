-- From a computed test to a fact and back: splitting on a test or on the order of two numbers, and what `pick` gives once
-- its test is known. Assumes nothing.
use mathlib.Core.Bool.{Bool, true, false, ◌&&◌}
use mathlib.Core.Logic.{◌⊎◌, inl, inr, ⊎_elim}
use mathlib.Core.Path.{◌≡◌, refl, sym}
use Prim.Native.Nat.{ℕ, zero, suc, zero-le, suc-le-suc, ◌<◌, ◌≤◌}
use native.Mathlib.Omega.{arith}
use Rattle.laws.specs.Pick.{pick}

-- a test holds or it does not
pub both : {A : Type 0} (b : Bool) → (b ≡ true → A) → (b ≡ false → A) → A
both true f g = f refl
both false f g = g refl

pub pick_true : {A : Type 0} (b : Bool) (x y : A) → b ≡ true → pick b x y ≡ x
pick_true b x y e = rw e

pub pick-false : {A : Type 0} (b : Bool) (x y : A) → b ≡ false → pick b x y ≡ y
pick-false b x y e = rw e

-- what holds of both ways holds of the choice
pub pick_in : {A : Type 0} (P : A → Type 0) (b : Bool) (x y : A) → P x → P y → P (pick b x y)
pick_in P true x y p q = p
pick_in P false x y p q = q

pub true_not_false : true ≡ false → ⊥
true_not_false e = let z : ◌≡◌ {A = ℕ} 0 1 = cc in omega arith

-- a choice that came out true, whose other way is false
pub pick_and : (b c : Bool) → pick b c false ≡ true → (b ≡ true) × (c ≡ true)
pick_and true c e = (refl, e)
pick_and false c e = absurd (true_not_false (cc))

pub le_or_lt : (a b : ℕ) → (a ≤ b) ⊎ (b < a)
le_or_lt zero b = inl zero-le
le_or_lt (suc a) zero = inr (suc-le-suc zero-le)
le_or_lt (suc a) (suc b) = ⊎_elim (λ p. inl (suc-le-suc p)) (λ q. inr (suc-le-suc q)) (le_or_lt a b)

-- two tests together
pub and_both : (a b : Bool) → (a && b) ≡ true → (a ≡ true) × (b ≡ true)
and_both true b e = (refl, e)
and_both false b e = absurd (true_not_false (sym e))

pub and_true : {a b : Bool} → a ≡ true → b ≡ true → (a && b) ≡ true
and_true p q = rw (p, q)

-- a test that cannot hold fails
pub fails : (b : Bool) → (b ≡ true → ⊥) → false ≡ b
fails true h = absurd (h refl)
fails false h = refl
