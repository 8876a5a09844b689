-- A refusal's answer determines the refusal, and no refusal is done.
use Rattle.std.proofs.Common.{◌≡◌, ℕ, List, Ok, Err, get_or, eqb, refl, ap, sym, ◌∙◌}
use Rattle.laws.specs.Answers.{Answer, done}
use Rattle.laws.specs.Pick.{pick}
use Rattle.laws.specs.Refusals.{number_of, refusal}
use Rattle.laws.specs.declared.Refusal.{Refusal}
use Rattle.laws.specs.declared.Refusal.TheVariants.{WrongSizes, OutOfRange, Reversed, NotRising, Held, NotHeld, Full, NoRoom, Damage}

pub number-refusal : (e : Refusal) → (refusal e).number ≡ number_of e
number-refusal WrongSizes = refl
number-refusal OutOfRange = refl
number-refusal Reversed = refl
number-refusal (NotRising place) = refl
number-refusal Held = refl
number-refusal (NotHeld visits) = refl
number-refusal Full = refl
number-refusal NoRoom = refl
number-refusal Damage = refl

-- the refusal of an answer
abbrev pub refusal_in : Answer ℕ → Refusal
refusal_in a =
    pick (eqb a.number 1) WrongSizes
    (pick (eqb a.number 2) OutOfRange
    (pick (eqb a.number 3) Reversed
    (pick (eqb a.number 4) (NotRising (get_or a.values 0 0))
    (pick (eqb a.number 5) Held
    (pick (eqb a.number 6) (NotHeld (get_or a.values 0 0))
    (pick (eqb a.number 7) Full
    (pick (eqb a.number 8) NoRoom Damage)))))))

refusal-back : (e : Refusal) → refusal_in (refusal e) ≡ e
refusal-back WrongSizes = refl
refusal-back OutOfRange = refl
refusal-back Reversed = refl
refusal-back (NotRising place) = refl
refusal-back Held = refl
refusal-back (NotHeld visits) = refl
refusal-back Full = refl
refusal-back NoRoom = refl
refusal-back Damage = refl

pub refusal_injective : (a b : Refusal) → refusal a ≡ refusal b → a ≡ b
refusal_injective a b e = sym (refusal-back a) ∙ (ap refusal_in e ∙ refusal-back b)

number-not_0 : (e : Refusal) → number_of e ≡ 0 → ⊥
number-not_0 WrongSizes h = cc
number-not_0 OutOfRange h = cc
number-not_0 Reversed h = cc
number-not_0 (NotRising place) h = cc
number-not_0 Held h = cc
number-not_0 (NotHeld visits) h = cc
number-not_0 Full h = cc
number-not_0 NoRoom h = cc
number-not_0 Damage h = cc

pub refusal-not_0 : (e : Refusal) → (refusal e).number ≡ 0 → ⊥
refusal-not_0 e h = number-not_0 e (sym (number-refusal e) ∙ h)

pub refusal-not_done : (e : Refusal) (vs : List ℕ) → refusal e ≡ done vs → ⊥
refusal-not_done e vs h = refusal-not_0 e (ap (λ (a : Answer ℕ). a.number) h)

-- from a refusal's answer back to the result
pub back-refused : {T : Type 0} (x : T) (e : Refusal) → pick (eqb (refusal e).number 0) (Ok x) (Err (refusal_in (refusal e))) ≡ Err e
back-refused x WrongSizes = refl
back-refused x OutOfRange = refl
back-refused x Reversed = refl
back-refused x (NotRising place) = refl
back-refused x Held = refl
back-refused x (NotHeld visits) = refl
back-refused x Full = refl
back-refused x NoRoom = refl
back-refused x Damage = refl
