-- The code's refusals (document 01, "Numbers of the answers"): which number each has, and which answer it is. Definitions only.
use Rattle.std.specs.Prelude.{[], ◌∷◌, ℕ, get_or, Result, Ok, Err}
use Rattle.laws.specs.Answers.{Answer, refused, refused_with, wrong_sizes, out_of_range, reversed, not_rising, held, not_held, full, no_room, damage}
use Rattle.laws.specs.declared.Refusal.{Refusal}
use Rattle.laws.specs.declared.Refusal.TheVariants.{WrongSizes, OutOfRange, Reversed, NotRising, Held, NotHeld, Full, NoRoom, Damage}

abbrev pub number_of : Refusal → ℕ
number_of WrongSizes = wrong_sizes
number_of OutOfRange = out_of_range
number_of Reversed = reversed
number_of (NotRising place) = not_rising
number_of Held = held
number_of (NotHeld visits) = not_held
number_of Full = full
number_of NoRoom = no_room
number_of Damage = damage

-- a refusal's answer: its number, and the place or the visits that it tells
abbrev pub refusal : Refusal → Answer ℕ
refusal WrongSizes = refused wrong_sizes
refusal OutOfRange = refused out_of_range
refusal Reversed = refused reversed
refusal (NotRising place) = refused_with not_rising (place ∷ [])
refusal Held = refused held
refusal (NotHeld visits) = refused_with not_held (visits ∷ [])
refusal Full = refused full
refusal NoRoom = refused no_room
refusal Damage = refused damage

-- the number of an answer that may be a refusal
abbrev pub status_of : {T : Type 0} → Result T Refusal → ℕ
status_of (Ok x) = 0
status_of (Err e) = number_of e

-- the place or the visits of a refusal's answer; 0 where it has none
abbrev pub told_by : Refusal → ℕ
told_by e = get_or (refusal e).values 0 0
