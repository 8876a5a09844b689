-- Document 01, "Numbers of the answers". An answer is its number and what is returned besides; a crate says of each case of
-- its enums which answer it is. Definitions only.
use Rattle.std.specs.Prelude.{Bool, List, [], ℕ}
use Rattle.laws.specs.Pick.{pick}

pub record Answer (A : Type 0) : Type 0 where
  pub number : ℕ
  pub values : List A

-- done, with what is returned
abbrev pub done : {A : Type 0} → List A → Answer A
done vs = record { number = 0; values = vs }

-- refused, with nothing besides
abbrev pub refused : {A : Type 0} → ℕ → Answer A
refused n = record { number = n; values = [] }

-- refused, with something besides
abbrev pub refused_with : {A : Type 0} → ℕ → List A → Answer A
refused_with n vs = record { number = n; values = vs }

-- a thing that is so or not, among the values: 1 or 0
abbrev pub as_number : Bool → ℕ
as_number b = pick b 1 0

-- the numbers, each once
abbrev pub wrong_sizes : ℕ
wrong_sizes = 1

abbrev pub out_of_range : ℕ
out_of_range = 2

abbrev pub reversed : ℕ
reversed = 3

abbrev pub not_rising : ℕ
not_rising = 4

abbrev pub held : ℕ
held = 5

abbrev pub not_held : ℕ
not_held = 6

abbrev pub full : ℕ
full = 7

abbrev pub no_room : ℕ
no_room = 8

abbrev pub damage : ℕ
damage = 9
