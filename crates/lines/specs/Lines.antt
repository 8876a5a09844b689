-- Lines of text in ASCII, as the session program prints them (document 01, "The session program"): a first byte, and then numbers in
-- decimal with a space before each. Text is written into a lent list from a place on. Definitions only.
use Rattle.std.specs.Prelude.{List, [], ◌∷◌, ◌++◌, ℕ, zero, suc, ◌+◌, ◌/◌, ◌%◌, ltb, length}
use Rattle.std.proofs.lemmas.List.Edits.{sets}
use Rattle.laws.specs.Pick.{pick}

abbrev pub digit : ℕ → ℕ
digit d = 48 + d

abbrev pub space : ℕ
space = 32

abbrev pub newline : ℕ
newline = 10

-- the decimal digits of n, the most significant first, in at most f digits
unfoldable pub digits : ℕ → ℕ → List ℕ
digits zero n = []
digits (suc f) n = pick (ltb n 10) (digit n ∷ []) (digits f (n / 10) ++ (digit (n % 10) ∷ []))

-- a number in decimal, with no 0 in front; it has fewer digits than n + 1
unfoldable pub decimal : ℕ → List ℕ
decimal n = digits (suc n) n

unfoldable pub spaced : ℕ → List ℕ
spaced n = space ∷ decimal n

-- numbers with a space before each, and the line's end
unfoldable pub numbers : List ℕ → List ℕ
numbers [] = newline ∷ []
numbers (n ∷ ns) = spaced n ++ numbers ns

unfoldable pub line : ℕ → List ℕ → List ℕ
line head ns = head ∷ numbers ns

-- a space and the digits of a number of 64 bits
abbrev pub longest_number : ℕ
longest_number = 21

-- no line is longer: a first byte, three numbers and the line's end
abbrev pub longest_line : ℕ
longest_line = 65

-- a lent list and the place from which it is written on
pub record Text : Type 0 where
  pub bytes : List ℕ
  pub at : ℕ

abbrev pub text : List ℕ → ℕ → Text
text bs i = record { bytes = bs; at = i }

unfoldable pub write : Text → List ℕ → Text
write t l = text (sets t.bytes t.at l) (t.at + length l)
