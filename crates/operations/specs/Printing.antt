-- What is printed for an answer (document 01, "The session program"): "It prints kind and number; on 0 also: insert, conflict and
-- tidying; lookup, payload and visits; band, how many and more (0 or 1), then a line '= key payload' for each." Definitions only.
use Rattle.std.specs.Prelude.{List, [], ◌∷◌, ◌++◌, ℕ, zero, suc, ◌+◌, eqb, get_or}
use Rattle.laws.specs.Answers.{Answer}
use Rattle.laws.specs.Pick.{pick}
use Rattle.lines.specs.Lines.{digit, line}
use Rattle.store.specs.Bands.{Band}

-- the number of an answer, and on 0 what it returns besides
unfoldable pub printed : Answer ℕ → List ℕ
printed a = a.number ∷ pick (eqb a.number 0) a.values []

unfoldable pub answer_line : ℕ → Answer ℕ → List ℕ
answer_line kind a = line (digit kind) (printed a)

-- "= key payload"
unfoldable pub element_line : ℕ → ℕ → List ℕ
element_line k p = line 61 (k ∷ p ∷ [])

-- n elements from place i on
unfoldable pub element_lines : List ℕ → List ℕ → ℕ → ℕ → List ℕ
element_lines ks ps i zero = []
element_lines ks ps i (suc n) = element_line (get_or ks i 0) (get_or ps i 0) ++ element_lines ks ps (i + 1) n

-- how many elements a band lists
abbrev pub how_many : Answer ℕ → ℕ
how_many a = pick (eqb a.number 0) (get_or a.values 0 0) 0

unfoldable pub band_lines : Band → List ℕ
band_lines b = answer_line 4 b.answer ++ element_lines b.keys b.payloads 0 (how_many b.answer)

-- "prints 'x' and the offset, from 0, of that kind byte"
unfoldable pub end_line : ℕ → List ℕ
end_line offset = line 120 (offset ∷ [])
