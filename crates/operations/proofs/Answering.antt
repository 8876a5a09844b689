-- The line of an answer: a refusal's has its number alone, and that of 0 has what is returned besides. Assumes nothing.
use mathlib.Core.List.{List, [], ◌∷◌, append-nil}
use mathlib.Core.Path.{◌≡◌, sym, ap, ◌∙◌}
use Prim.Native.Nat.{ℕ}
use borrow.Author.Tests.{ne_eqb}
use Rattle.laws.specs.Answers.{Answer, done}
use Rattle.lines.specs.Lines.{digit, line, Text, write}
use Rattle.lines.proofs.Writing.{then_write}
use Rattle.store.specs.Bands.{Band, band}
use Rattle.operations.specs.Printing.{printed, answer_line, element_lines, band_lines}

refusal_line : (kind : ℕ) (a : Answer ℕ) → (a.number ≡ 0 → ⊥) → line (digit kind) (a.number ∷ []) ≡ answer_line kind a
unfolding answer_line printed
refusal_line kind a h = rw (ne_eqb a.number 0 h)

pub refused-text : (t u : Text) (kind n : ℕ) (a b : Answer ℕ)
    → u ≡ write t (line (digit kind) (n ∷ [])) → n ≡ a.number → (a.number ≡ 0 → ⊥) → a ≡ b → u ≡ write t (answer_line kind b)
refused-text t u kind n a b d e h s =
    d ∙ ap (λ (l : List ℕ). write t l) (ap (λ (k : ℕ). line (digit kind) (k ∷ [])) e ∙ refusal_line kind a h ∙ ap (answer_line kind) s)

pub done-text : (t u : Text) (kind : ℕ) (vs : List ℕ) (a b : Answer ℕ)
    → u ≡ write t (line (digit kind) (0 ∷ vs)) → a ≡ done vs → a ≡ b → u ≡ write t (answer_line kind b)
unfolding answer_line printed
done-text t u kind vs a b d e s = d ∙ ap (λ (x : Answer ℕ). write t (answer_line kind x)) (sym e ∙ s)

-- a band that is refused lists no element
refused-band : (b : Band) → (b.answer.number ≡ 0 → ⊥) → answer_line 4 b.answer ≡ band_lines b
unfolding band_lines element_lines
refused-band b h = rw (ne_eqb b.answer.number 0 h) (sym (append-nil (answer_line 4 b.answer)))

pub refused-band-text : (t u : Text) (n : ℕ) (a : Answer ℕ) (b : Band)
    → u ≡ write t (line 52 (n ∷ [])) → n ≡ a.number → (a.number ≡ 0 → ⊥) → a ≡ b.answer → u ≡ write t (band_lines b)
refused-band-text t u n a b d e h s =
    let g : b.answer.number ≡ 0 → ⊥ = λ z. h (ap (λ (x : Answer ℕ). x.number) s ∙ z) in
    refused-text t u 4 n a b.answer d e h s ∙ ap (λ (l : List ℕ). write t l) (refused-band b g)

-- and one that is done lists as many as it says
pub done-band-text : (t u v : Text) (n more : ℕ) (ks ps : List ℕ) (b : Band)
    → u ≡ write t (line 52 (0 ∷ n ∷ more ∷ [])) → v ≡ write u (element_lines ks ps 0 n) → band (done (n ∷ more ∷ [])) ks ps ≡ b → v ≡ write t (band_lines b)
unfolding band_lines answer_line printed
done-band-text t u v n more ks ps b d e s =
    then_write t u v (line 52 (0 ∷ n ∷ more ∷ [])) (element_lines ks ps 0 n) d e ∙ ap (λ (x : Band). write t (band_lines x)) s
