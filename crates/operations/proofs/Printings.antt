-- A block of operations: what is printed so far, and what is left of the session from there, is the whole; for each way on and out.
-- Assumes nothing.
use mathlib.Core.Bool.{Bool, true}
use mathlib.Core.List.{List, [], ◌++◌, append_assoc, append-nil}
use mathlib.Core.Path.{◌≡◌, refl, sym, ap, ◌∙◌}
use Rattle.std.proofs.Common.{Option, Some, None}
use Prim.Native.Nat.{ℕ, ◌+◌, ◌-◌, ◌<◌, ◌≤◌}
use native.Mathlib.Omega.{arith}
use lib.ListN.{length, get_or, take, drop, length-drop}
use lib.Seq.{length-take-le}
use Rattle.lines.specs.Kinds.{kind_of, body_length, longest_body}
use Rattle.lines.specs.Lines.{text, write}
use Rattle.lines.specs.declared.Kind.{Kind}
use Rattle.lines.specs.declared.Operation.{Operation}
use Rattle.lines.specs.declared.Operation.TheVariants.{Insert, Delete, Lookup, Band, Replace}
use Rattle.lines.proofs.KindBytes.{known-length}
use Rattle.lines.proofs.Writing.{written_at}
use Rattle.operations.specs.Printing.{end_line}
use Rattle.operations.specs.Sessions.{session}
use Rattle.operations.specs.Stepping.{State, step_of}
use Rattle.operations.proofs.Sessions.{block_unknown, block_short, block_next, printed-more}

-- a kind that is not a known one is unknown, as an arm after the known ones says it
pub unknown-left : (k : Option Kind) → ((x : Kind) → k ≡ Some x → ⊥) → k ≡ None
unknown-left (Some x) h = absurd (h x refl)
unknown-left None h = refl

longest : (o : Operation) → body_length o ≤ longest_body
longest Insert = omega arith
longest Delete = omega arith
longest Lookup = omega arith
longest Band = omega arith
longest Replace = omega arith

pub body_at_most : (b : ℕ) (k : Kind) → kind_of b ≡ Some k → k.length ≤ longest_body
body_at_most b k e = omega (arith, known-length b k e, longest k.operation)

-- after p bytes of the input, at the state s: `at` bytes were printed, and the rest of the session is from there
abbrev pub Printed : List ℕ → Bool → ℕ → State → ℕ → List ℕ → ℕ → State → Type 0
Printed input last o s₀ at out p s =
    (more : List ℕ) → (last ≡ true → more ≡ []) → session o (input ++ more) s₀ ≡ take at out ++ session (o + p) (drop p input ++ more) s

-- the end of the session: all is printed
abbrev pub AllPrinted : List ℕ → Bool → ℕ → State → ℕ → List ℕ → Type 0
AllPrinted input last o s₀ at out = (more : List ℕ) → (last ≡ true → more ≡ []) → session o (input ++ more) s₀ ≡ take at out ++ []

module _ (input : List ℕ) (last : Bool) (o : ℕ) (s₀ : State) (at : ℕ) (out : List ℕ) (p : ℕ) (s : State) (h : Printed input last o s₀ at out p s) (lt : p < length input) (at' : ℕ) (out' : List ℕ) where
  -- lines printed after those before
  after : (l : List ℕ) → text out' at' ≡ write (text out at) l → at' ≤ length out → take at' out' ≡ take at out ++ l
  after l e f = printed-more (text out at) (text out' at') l e (omega (arith, written_at (text out at) (text out' at') l e, f))

  pub printed-next : (k : Kind) → kind_of (get_or input p 0) ≡ Some k → k.length ≤ length input - (p + 1)
      → (body : List ℕ) → body ≡ take k.length (drop (p + 1) input)
      → (s' : State) → s' ≡ (step_of k.operation body s).next → text out' at' ≡ write (text out at) (step_of k.operation body s).lines → at' ≤ length out
      → Printed input last o s₀ at' out' (p + 1 + k.length) s'
  printed-next k e f body b s' es et g more q =
      h more q ∙ ap (λ (l : List ℕ). take at out ++ l) (block_next input more p lt o s k e f)
      ∙ sym (append_assoc (take at out) (step_of k.operation (take k.length (drop (p + 1) input)) s).lines _)
      ∙ rw (after (step_of k.operation body s).lines et g, es, b)

  pub printed-unknown : kind_of (get_or input p 0) ≡ None → text out' at' ≡ write (text out at) (end_line (o + p)) → at' ≤ length out → AllPrinted input last o s₀ at' out'
  printed-unknown e et g more q =
      h more q ∙ ap (λ (l : List ℕ). take at out ++ l) (block_unknown input more p lt o s e) ∙ sym (after (end_line (o + p)) et g) ∙ sym (append-nil (take at' out'))

  pub printed-short : (k : Kind) → kind_of (get_or input p 0) ≡ Some k → length input - (p + 1) < k.length → last ≡ true
      → text out' at' ≡ write (text out at) (end_line (o + p)) → at' ≤ length out → AllPrinted input last o s₀ at' out'
  printed-short k e f t et g more q =
      h more q ∙ ap (λ (l : List ℕ). take at out ++ l) (block_short input more p lt o s k e f (q t)) ∙ sym (after (end_line (o + p)) et g) ∙ sym (append-nil (take at' out'))

-- the body of n bytes after the kind byte at place p, as a part of the input
pub body_is : (input : List ℕ) (p n : ℕ) → take (p + 1 + n - (p + 1)) (drop (p + 1) input) ≡ take n (drop (p + 1) input)
body_is input p n = let e : p + 1 + n - (p + 1) ≡ n = omega arith in rw e

pub body-length : (input : List ℕ) (p n : ℕ) → p < length input → n ≤ length input - (p + 1) → length (take (p + 1 + n - (p + 1)) (drop (p + 1) input)) ≡ n
body-length input p n h f = rw (body_is input p n) (length-take-le n (drop (p + 1) input) (rw (length-drop (p + 1) input) f))
