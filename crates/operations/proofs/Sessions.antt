-- A session, operation by operation: what its first byte makes of it, whatever follows, and what is printed of it in a lent list.
-- Assumes nothing.
use mathlib.Core.List.{List, [], ◌∷◌, ◌++◌}
use mathlib.Core.Path.{◌≡◌, refl, sym, ap, ◌∙◌}
use Rattle.std.proofs.Common.{Option, Some, None}
use Prim.Native.Nat.{ℕ, zero, suc, ◌+◌, ◌-◌, ◌<◌, ◌≤◌}
use native.Mathlib.Omega.{arith}
use borrow.Author.Tests.{le-leb, lt-leb}
use lib.ListN.{length, get_or, take, drop, length-append, length-drop}
use lib.Seq.{sets-eq, drop-cons, drop-drop, take-append-le, drop-append-le, take-append_seam, length-take-le}
use Rattle.lines.specs.Kinds.{kind_of}
use Rattle.lines.specs.Lines.{Text, write}
use Rattle.lines.specs.declared.Kind.{Kind}
use Rattle.operations.specs.Printing.{end_line}
use Rattle.operations.specs.Sessions.{by_kind, session_from, session}
use Rattle.operations.specs.Stepping.{State, step_of}

-- room for more operations than there are changes nothing, if it does so for the rest
Same : (ℕ → List ℕ → State → List ℕ) → (ℕ → List ℕ → State → List ℕ) → ℕ → Type 0
Same r q n = (o : ℕ) (bs : List ℕ) (s : State) → length bs ≤ n → r o bs s ≡ q o bs s

by_kind-same : (x : Option Kind) (r q : ℕ → List ℕ → State → List ℕ) (n o : ℕ) (bs : List ℕ) (s : State) → Same r q n → length bs ≤ n → by_kind x r o bs s ≡ by_kind x q o bs s
unfolding by_kind Same
by_kind-same (Some k) r q n o bs s h l =
    let e = h (o + 1 + k.length) (drop k.length bs) (step_of k.operation (take k.length bs) s).next (rw (length-drop k.length bs) (omega arith)) in
    rw e
by_kind-same None r q n o bs s h l = refl

enough : (n f g o : ℕ) (bs : List ℕ) (s : State) → length bs ≤ n → n ≤ f → n ≤ g → session_from f o bs s ≡ session_from g o bs s
unfolding session_from Same
enough n zero zero o bs s l a b = refl
enough n zero (suc g) o [] s l a b = refl
enough n zero (suc g) o (k ∷ bs) s l a b = absurd (omega arith)
enough n (suc f) zero o [] s l a b = refl
enough n (suc f) zero o (k ∷ bs) s l a b = absurd (omega arith)
enough n (suc f) (suc g) o [] s l a b = refl
enough n (suc f) (suc g) o (k ∷ bs) s l a b =
    by_kind-same (kind_of k) (session_from f) (session_from g) (length bs) o bs s (λ p ds u m. enough (length bs) f g p ds u m (omega arith) (omega arith)) (omega arith)

pub session-none : (o : ℕ) (s : State) → session o [] s ≡ []
unfolding session session_from
session-none o s = refl

pub session-unknown : (o b : ℕ) (bs : List ℕ) (s : State) → kind_of b ≡ None → session o (b ∷ bs) s ≡ end_line o
unfolding session session_from by_kind
session-unknown o b bs s e = rw e

pub session-short : (o b : ℕ) (k : Kind) (bs : List ℕ) (s : State) → kind_of b ≡ Some k → length bs < k.length → session o (b ∷ bs) s ≡ end_line o
unfolding session session_from by_kind
session-short o b k bs s e h = rw (e, lt-leb k.length (length bs) h)

pub session-next : (o b : ℕ) (k : Kind) (bs : List ℕ) (s : State) → kind_of b ≡ Some k → k.length ≤ length bs
    → session o (b ∷ bs) s ≡ (step_of k.operation (take k.length bs) s).lines ++ session (o + 1 + k.length) (drop k.length bs) (step_of k.operation (take k.length bs) s).next
unfolding session session_from by_kind
session-next o b k bs s e h =
    let d : length (drop k.length bs) ≤ length bs = rw (length-drop k.length bs) (omega arith) in
    let t = (step_of k.operation (take k.length bs) s).next in
    let f : session_from (length bs) (o + 1 + k.length) (drop k.length bs) t ≡ session_from (length (drop k.length bs)) (o + 1 + k.length) (drop k.length bs) t =
    enough (length (drop k.length bs)) (length bs) (length (drop k.length bs)) (o + 1 + k.length) (drop k.length bs) t (omega arith) d (omega arith)
    in
    rw (e, le-leb k.length (length bs) h) (ap (λ (l : List ℕ). (step_of k.operation (take k.length bs) s).lines ++ l) f)

-- the byte at place p of a block, and what follows it
at_byte : (input more : List ℕ) (p : ℕ) → p < length input → drop p input ++ more ≡ get_or input p 0 ∷ (drop (p + 1) input ++ more)
at_byte input more p h =
    let e : suc p ≡ p + 1 = omega arith in
    let d : drop p input ≡ get_or input p 0 ∷ drop (p + 1) input = rw e at (drop-cons input p 0 h) in
    ap (λ (l : List ℕ). l ++ more) d

module _ (input more : List ℕ) (p : ℕ) (lt : p < length input) (o : ℕ) (s : State) where
  pub block_unknown : kind_of (get_or input p 0) ≡ None → session (o + p) (drop p input ++ more) s ≡ end_line (o + p)
  block_unknown e = rw (at_byte input more p lt) (session-unknown (o + p) (get_or input p 0) (drop (p + 1) input ++ more) s e)

  pub block_short : (k : Kind) → kind_of (get_or input p 0) ≡ Some k → length input - (p + 1) < k.length → more ≡ []
      → session (o + p) (drop p input ++ more) s ≡ end_line (o + p)
  block_short k e h z =
      let l : length (drop (p + 1) input ++ more) < k.length = rw (z, length-append (drop (p + 1) input) [], length-drop (p + 1) input) (omega arith) in
      rw (at_byte input more p lt) (session-short (o + p) (get_or input p 0) k (drop (p + 1) input ++ more) s e l)

  pub block_next : (k : Kind) → kind_of (get_or input p 0) ≡ Some k → k.length ≤ length input - (p + 1)
      → session (o + p) (drop p input ++ more) s
      ≡ (step_of k.operation (take k.length (drop (p + 1) input)) s).lines
      ++ session (o + (p + 1 + k.length)) (drop (p + 1 + k.length) input ++ more) (step_of k.operation (take k.length (drop (p + 1) input)) s).next
  block_next k e h =
      let d : k.length ≤ length (drop (p + 1) input) = rw (length-drop (p + 1) input) (omega arith) in
      let l : k.length ≤ length (drop (p + 1) input ++ more) = rw (length-append (drop (p + 1) input) more) (omega arith) in
      let a : o + p + 1 + k.length ≡ o + (p + 1 + k.length) = omega arith in
      rw (at_byte input more p lt, session-next (o + p) (get_or input p 0) k (drop (p + 1) input ++ more) s e l, take-append-le k.length (drop (p + 1) input) more d, drop-append-le k.length (drop (p + 1) input) more d, drop-drop k.length (p + 1) input, a)

-- what was printed before, and the lines of one operation
pub printed-more : (t u : Text) (l : List ℕ) → u ≡ write t l → t.at + length l ≤ length t.bytes → take u.at u.bytes ≡ take t.at t.bytes ++ l
unfolding write
printed-more t u l e h =
    let front = take t.at t.bytes ++ l in
    let n : length (take t.at t.bytes ++ l) ≡ t.at + length l = rw (length-append (take t.at t.bytes) l, length-take-le t.at t.bytes (omega arith)) in
    ap (λ (v : Text). take v.at v.bytes) e ∙ ap (λ (x : List ℕ). take (t.at + length l) x) (sets-eq l t.bytes t.at h)
    ∙ ap (λ (k : ℕ). take k (take t.at t.bytes ++ l ++ drop (t.at + length l) t.bytes)) (sym n)
    ∙ take-append_seam (take t.at t.bytes ++ l) (drop (t.at + length l) t.bytes)
