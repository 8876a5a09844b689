-- Text written in parts is written whole. Assumes nothing.
use mathlib.Core.List.{List, [], ◌++◌}
use mathlib.Core.Path.{◌≡◌, ap, ◌∙◌}
use Prim.Native.Nat.{ℕ, ◌+◌}
use native.Mathlib.Omega.{arith}
use lib.ListN.{length, length-append}
use Rattle.laws.proofs.Sets.{sets_append}
use Rattle.lines.specs.Lines.{Text, write}

pub write-more : (t : Text) (a b : List ℕ) → write (write t a) b ≡ write t (a ++ b)
unfolding write
write-more t a b =
    let e : t.at + length a + length b ≡ t.at + length (a ++ b) = rw (length-append a b) (omega arith) in
    rw (sets_append t.bytes t.at a b, e)

pub write-none : (t : Text) → write t [] ≡ t
unfolding write
write-none t = let e : t.at + 0 ≡ t.at = omega arith in rw e

-- what a write of l leaves: the place past it
pub written_at : (t u : Text) (l : List ℕ) → u ≡ write t l → u.at ≡ t.at + length l
unfolding write
written_at t u l e = ap (λ (u : Text). u.at) e

-- one write after another
pub then_write : (t u v : Text) (a b : List ℕ) → u ≡ write t a → v ≡ write u b → v ≡ write t (a ++ b)
then_write t u v a b d e = e ∙ ap (λ (x : Text). write x b) d ∙ write-more t a b

-- the rest of a text after its first part
pub write_first : (t u : Text) (a b : List ℕ) → u ≡ write t a → write u b ≡ write t (a ++ b)
write_first t u a b e = ap (λ (x : Text). write x b) e ∙ write-more t a b
