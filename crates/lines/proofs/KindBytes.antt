-- A kind's body is as long as its operation says. Assumes nothing.
use mathlib.Core.Path.{◌≡◌, refl, subst}
use Prim.Native.Nat.{ℕ}
use Rattle.std.proofs.Common.{Option, Some, None}
use lib.Dec.{eqb}
use Rattle.lines.specs.Kinds.{body_length, kind_of}
use Rattle.laws.proofs.Tests.{pick_in}
use Rattle.lines.specs.declared.Kind.{Kind}

-- the length that a kind says is its operation's
abbrev Fits : Option Kind → Type 0
Fits (Some k) = k.length ≡ body_length k.operation
Fits None = Unit

kind_fits : (b : ℕ) → Fits (kind_of b)
unfolding kind_of
kind_fits b =
    pick_in Fits (eqb b 1) _ _ refl
    (pick_in Fits (eqb b 2) _ _ refl
    (pick_in Fits (eqb b 3) _ _ refl
    (pick_in Fits (eqb b 4) _ _ refl
    (pick_in Fits (eqb b 5) _ _ refl tt))))

pub known-length : (b : ℕ) (k : Kind) → kind_of b ≡ Some k → k.length ≡ body_length k.operation
known-length b k e = subst Fits e (kind_fits b)
