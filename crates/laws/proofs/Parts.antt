-- A part of a list, as `&s[a..b]` gives it: take (b - a) (drop a s). Assumes nothing.
use mathlib.Core.List.{List}
use mathlib.Core.Path.{◌≡◌, ◌∙◌}
use Prim.Native.Nat.{ℕ, ◌+◌, ◌-◌, ◌<◌, ◌≤◌}
use native.Mathlib.Omega.{arith}
use lib.ListN.{length, get_or, take, drop, length-drop}
use lib.Seq.{get_or-drop, get_or-take, length-take-le}

pub length_part : (s : List ℕ) (a b : ℕ) → b ≤ length s → length (take (b - a) (drop a s)) ≡ b - a
length_part s a b h = length-take-le (b - a) (drop a s) (simp length-drop (omega arith))

pub get_or-part : (s : List ℕ) (a b i : ℕ) → i < b - a → get_or (take (b - a) (drop a s)) i 0 ≡ get_or s (a + i) 0
get_or-part s a b i h = get_or-take (b - a) (drop a s) i 0 h ∙ get_or-drop a s i 0
