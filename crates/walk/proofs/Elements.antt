-- What holds of every element among the events of a reading, of its slot and its key; and of all that one reading and then another meet.
-- Assumes nothing.
use mathlib.Core.List.{List, [], ◌∷◌, ◌++◌}
use Prim.Native.Nat.{ℕ}
use Rattle.walk.specs.declared.Event.{Event}
use Rattle.walk.specs.declared.Event.TheVariants.{Enter, Element, Damage, End}

abbrev pub Each : (ℕ → ℕ → Type 0) → List Event → Type 0
Each P [] = Unit
Each P (Enter r n ∷ es) = Each P es
Each P (Element q k ∷ es) = P q k × Each P es
Each P (Damage c ∷ es) = Each P es
Each P (End ∷ es) = Each P es

pub each_both : (P : ℕ → ℕ → Type 0) (es fs : List Event) → Each P es → Each P fs → Each P (es ++ fs)
each_both P [] fs a b = b
each_both P (Enter r n ∷ es) fs a b = each_both P es fs a b
each_both P (Element q k ∷ es) fs a b = (a.0, each_both P es fs a.1 b)
each_both P (Damage c ∷ es) fs a b = each_both P es fs a b
each_both P (End ∷ es) fs a b = each_both P es fs a b
