-- `walk::reading::past_last` meets its contract, way by way (proofs/Readings). Assumes nothing.
use mathlib.Core.Path.{◌≡◌, sym, ap, subst, ◌∙◌}
use Prim.Native.Nat.{ℕ, ◌+◌}
use Rattle.walk.specs.Moves.{SpanFits}
use Rattle.walk.specs.declared.Span.TheVariants.{Whole}
use Rattle.walk.proofs.Readings.{last_between, last_whole}
use Rattle.walk.proofs.reading.past_last.Goals as goal

pub slot_of-requires : goal.slot_of-requires
slot_of-requires c = record { in_range = c.requires.in_range; x_lt_value_bound = (subst SpanFits c.in-Between.is c.requires.span_fits).1 }

pub returns-in-Between : goal.returns-in-Between
returns-in-Between c = ap (λ (x : ℕ). x + 1) c.slot_of.ensures.0 ∙ last_between _ _ _ _ (sym c.in-Between.is)

pub returns-in-Whole : goal.returns-in-Whole
returns-in-Whole c = let e : Whole ≡ c.args.span = cc in last_whole _ _ c.requires.in_range e
