-- `walk::reading::first_in` meets its contract, way by way (proofs/Readings). Assumes nothing.
use mathlib.Core.Path.{◌≡◌, sym, subst, ◌∙◌}
use Rattle.walk.specs.Moves.{SpanFits}
use Rattle.walk.specs.declared.Span.TheVariants.{Whole}
use Rattle.walk.proofs.Readings.{first_between, first-whole}
use Rattle.walk.proofs.reading.first_in.Goals as goal

pub slot_of-requires : goal.slot_of-requires
slot_of-requires c = record { in_range = c.requires.in_range; x_lt_value_bound = (subst SpanFits c.in-Between.is c.requires.span_fits).0 }

pub returns-in-Between : goal.returns-in-Between
returns-in-Between c = c.slot_of.ensures.0 ∙ first_between _ _ _ _ (sym c.in-Between.is)

pub returns-in-Whole : goal.returns-in-Whole
returns-in-Whole c = let e : Whole ≡ c.args.span = cc in first-whole _ _ e
