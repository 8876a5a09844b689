-- `operations::lookup` meets its contract: its answer and the line of that answer (proofs/Answering). Assumes nothing.
use mathlib.Core.List.{[], ◌∷◌}
use mathlib.Core.Path.{ap, ◌∙◌}
use native.Mathlib.Omega.{arith}
use Rattle.operations.proofs.Answering.{refused-text, done-text}
use Rattle.operations.proofs.Refusing.{looked-number, looked-refuses}
use Rattle.store.specs.Calls.{looked}
use Rattle.operations.proofs.lookup.Goals as goal

pub returns-in_default : goal.returns-in_default
returns-in_default c = record { result_after = refused-text _ _ 3 _ (looked c.lookup-answer.result) _ c.line.ensures.result_after (c.number_of.ensures ∙ looked-number c.lookup-answer.result) (looked-refuses c.lookup-answer.result c.in_default.not-Ok) c.lookup-answer.ensures; upper_bound = (omega (arith, c.line.ensures.upper_bound.0), c.line.ensures.upper_bound.1) }

pub returns : goal.returns
unfolding looked
returns c = record { result_after = done-text _ _ 3 (_ ∷ _ ∷ []) (looked c.lookup-answer.result) _ c.line-2.ensures.result_after (ap looked c.in-Ok.is) c.lookup-answer.ensures; upper_bound = c.line-2.ensures.upper_bound }
