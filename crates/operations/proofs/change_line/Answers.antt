-- `operations::change_line` meets its contract: the line of the answer (proofs/Answering). Assumes nothing.
use mathlib.Core.List.{[]}
use mathlib.Core.Path.{refl, ap, ◌∙◌}
use Rattle.operations.proofs.Answering.{refused-text, done-text}
use Rattle.operations.proofs.Refusing.{changed-number, changed-refuses}
use Rattle.store.specs.Calls.{changed}
use Rattle.operations.proofs.change_line.Goals as goal

pub returns-in_default : goal.returns-in_default
returns-in_default c = record {
  result_after = refused-text _ _ c.args.kind _ (changed c.args.answer) _ c.line.ensures.result_after (c.number_of.ensures ∙ changed-number c.args.answer) (changed-refuses c.args.answer c.in_default.not-Ok) refl;
  upper_bound = c.line.ensures.upper_bound;
}

pub returns : goal.returns
unfolding changed
returns c = record {
  result_after = done-text _ _ c.args.kind [] (changed c.args.answer) _ c.line-2.ensures.result_after (ap changed c.in-Ok.is) refl;
  upper_bound = c.line-2.ensures.upper_bound;
}
