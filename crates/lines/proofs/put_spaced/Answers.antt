use Rattle.std.proofs.Common.{[], ◌∷◌}
use Rattle.lines.specs.Lines.{space, decimal, spaced}
use Rattle.lines.proofs.Writing.{then_write}
use Rattle.lines.proofs.put_spaced.Goals as goal

pub returns-clause-result_after : goal.returns-clause-result_after
unfolding spaced
returns-clause-result_after c = then_write _ _ _ (space ∷ []) (decimal c.args.n) c.put-next.ensures.result_after c.put_decimal.ensures.result_after
