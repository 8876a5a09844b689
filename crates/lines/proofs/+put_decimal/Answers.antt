use Rattle.lines.proofs.Decimals.{decimal-below, decimal-above}
use Rattle.lines.proofs.Writing.{then_write}
use Rattle.lines.proofs.+put_decimal.Goals as goal

pub returns-then-n-lt10-clause-result_after : goal.returns-then-n-lt10-clause-result_after
returns-then-n-lt10-clause-result_after t c = rw (decimal-below _ c.if-n-lt10.true) c.put_digit.ensures.result_after

pub returns-clause-result_after : goal.returns-clause-result_after
returns-clause-result_after t c =
    rw (decimal-above _ c.if-n-lt10.false)
    (then_write _ _ _ _ _ c.put_decimal-end.ensures.result_after c.put_digit-2.ensures.result_after)
