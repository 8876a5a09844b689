-- `counters::raised_if` meets its contract. Assumes nothing.
use Rattle.counters.specs.Counters.{raised_if}
use Rattle.counters.proofs.raised_if.Goals as goal

pub returns-then-conflict : goal.returns-then-conflict
unfolding raised_if
returns-then-conflict c = rw c.if-conflict.true c.one_more.ensures

pub returns : goal.returns
unfolding raised_if
returns c = rw c.if-conflict.false
