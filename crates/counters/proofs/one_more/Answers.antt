-- `counters::one_more` meets its contract. Assumes nothing.
use native.Mathlib.Omega.{arith}
use Rattle.counters.specs.Counters.{one_more}
use Rattle.counters.proofs.one_more.Goals as goal

pub returns : goal.returns
unfolding one_more
returns c = omega arith
