-- `pool::zero_record` meets its contract: the part that is filled is the record (proofs/Sets). Assumes nothing.
use native.Mathlib.Omega.{arith}
use Rattle.pool.specs.Writing.{zero_record}
use Rattle.pool.proofs.Sets.{part_filled}
use Rattle.pool.proofs.zero_record.Goals as goal

pub returns : goal.returns
unfolding zero_record
returns c = part_filled _ _ _ _ 8 (omega arith) (omega arith) (c.fill.ensures.after (λ y e. e))
