-- `pool::zero_run` meets its contract: the part that is filled is the run (proofs/Sets). Assumes nothing.
use Prim.Native.Nat.{◌*◌}
use native.Mathlib.Omega.{arith}
use Rattle.pool.specs.Writing.{zero_run}
use Rattle.pool.proofs.Sets.{part_filled}
use Rattle.pool.proofs.zero_run.Goals as goal

pub returns : goal.returns
unfolding zero_run
returns c = part_filled _ _ _ _ (c.args.l * 2) (omega arith) (omega arith) (c.fill.ensures.after (λ y e. e))
