-- `edge::soorqabiye_pack` meets its contract: the leaf's answer, passed on. Assumes nothing.
use mir.Syntax.{w64}
use mir.ValLaws.{to_z-of_z}
use mathlib.Core.Path.{ap}
use Rattle.sounding.specs.Studio.{packed}
use Rattle.edge.specs.Passing.{pass_key}
use Rattle.edge.proofs.soorqabiye_pack.Goals as goal

pub returns-in-Ok : goal.returns-in-Ok
unfolding pass_key packed
returns-in-Ok c = ap pass_key (rw (to_z-of_z w64 c.args.depth c.ranges.depth) at c.in-Ok.ensures)

pub returns-in-Err : goal.returns-in-Err
unfolding pass_key packed
returns-in-Err c = rw c.number.ensures (ap pass_key (rw (to_z-of_z w64 c.args.depth c.ranges.depth) at c.in-Err.ensures))
