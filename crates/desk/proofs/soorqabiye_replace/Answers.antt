-- `desk::soorqabiye_replace` meets its contract: the call's answer, passed on. Assumes nothing.
use mathlib.Core.Path.{ap}
use Rattle.desk.specs.Passing.{pass_change, pass_changing}
use Rattle.desk.proofs.soorqabiye_replace.Goals as goal

pub returns : goal.returns
unfolding pass_change pass_changing
returns c =
    rw c.from.ensures (ap pass_change c.replace.ensures)
