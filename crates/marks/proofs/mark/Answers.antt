-- `marks::mark` meets its contract: the or with the place's power of two is what the definition adds. Assumes nothing.
use Rattle.marks.proofs.Marks.{mark_stored}
use Rattle.marks.proofs.mark.Goals as goal

pub returns : goal.returns
returns c = mark_stored _ _
