-- `marks::skip_full` meets its contract: at each turn, all places of the words passed are used. Assumes nothing.
use native.Mathlib.Omega.{arith}
use Rattle.marks.proofs.Turns.{used-words-next}
use Rattle.marks.proofs.skip_full.Goals as goal

pub loop-w-preserved : goal.loop-w-preserved
loop-w-preserved c = used-words-next _ _ _ _ c.loop-w.invariant (omega arith) c.if-used-w.false
