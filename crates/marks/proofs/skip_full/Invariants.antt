-- `marks::skip_full` meets its contract: at each turn, all places of the words passed are used. Assumes nothing.
use Rattle.marks.proofs.Turns.{UsedWords}
use Rattle.marks.proofs.skip_full.Given as goal

abbrev pub invariant-loop-w : goal.invariant-loop-w
invariant-loop-w l = UsedWords l.used l.k l.w
