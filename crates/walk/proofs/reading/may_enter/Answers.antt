-- `walk::reading::may_enter` meets its contract, test by test (proofs/Siftings). Assumes nothing.
use borrow.Author.Tests.{not-true, not-false}
use Rattle.walk.proofs.Siftings.{enters_none, enters_plain, enters_marked}
use Rattle.walk.proofs.reading.may_enter.Goals as goal

pub returns-then-rules-lt1 : goal.returns-then-rules-lt1
returns-then-rules-lt1 c = enters_none _ _ _ c.if-rules-lt1.true

pub returns-then-not-rules : goal.returns-then-not-rules
returns-then-not-rules c = enters_plain _ _ _ c.if-rules-lt1.false (not-true _ c.if-not-rules.true)

pub returns : goal.returns
returns c = enters_marked _ _ _ c.if-rules-lt1.false (not-false _ c.if-not-rules.false) _ (rw c.records.ensures at c.is_full_run.ensures)
