-- `walk::reading::may_hold` meets its contract, test by test (proofs/Siftings). Assumes nothing.
use borrow.Author.Tests.{not-true, not-false}
use Rattle.walk.proofs.Siftings.{holds_falling, holds_plain, holds-none, holds-other}
use Rattle.walk.proofs.reading.may_hold.Goals as goal

pub returns-then-k-rules : goal.returns-then-k-rules
returns-then-k-rules c = holds_falling _ _ c.if-k-rules.true

pub returns-then-not-rules : goal.returns-then-not-rules
returns-then-not-rules c = holds_plain _ _ c.if-k-rules.false (not-true _ c.if-not-rules.true)

pub returns-then-rules-lt1 : goal.returns-then-rules-lt1
returns-then-rules-lt1 c = holds-none _ _ c.if-k-rules.false (not-false _ c.if-not-rules.false) c.if-rules-lt1.true

pub returns : goal.returns
returns c = holds-other _ _ c.if-k-rules.false (not-false _ c.if-not-rules.false) c.if-rules-lt1.false
