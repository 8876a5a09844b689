-- `walk::reading::after_key` meets its contract (proofs/Siftings). Assumes nothing.
use Rattle.walk.proofs.Siftings.{holding-none}
use Rattle.walk.proofs.reading.after_key.Goals as goal

pub returns-then-rules-lt1 : goal.returns-then-rules-lt1
returns-then-rules-lt1 c = holding-none c.args.rules _ c.if-rules-lt1.true
