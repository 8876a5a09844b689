-- `marks::is_used` meets its contract: within the map by computation, past its end since nothing is used there. Assumes
-- nothing.
use mathlib.Core.Path.{refl, sym}
use Rattle.marks.specs.Used.{used_at}
use Rattle.marks.proofs.Marks.{past_unused}
use Rattle.marks.proofs.is_used.Goals as goal

pub returns-then-k-used : goal.returns-then-k-used
unfolding used_at
returns-then-k-used c = refl

pub returns-else-k-used : goal.returns-else-k-used
returns-else-k-used c = sym (past_unused _ _ c.if-k-used.false)
