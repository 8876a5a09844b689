-- `pool::Pools::node_at` meets its contract: each way out is a way through the rules of reading a record (proofs/Nodes). Assumes
-- nothing.
use mathlib.Core.Path.{sym, ◌∙◌}
use native.Mathlib.Omega.{arith}
use Rattle.model.proofs.Slots.{passes_range}
use Rattle.pool.specs.Reading.{node_in}
use Rattle.pool.proofs.Nodes.{reads_outside, reads_unmarked, reads-run_outside, reads_unfit, reads-good}
use Rattle.pool.proofs.Pools.node_at.Goals as goal

pub returns-then-nodes-r : goal.returns-then-nodes-r
returns-then-nodes-r c = sym (reads_outside _ _ (omega arith))

pub returns-then-not-is_used : goal.returns-then-not-is_used
returns-then-not-is_used c = sym (reads_unmarked _ _ (omega arith) (sym c.is_used.ensures ∙ c.if-not-is_used.true))

pub returns-then-count-l : goal.returns-then-count-l
unfolding node_in
returns-then-count-l c = sym (reads-run_outside _ _ (omega arith) (sym c.is_used.ensures ∙ c.if-not-is_used.false) (omega arith))

pub returns-then-count-l-2 : goal.returns-then-count-l-2
unfolding node_in
returns-then-count-l-2 c = sym (reads-run_outside _ _ (omega arith) (sym c.is_used.ensures ∙ c.if-not-is_used.false) (omega arith))

pub returns-then-not-is_in_range : goal.returns-then-not-is_in_range
unfolding node_in
returns-then-not-is_in_range c =
    sym
    (reads_unfit _ _ (omega arith) (sym c.is_used.ensures ∙ c.if-not-is_used.false) (omega arith) (sym c.is_in_range.ensures ∙ c.if-not-is_in_range.true))

pub returns : goal.returns
unfolding node_in
returns c =
    sym
    (reads-good
    _
    _
    (omega arith)
    (sym c.is_used.ensures ∙ c.if-not-is_used.false)
    (omega arith)
    (passes_range _ (sym c.is_in_range.ensures ∙ c.if-not-is_in_range.false)))
