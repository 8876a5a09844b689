-- `counters::raise_node` meets its contract: its stores are those of the definition. Assumes nothing.
use Rattle.counters.proofs.Raises.{raise_elements_stored, raise_both_stored}
use Rattle.counters.proofs.raise_node.Goals as goal

pub returns-then-not-conflict : goal.returns-then-not-conflict
returns-then-not-conflict c = raise_elements_stored _ _ _ _ c.one_more.ensures c.if-not-conflict.true

pub returns : goal.returns
returns c = raise_both_stored _ _ _ _ c.one_more.ensures _ c.one_more-2.ensures c.if-not-conflict.false
