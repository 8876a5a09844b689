-- `counters::due_node` meets its contract: the counters it judges are those of the definition. Assumes nothing.
use Rattle.counters.specs.Counters.{due_node}
use Rattle.counters.proofs.due_node.Goals as goal

pub returns : goal.returns
unfolding due_node
returns c = rw (← c.one_more-elements.ensures, ← c.raised_if-conflicts.ensures) c.is_due.ensures
