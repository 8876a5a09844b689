-- `insert::settle_slot` meets its contract. Assumes nothing.
use Rattle.insert.proofs.Leaves.{settled-pair, settled-key}
use Rattle.insert.proofs.settle_slot.Goals as goal

pub returns-then-conflict : goal.returns-then-conflict
returns-then-conflict c = settled-pair _ _ _ _ _ _ _ c.if-conflict.true c.put_child.ensures

pub returns : goal.returns
returns c = settled-key _ _ _ _ _ _ _ c.if-conflict.false c.put_data.ensures
