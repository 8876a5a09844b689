-- `edge::soorqabiye_slot_choice` meets its contract: the leaf's answer, passed on. Assumes nothing.
use mathlib.Core.Path.{ap}
use Rattle.model.specs.Slots.{slotted}
use Rattle.edge.proofs.Refused.{slot_refused}
use Rattle.edge.specs.Passing.{pass_slot}
use Rattle.edge.proofs.soorqabiye_slot_choice.Goals as goal

pub returns-in-Ok : goal.returns-in-Ok
unfolding pass_slot slotted
returns-in-Ok c = let h = rw c.new.ensures at c.in-Ok.ensures in ap pass_slot h

pub returns-in-Err : goal.returns-in-Err
unfolding pass_slot slotted
returns-in-Err c = let h = rw c.new.ensures at c.in-Err.ensures in rw c.number.ensures (slot_refused _ _ _ h)
