-- `walk::step_in` meets its contract: the key found at once, or what the slot says (proofs/Walks). Assumes nothing.
use Rattle.std.specs.Prelude.{Ok}
use mathlib.Core.Path.{◌≡◌, refl, sym, ◌∙◌}
use native.Mathlib.Omega.{arith}
use Rattle.pool.specs.declared.Slot.TheVariants.{Null}
use Rattle.walk.specs.Walks.{step_in}
use Rattle.walk.proofs.Walks.{step-says, step-found}
use Rattle.walk.proofs.step_in.Goals as goal

pub returns-then-slots-q : goal.returns-then-slots-q
returns-then-slots-q c =
    step-found _ _ _ c.slot_of-j.result _ c.slot_of-j.ensures.0 refl (omega arith) c.if-slots-q.true

pub returns-in-Ok-Null : goal.returns-in-Ok-Null
unfolding step_in
returns-in-Ok-Null c =
    let e : c.slot_at.result ≡ Ok Null = cc in
    step-says _ _ _ c.slot_of-j.result _ c.slot_of-j.ensures.0 refl (Ok Null) (sym e ∙ c.slot_at.ensures)

pub returns-in-Ok-Data : goal.returns-in-Ok-Data
unfolding step_in
returns-in-Ok-Data c =
    step-says _ _ _ c.slot_of-j.result _ c.slot_of-j.ensures.0 refl _ (rw c.in-Ok-Data.field-0-is at c.in-Ok-Data.ensures)

pub returns-in-Ok-Child : goal.returns-in-Ok-Child
unfolding step_in
returns-in-Ok-Child c =
    step-says _ _ _ c.slot_of-j.result _ c.slot_of-j.ensures.0 refl _ (rw c.in-Ok-Child.field-0-is at c.in-Ok-Child.ensures)

pub returns-in-Err : goal.returns-in-Err
unfolding step_in
returns-in-Err c =
    step-says _ _ _ c.slot_of-j.result _ c.slot_of-j.ensures.0 refl _ (c.in-Err.ensures)
