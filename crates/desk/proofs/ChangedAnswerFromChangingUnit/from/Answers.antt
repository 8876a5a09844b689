-- A change's answer in fields. Assumes nothing.
use Rattle.laws.proofs.Refusals.{number-refusal}
use Rattle.store.specs.Calls.{changed}
use Rattle.desk.specs.Passing.{pass_changing}
use Rattle.desk.proofs.ChangedAnswerFromChangingUnit.from.Goals as goal

pub returns-in-Ok : goal.returns-in-Ok
unfolding pass_changing changed
returns-in-Ok c = rw c.in-Ok.is

pub returns-in-Err : goal.returns-in-Err
unfolding pass_changing changed
returns-in-Err c = rw (c.in-Err.is, c.number.ensures, c.told.ensures, number-refusal)
