-- `desk::soorqabiye_insert` meets its contract: the call's answer, passed on. Assumes nothing.
use mathlib.Core.Path.{sym, ap, subst, ◌∙◌}
use Rattle.laws.proofs.Answers.{converted}
use Rattle.laws.proofs.Refusals.{number-refusal}
use Rattle.laws.specs.Refusals.{refusal}
use Rattle.insert.specs.Inserting.{Insert, inserted}
use Rattle.desk.proofs.Telling.{Bare, bare-values, insert-bare}
use Rattle.desk.specs.Passing.{pass_insert}
use Rattle.desk.proofs.soorqabiye_insert.Goals as goal

pub returns-in-Ok : goal.returns-in-Ok
unfolding pass_insert inserted
returns-in-Ok c =
    let e = rw c.in-Ok.is at c.insert-i.ensures in
    rw (c.from.ensures ∙ converted c.in-Ok.done.conflict, c.number.ensures) (ap pass_insert e)

pub returns-in-Err : goal.returns-in-Err
unfolding pass_insert inserted
returns-in-Err c =
    let e = rw c.in-Err.is at c.insert-i.ensures in
    let b : Bare 0 (refusal c.in-Err.refusal) = subst (Bare 0) (sym (ap (λ (x : Insert). x.answer) e)) (insert-bare _ _ _ _ _) in
    let v = bare-values c.in-Err.refusal b in
    rw (c.number-in-Err.ensures, ← number-refusal c.in-Err.refusal) (rw v at (ap pass_insert e))
