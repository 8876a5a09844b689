-- `desk::soorqabiye_lookup` meets its contract: the call's answer, passed on. Assumes nothing.
use Rattle.std.specs.Prelude.{Result}
use mathlib.Core.Path.{sym, ap, subst, ◌∙◌}
use Rattle.laws.specs.Answers.{not_held}
use Rattle.laws.specs.Refusals.{refusal}
use Rattle.laws.specs.declared.Refusal.{Refusal}
use Rattle.store.specs.Calls.{looked}
use Rattle.store.specs.declared.Looked.{Looked}
use Rattle.desk.proofs.Telling.{Bare, lookup-bare, looked-refused}
use Rattle.desk.specs.Passing.{pass_looked}
use Rattle.desk.proofs.soorqabiye_lookup.Goals as goal

pub returns-in-Ok : goal.returns-in-Ok
unfolding pass_looked looked
returns-in-Ok c = ap (λ (p : Result Looked Refusal). pass_looked (looked p)) (sym c.in-Ok.is) ∙ ap pass_looked c.lookup.ensures

pub returns-in-Err : goal.returns-in-Err
unfolding looked
returns-in-Err c =
    let e = ap looked (sym c.in-Err.is) ∙ c.lookup.ensures in
    let b : Bare not_held (refusal c.in-Err.refusal) = subst (Bare not_held) (sym e) (lookup-bare _ _ _) in
    rw (c.number.ensures, c.told.ensures) (looked-refused c.in-Err.refusal b ∙ ap pass_looked e)
