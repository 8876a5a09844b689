-- `edge::soorqabiye_model_choice` meets its contract: the leaf's answer, passed on. Assumes nothing.
use mathlib.Core.Path.{◌≡◌, ap}
use Prim.Native.Nat.{ℕ}
use native.Mathlib.Omega.{arith}
use Rattle.laws.specs.Refusals.{number_of}
use Rattle.model.specs.Choice.{chosen, chosen_values, model_choice}
use Rattle.edge.proofs.Refused.{model_refused}
use Rattle.edge.specs.Passing.{pass_model}
use Rattle.edge.specs.declared.ModelAnswer.{ModelAnswer}
use Rattle.edge.proofs.soorqabiye_model_choice.Goals as goal
use Rattle.edge.proofs.soorqabiye_model_choice.Goals.{in-NotRising, in_default}

pub returns-in-Ok : goal.returns-in-Ok
unfolding pass_model chosen chosen_values
returns-in-Ok c = ap pass_model c.in-Ok.ensures

-- a refusal's answer in fields
in_fields : (number place l t lo w n : ℕ) (a : ModelAnswer) → record { number = n; place = place; l = 0; t = 0; lo = 0; w = 0 } ≡ a
    → number ≡ n → l ≡ 0 → t ≡ 0 → lo ≡ 0 → w ≡ 0 → record { number = number; place = place; l = l; t = t; lo = lo; w = w } ≡ a
in_fields number place l t lo w n a e x y z u v = rw (x, y, z, u, v) e

pub returns-after-refusal : goal.returns-after-refusal
unfolding chosen
returns-after-refusal c =
    let e : record { number = number_of c.in-Err.refusal; place = c.match-refusal.result; l = 0; t = 0; lo = 0; w = 0 } ≡ pass_model (model_choice c.args.keys.now) =
    elim c.match-refusal.branch [
      | in-NotRising w ↦ model_refused _ _ _ c.in-Err.ensures (λ p q. let same : p ≡ w.in-NotRising.place = cc in omega (arith, same, w.result-is)) (λ no. absurd (no _ w.in-NotRising.is))
      | in_default w ↦ model_refused _ _ _ c.in-Err.ensures (λ p q. absurd (w.in_default.not-NotRising p q)) (λ no. w.result-is)
    ]
    in
    in_fields _ _ _ _ _ _ _ _ e (omega arith) (cc) (cc) (cc) (cc)
