-- `operations::insert` meets its contract: its answer and the line of that answer (proofs/Answering). Assumes nothing.
use mathlib.Core.List.{[], ◌∷◌}
use mathlib.Core.Path.{ap, ◌∙◌}
use native.Mathlib.Omega.{arith}
use Rattle.laws.proofs.Answers.{converted}
use Rattle.operations.proofs.Answering.{refused-text, done-text}
use Rattle.operations.proofs.Refusing.{inserted-number, inserted-refuses}
use Rattle.insert.specs.Inserting.{Insert, inserted}
use Rattle.operations.proofs.insert.Goals as goal

pub returns-in_default : goal.returns-in_default
returns-in_default c = let a = c.insert-i.result.answer in record { handle_value = ap (λ (x : Insert). x.handle) c.insert-i.ensures; used_after = ap (λ (x : Insert). x.memory) c.insert-i.ensures; places_after = ap (λ (x : Insert). x.scratch) c.insert-i.ensures; at_after = refused-text _ _ 1 _ (inserted a) _ c.line-end.ensures.result_after (c.number_of.ensures ∙ inserted-number a) (inserted-refuses a c.in_default.not-Ok) (ap (λ (x : Insert). x.answer) c.insert-i.ensures); at_bound = (omega (arith, c.line-end.ensures.upper_bound.0), c.line-end.ensures.upper_bound.1) }

pub returns : goal.returns
unfolding inserted
returns c = let a = c.insert-i.result.answer in record { handle_value = ap (λ (x : Insert). x.handle) c.insert-i.ensures; used_after = ap (λ (x : Insert). x.memory) c.insert-i.ensures; places_after = ap (λ (x : Insert). x.scratch) c.insert-i.ensures; at_after = done-text _ _ 1 (_ ∷ _ ∷ []) (inserted a) _ (rw ((c.from.ensures ∙ converted _), c.number-tidying.ensures) at c.line-end-2.ensures.result_after) (ap inserted c.in-Ok.is) (ap (λ (x : Insert). x.answer) c.insert-i.ensures); at_bound = c.line-end-2.ensures.upper_bound }
