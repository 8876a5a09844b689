-- `model::keys::model_of` meets its contract. The loop tries 1, 2, .. and stays at or before the T of the definition, which exists
-- (proofs/Least): that is why it finds one. Assumes nothing.
use native.Mathlib.Omega.{arith}
use Rattle.model.specs.Choice.{empty_model}
use Rattle.model.proofs.Least.{t-least, try_within, try_in_range, try_passes, try_fails, few-choice, empty-choice}
use Rattle.model.proofs.keys.model_of.Goals as goal
use Rattle.model.proofs.keys.model_of.Goals.{else-loop-t-test, then-loop-t-test+else-is_spread+else-t-t-end}

pub returns-then-n-lt1 : goal.returns-then-n-lt1
unfolding empty_model
returns-then-n-lt1 g c = empty-choice _ _ (omega arith) c.new.ensures

pub returns-then-n-lt3 : goal.returns-then-n-lt3
returns-then-n-lt3 g c = few-choice _ _ (omega arith) (omega arith) c.model_at.ensures

pub loop-t-init : goal.loop-t-init
loop-t-init g c = (t-least _ c.requires.rising (omega arith)).positive

pub is_spread-requires-clause-in_range : goal.is_spread-requires-clause-in_range
is_spread-requires-clause-in_range g c =
    try_in_range _ c.requires.rising (omega arith) _ (omega arith) (omega arith) _ c.model_at-m.ensures

pub returns-then-is_spread : goal.returns-then-is_spread
returns-then-is_spread g c =
    try_passes _ c.requires.rising (omega arith) _ (omega arith) (omega arith) _ c.model_at-m.ensures _ c.is_spread.ensures c.if-is_spread.true

pub loop-t-preserved : goal.loop-t-preserved
loop-t-preserved g c =
    omega (arith, try_fails _ c.requires.rising (omega arith) _ (omega arith) (omega arith) _ c.model_at-m.ensures _ c.is_spread.ensures c.if-is_spread.false)

pub unreachable-requires : goal.unreachable-requires
unreachable-requires g c =
    let rising = c.requires.rising in
    let last = (t-least _ rising (omega arith)).within in
    elim c.loop-t-test.branch [
      | else-loop-t-test w ↦ omega (arith, try_within _ rising (omega arith) _ c.loop-t.auto.t c.loop-t.invariant)
      | then-loop-t-test+else-is_spread+else-t-t-end w ↦
          omega (arith, last, try_fails _ rising (omega arith) _ (omega arith) (omega arith) _ w.model_at-m.ensures _ w.is_spread.ensures w.if-is_spread.false)
    ]
