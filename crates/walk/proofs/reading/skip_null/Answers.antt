-- `walk::reading::skip_null` meets its contract. The loop's invariant: the slots from here on add what all of them do, since NULL
-- slots add nothing (proofs/Readings). Assumes nothing.
use mathlib.Core.Path.{refl}
use native.Mathlib.Omega.{arith}
use Rattle.walk.proofs.Readings.{skip_one}
use Rattle.walk.proofs.reading.skip_null.Goals as goal

pub loop-j-init : goal.loop-j-init
loop-j-init c = λ deeper m n p q. refl

pub returns-then-slots-start-ge-UNIT : goal.returns-then-slots-start-ge-UNIT
returns-then-slots-start-ge-UNIT c = record { same = c.loop-j.invariant; stops = λ h. omega (arith, c.if-slots-start-ge-UNIT.true) }

pub loop-j-preserved : goal.loop-j-preserved
loop-j-preserved c = skip_one _ _ _ _ _ c.loop-j.invariant (omega arith) (omega arith)

pub returns : goal.returns
returns c = record { same = c.loop-j.invariant; stops = λ h. absurd (omega arith) }
