-- `walk::follow` meets its contract. The loop's invariant: what is left to follow from here is the whole walk. Assumes nothing.
use native.Mathlib.Omega.{arith}
use Rattle.walk.proofs.Walks.{follow-start, follow_down, follow_stop, follow_spent}
use Rattle.walk.proofs.follow.Goals as goal

pub loop-visits-init : goal.loop-visits-init
loop-visits-init c = (omega arith, follow-start _ _ _)

pub step_at-requires : goal.step_at-requires
step_at-requires c = c.requires

pub loop-visits-preserved : goal.loop-visits-preserved
loop-visits-preserved c =
    (omega arith, follow_down _ _ _ _ _ c.loop-visits.invariant.1 _ (omega arith) (c.in-Down.ensures))

pub returns-in-Stop : goal.returns-in-Stop
returns-in-Stop c =
    follow_stop _ _ _ _ _ c.loop-visits.invariant.1 _ (omega arith) (c.in-Stop.ensures)

pub returns : goal.returns
returns c =
    follow_spent _ _ _ _ _ c.loop-visits.invariant.1 (omega arith)
