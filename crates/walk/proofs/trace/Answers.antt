-- `walk::trace` meets its contract. The loop's invariant: what is left to follow from here is the whole walk. Assumes nothing.
use mathlib.Core.Path.{sym}
use native.Mathlib.Omega.{arith}
use lib.ListN.{length-set}
use Rattle.pool.proofs.Nodes.{good-node}
use Rattle.walk.proofs.Walks.{step-good, step-broken, push, trace-start, trace_down, trace_stop, trace_spent, empty-len, empty-nodes}
use Rattle.walk.proofs.trace.Goals as goal

pub loop-path-init : goal.loop-path-init
loop-path-init c = (rw (empty-len _ c.new-path.ensures) (omega arith), empty-nodes _ c.new-path.ensures, trace-start _ _ _ _ c.new-path.ensures)

pub returns-in-Err : goal.returns-in-Err
unfolding push
returns-in-Err c =
    trace_stop _ _ _ _ _ c.loop-path.invariant.2 _ (omega arith) (step-broken _ _ _ _ (sym c.in-Err.ensures))

pub step_in-requires : goal.step_in-requires
step_in-requires c =
    let g = good-node _ _ _ (sym c.in-Ok.ensures) in
    record { key_lt_key_bound = c.requires; in_range = g.range; l_bound = g.fits }

pub loop-path-preserved : goal.loop-path-preserved
unfolding push
loop-path-preserved c =
    let s = step-good _ _ _ _ _ (sym c.in-Ok.ensures) c.in-Down.ensures in
    (omega arith, simp length-set c.loop-path.invariant.1, trace_down _ _ _ _ _ c.loop-path.invariant.2 _ (omega arith) s)

pub returns-in-Stop : goal.returns-in-Stop
unfolding push
returns-in-Stop c =
    let s = step-good _ _ _ _ _ (sym c.in-Ok.ensures) c.in-Stop.ensures in
    trace_stop _ _ _ _ _ c.loop-path.invariant.2 _ (omega arith) s

pub returns : goal.returns
returns c =
    trace_spent _ _ _ _ _ c.loop-path.invariant.2 (omega arith)
