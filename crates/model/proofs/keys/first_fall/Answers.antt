-- `model::keys::first_fall` meets its contract. The loop's invariant: what is left to search from here is the whole search.
-- Assumes nothing.
use mathlib.Core.Path.{◌≡◌}
use Prim.Native.Nat.{◌+◌, ◌-◌}
use native.Mathlib.Omega.{arith}
use Rattle.laws.proofs.Risings.{falls_none, falls_start, falls_step, falls_here, falls_end}
use Rattle.model.proofs.keys.first_fall.Goals as goal

pub returns-then-n-lt1 : goal.returns-then-n-lt1
returns-then-n-lt1 g c = falls_none _ (omega arith)

pub loop-i-init : goal.loop-i-init
loop-i-init g c = (c.at-before.ensures, falls_start _ _ (omega arith) c.at-before.ensures)

pub returns-then-k-before : goal.returns-then-k-before
returns-then-k-before g c =
    falls_here _ _ _ _ c.loop-i.auto.i (omega arith) c.loop-i.invariant.0 c.at-k.ensures (omega arith) c.loop-i.invariant.1

pub loop-i-preserved : goal.loop-i-preserved
loop-i-preserved g c =
    let e : c.loop-i.i + 1 - 1 ≡ c.loop-i.i = omega arith in
    (rw e c.at-k.ensures, falls_step _ _ _ _ c.loop-i.auto.i (omega arith) c.loop-i.invariant.0 c.at-k.ensures (omega arith) c.loop-i.invariant.1)

pub returns : goal.returns
returns g c =
    let e : c.loop-i.i ≡ c.len-n.result = omega arith in
    rw e at (falls_end _ _ _ (omega arith) c.loop-i.invariant.0 c.loop-i.invariant.1)
