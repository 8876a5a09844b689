-- `marks::set_run` meets its contract: at each turn, setting the places that are left is setting them all. Assumes nothing.
use mathlib.Core.Bool.{not}
use mathlib.Core.Path.{◌≡◌}
use Prim.Native.Nat.{◌-◌, ◌≤◌}
use lib.Dec.{eqb}
use Rattle.marks.specs.Used.{set_run}
use Rattle.marks.proofs.Marks.{Words}
use Rattle.marks.proofs.set_run.Given as goal

abbrev pub invariant-loop-q : goal.invariant-loop-q
invariant-loop-q g l =
    let b = not (eqb g.row.USED 0) in
    (l.q ≤ l.end) × (set_run b l.used l.q (l.end - l.q) ≡ set_run b l.initial.used l.p l.n) × Words l.used

abbrev pub decreases-loop-q : goal.decreases-loop-q
decreases-loop-q g l = l.end - l.q
