-- `marks::is_full_run` meets its contract: at each turn, whether the places that are left are used decides whether all are.
-- Assumes nothing.
use mathlib.Core.Path.{◌≡◌}
use Prim.Native.Nat.{◌+◌, ◌-◌, ◌≤◌}
use Rattle.marks.specs.Used.{full_run}
use Rattle.marks.proofs.is_full_run.Given as goal

abbrev pub invariant-loop-q : goal.invariant-loop-q
invariant-loop-q l =
    (l.end ≡ l.p + l.n) × (l.q ≤ l.end) × (full_run l.used l.q (l.end - l.q) ≡ full_run l.used l.p l.n)

abbrev pub decreases-loop-q : goal.decreases-loop-q
decreases-loop-q l = l.end - l.q
