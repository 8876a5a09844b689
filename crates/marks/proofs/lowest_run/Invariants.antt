-- `marks::lowest_run` meets its contract: at each turn no run starts before the start tried, and got places from it on are
-- unused. Assumes nothing.
use mathlib.Core.Bool.{true, false}
use mathlib.Core.Path.{◌≡◌}
use Prim.Native.Nat.{ℕ, ◌+◌, ◌-◌, ◌<◌, ◌≤◌}
use Rattle.marks.specs.Used.{free_run}
use Rattle.marks.proofs.lowest_run.Given as goal

abbrev pub invariant-loop-start : goal.invariant-loop-start
invariant-loop-start l =
    (l.l ≤ l.n)
    × (l.last + l.l ≡ l.n)
    × (l.start ≤ l.n + 64)
    × (l.got < l.l)
    × (free_run l.used (l.from + l.start) l.got ≡ true)
    × ((j : ℕ) → j < l.start → free_run l.used (l.from + j) l.l ≡ false)

abbrev pub decreases-loop-start : goal.decreases-loop-start
decreases-loop-start l = l.n + 64 - (l.start + l.got)
