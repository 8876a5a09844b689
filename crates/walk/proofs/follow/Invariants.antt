-- `walk::follow` meets its contract. The loop's invariant: what is left to follow from here is the whole walk. Assumes nothing.
use mathlib.Core.Path.{◌≡◌}
use Prim.Native.Nat.{◌-◌, ◌≤◌}
use Rattle.pool.specs.Pools.{memory_of}
use Rattle.walk.specs.Walks.{longest_path, follow_of}
use Rattle.walk.proofs.Walks.{follow_from}
use Rattle.walk.proofs.follow.Given as goal

abbrev pub invariant-loop-visits : goal.invariant-loop-visits
invariant-loop-visits l =
    (l.visits ≤ longest_path) × (follow_from (memory_of l.pools) l.key (longest_path - l.visits) l.r l.visits ≡ follow_of (memory_of l.pools) l.root l.key)

abbrev pub decreases-loop-visits : goal.decreases-loop-visits
decreases-loop-visits l = longest_path - l.visits
