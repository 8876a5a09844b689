-- `walk::trace` meets its contract. The loop's invariant: what is left to follow from here is the whole walk. Assumes nothing.
use mathlib.Core.Path.{◌≡◌}
use Prim.Native.Nat.{◌-◌, ◌≤◌}
use lib.ListN.{length}
use Rattle.pool.specs.Pools.{memory_of}
use Rattle.walk.specs.Walks.{longest_path, trace_of}
use Rattle.walk.proofs.Walks.{trace_from}
use Rattle.walk.proofs.trace.Given as goal

abbrev pub invariant-loop-path : goal.invariant-loop-path
invariant-loop-path l =
    (l.path.len ≤ longest_path) × (length l.path.nodes ≡ longest_path) × (trace_from (memory_of l.pools) l.key (longest_path - l.path.len) l.r l.path ≡ trace_of (memory_of l.pools) l.root l.key)

abbrev pub decreases-loop-path : goal.decreases-loop-path
decreases-loop-path l = longest_path - l.path.len
