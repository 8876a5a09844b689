-- `walk::reading::Reading::next` meets its contract. The loop goes up from node to node; its invariant: what is left from here is what was
-- left where the step began (proofs/Readings). The measure is the depth. Assumes nothing.
use mathlib.Core.Path.{◌≡◌}
use lib.ListN.{length}
use Rattle.pool.specs.Pools.{memory_of}
use Rattle.walk.specs.Cursors.{remains}
use Rattle.walk.specs.Moves.{below, Standing}
use Rattle.walk.proofs.reading.Reading.next.Given as goal

abbrev pub invariant-loop-n : goal.invariant-loop-n
invariant-loop-n l =
    Standing l.self.span (memory_of l.self.pools) l.self.above l.c × (((length l.records ≡ length l.initial.records) × (length l.places ≡ length l.initial.places))
    × (remains l.self.span (memory_of l.self.pools) (below l.self.above l.c) l.c l.records l.places ≡ remains l.self.span (memory_of l.self.pools) (below l.self.above l.initial.c) l.initial.c l.initial.records l.initial.places))

abbrev pub decreases-loop-n : goal.decreases-loop-n
decreases-loop-n l = l.c.depth
