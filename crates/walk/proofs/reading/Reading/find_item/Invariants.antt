-- `walk::reading::Reading::find_item` meets its contract. The loop's invariant: the items of what is left from here are those of what was left
-- where it began (proofs/Siftings). The measure is how many nodes may still be entered. Assumes nothing.
use mathlib.Core.Path.{◌≡◌}
use lib.ListN.{length}
use Rattle.pool.specs.Pools.{memory_of}
use Rattle.walk.specs.Cursors.{remains, told}
use Rattle.walk.specs.Items.{items}
use Rattle.walk.specs.Moves.{below, Stands}
use Rattle.walk.proofs.reading.Reading.find_item.Given as goal

abbrev pub invariant-loop-n : goal.invariant-loop-n
invariant-loop-n l =
    Stands l.self.span (memory_of l.self.pools) l.self.above l.moved.event l.moved.cursor × (((length l.records ≡ length l.initial.records) × (length l.places ≡ length l.initial.places))
    × (items (memory_of l.self.pools) l.left (told l.moved.event (remains l.self.span (memory_of l.self.pools) (below l.self.above l.moved.cursor) l.moved.cursor l.records l.places))
    ≡ items (memory_of l.self.pools) l.initial.left (told l.initial.moved.event (remains l.self.span (memory_of l.self.pools) (below l.self.above l.initial.moved.cursor) l.initial.moved.cursor l.initial.records l.initial.places))))

abbrev pub decreases-loop-n : goal.decreases-loop-n
decreases-loop-n l = l.left.nodes
