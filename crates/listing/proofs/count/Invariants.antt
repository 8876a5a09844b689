-- `listing::count` meets its contract. The loop's invariant: with what is left the count is that of all (proofs/Counts).
-- The measure is how many items are left. Assumes nothing.
use mathlib.Core.Path.{◌≡◌}
use lib.ListN.{length}
use Rattle.pool.specs.Pools.{memory_of}
use Rattle.listing.specs.Listing.{listing, left, count_from}
use Rattle.listing.proofs.Counts.{Counting}
use Rattle.walk.specs.Walks.{longest_path}
use Rattle.listing.proofs.count.Given as goal

abbrev pub invariant-loop-slot : goal.invariant-loop-slot
invariant-loop-slot l =
    Counting l.reading.span (memory_of l.reading.pools) l.reading.above l.u l.v l.room (count_from 0 (listing l.u l.v l.room (left l.reading.span (memory_of l.reading.pools) l.reading.above l.initial.next l.initial.records l.initial.places))) l.n l.next l.records l.places
    × ((length l.records ≡ longest_path) × (length l.places ≡ longest_path))

abbrev pub decreases-loop-slot : goal.decreases-loop-slot
decreases-loop-slot l = length (left l.reading.span (memory_of l.reading.pools) l.reading.above l.next l.records l.places)
