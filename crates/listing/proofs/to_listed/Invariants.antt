-- `listing::to_listed` meets its contract. The loop's invariant: what is left from here lists what all that was left does, since an
-- element outside u to v adds nothing (proofs/Landings). The measure is how many items are left. Assumes nothing.
use mathlib.Core.Path.{◌≡◌}
use lib.ListN.{length}
use Rattle.pool.specs.Pools.{memory_of}
use Rattle.listing.specs.Listing.{left}
use Rattle.listing.proofs.Landings.{Reached}
use Rattle.listing.proofs.to_listed.Given as goal

abbrev pub invariant-loop-k : goal.invariant-loop-k
invariant-loop-k l =
    Reached l.reading.span (memory_of l.reading.pools) l.reading.above l.u l.v (left l.reading.span (memory_of l.reading.pools) l.reading.above l.initial.next l.initial.records l.initial.places) l.next l.records l.places
    × ((length l.records ≡ length l.initial.records) × (length l.places ≡ length l.initial.places))

abbrev pub decreases-loop-k : goal.decreases-loop-k
decreases-loop-k l = length (left l.reading.span (memory_of l.reading.pools) l.reading.above l.next l.records l.places)
