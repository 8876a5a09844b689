-- `listing::write` meets its contract. The loop's invariant: with what is left written from here the output is whole
-- (proofs/Writes). Assumes nothing.
use mathlib.Core.Path.{◌≡◌}
use Prim.Native.Nat.{◌-◌}
use lib.ListN.{length}
use Rattle.pool.specs.Pools.{memory_of}
use Rattle.listing.specs.Listing.{listing, left}
use Rattle.listing.proofs.Writes.{Writing}
use Rattle.walk.specs.Walks.{longest_path}
use Rattle.listing.proofs.write.Given as goal

abbrev pub invariant-loop-n : goal.invariant-loop-n
invariant-loop-n l =
    Writing l.reading.span (memory_of l.reading.pools) l.reading.above l.u l.v l.at l.count (listing l.u l.v l.count (left l.reading.span (memory_of l.reading.pools) l.reading.above l.initial.next l.initial.records l.initial.places))
    l.initial.keys l.initial.payloads l.n l.next l.records l.places l.keys l.payloads
    × (((length l.records ≡ longest_path) × (length l.places ≡ longest_path)) × ((length l.keys ≡ length l.initial.keys) × (length l.payloads ≡ length l.initial.payloads)))

abbrev pub decreases-loop-n : goal.decreases-loop-n
decreases-loop-n l = l.end - l.n
