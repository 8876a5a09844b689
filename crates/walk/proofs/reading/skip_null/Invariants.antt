-- `walk::reading::skip_null` meets its contract. The loop's invariant: the slots from here on add what all of them do, since NULL
-- slots add nothing (proofs/Readings). Assumes nothing.
use Prim.Native.Nat.{◌-◌}
use Rattle.walk.proofs.Readings.{SameTo}
use Rattle.walk.proofs.reading.skip_null.Given as goal

abbrev pub invariant-loop-j : goal.invariant-loop-j
invariant-loop-j l = SameTo l.slots l.start l.at l.end l.j

abbrev pub decreases-loop-j : goal.decreases-loop-j
decreases-loop-j l = l.end - l.j
