-- `room::place_sizes` meets its contract. The loop's invariant (Undoing, Going): what is left to place is the whole, and undoing the
-- words kept so far gives back the map of the start. Assumes nothing.
use Rattle.build.proofs.Undoing.{Going}
use Rattle.build.proofs.room.place_sizes.Given as goal

abbrev pub invariant-loop-i : goal.invariant-loop-i
invariant-loop-i l = Going l.records l.count l.n l.initial.list l.initial.used l.list l.used l.i l.r l.s
