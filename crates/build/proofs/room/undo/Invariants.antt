-- `room::undo` meets its contract. The loop's invariant: undoing the words that are left is undoing them all. Assumes nothing.
use mathlib.Core.Path.{◌≡◌}
use Rattle.build.specs.Undoing.{undone_by}
use Rattle.build.proofs.room.undo.Given as goal

abbrev pub invariant-loop-i : goal.invariant-loop-i
invariant-loop-i l = undone_by l.records l.list l.i l.used ≡ undone_by l.records l.list l.n l.initial.used
