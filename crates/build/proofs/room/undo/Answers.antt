-- `room::undo` meets its contract. The loop's invariant: undoing the words that are left is undoing them all. Every word's places
-- lie in the map, since no store changes its length. Assumes nothing.
use mathlib.Core.Path.{sym, ◌∙◌}
use native.Mathlib.Omega.{arith}
use Rattle.build.proofs.Undoing.{undo-step, undo-end}
use Rattle.build.proofs.room.undo.Goals as goal

pub loop-i-preserved : goal.loop-i-preserved
loop-i-preserved c = rw (c.clear.ensures, c.clear_run.ensures) (undo-step _ _ c.loop-i.i _ (omega arith) ∙ c.loop-i.invariant)

pub returns : goal.returns
returns c = sym (undo-end _ _ _ _ c.loop-i-test.false) ∙ c.loop-i.invariant
