-- `insert::sound_due` meets its contract: no subtree, or its reading. Assumes nothing.
use Rattle.insert.proofs.Leaves.{due_none, due_sound}
use Rattle.insert.proofs.sound_due.Goals as goal

pub returns-then-path-at : goal.returns-then-path-at
returns-then-path-at c = due_none _ c.requires.sized _ _ _ _ c.if-path-at.true

pub returns : goal.returns
returns c = due_sound _ c.requires.sized _ _ _ _ _ c.if-path-at.false c.is_sound.ensures
