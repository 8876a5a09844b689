-- `room::has_room` meets its contract: what the placing leaves, its marks undone and its list wiped, is the judgement (Undoing,
-- judged). Assumes nothing.
use Rattle.build.proofs.Undoing.{judged}
use Rattle.build.proofs.room.has_room.Goals as goal

pub returns : goal.returns
returns c =
    judged _ _ _ _ _ _ _ _ c.place_sizes-placed.ensures c.requires.within _ _ c.undo.ensures c.wipe.ensures
