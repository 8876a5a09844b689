-- `rebuild::is_sound` meets its contract: the count of all live keys says whether a rule is broken (proofs/Gathering). Assumes
-- nothing.
use Rattle.rebuild.proofs.Gathering.{surveyed}
use Rattle.rebuild.proofs.is_sound.Goals as goal

pub returns : goal.returns
returns c =
    let s = surveyed _ _ _ _ _ _ c.rules_of-rules.ensures _ c.count-counted.ensures in
    cc
