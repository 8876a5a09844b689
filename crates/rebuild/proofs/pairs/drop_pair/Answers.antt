-- `pairs::drop_pair` meets its contract. Assumes nothing.
use Rattle.rebuild.proofs.Conflicts.{pair_stays, pair_goes}
use Rattle.rebuild.proofs.pairs.drop_pair.Goals as goal

pub returns-then-not-conflict : goal.returns-then-not-conflict
returns-then-not-conflict c = pair_stays _ _ _ c.if-not-conflict.true

pub returns : goal.returns
returns c = pair_goes _ _ _ _ c.if-not-conflict.false c.release.ensures
