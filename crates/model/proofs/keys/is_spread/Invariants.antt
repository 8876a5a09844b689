-- `model::keys::is_spread` meets its contract. The loop's invariant: the table has the counts of the keys passed, none above t.
-- Assumes nothing.
use Rattle.model.proofs.Counts.{Counted}
use Rattle.model.proofs.keys.is_spread.Given as goal

abbrev pub invariant-loop-i : goal.invariant-loop-i
invariant-loop-i g l = Counted l.m l.t (g.K.Keys.keys l.keys) l.i l.counts
