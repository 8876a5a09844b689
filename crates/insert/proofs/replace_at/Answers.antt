-- `insert::replace_at` meets its contract: the two-key node goes, then the slot above and the counters are stored. Assumes nothing.
use native.Mathlib.Omega.{arith}
use Rattle.counters.proofs.Traces.{on_path_stays}
use Rattle.insert.proofs.Standings.{replaced-root, replaced-below}
use Rattle.insert.proofs.replace_at.Goals as goal

pub hang-requires : goal.hang-requires
hang-requires c = (λ e. omega (arith, c.requires.stores.above-slot e, c.drop_pair.auto.slots), c.requires.r_bound)

pub raise-requires : goal.raise-requires
raise-requires c = record { n_le_len = c.requires.stores.within; on_path = on_path_stays _ _ _ (let e = c.drop_pair.auto.nodes in rw e) c.requires.stores.on }

pub returns-then-at-lt1 : goal.returns-then-at-lt1
returns-then-at-lt1 c = rw (← c.is_some-conflict.ensures) (replaced-root _ _ _ _ _ _ c.args.entry.path _ _ _ _ _ _ _ _ _ _ _ c.requires.stores.within c.drop_pair.ensures c.hang.ensures c.raise.ensures c.if-at-lt1.true c.done.ensures)

pub returns : goal.returns
returns c = rw (← c.is_some-conflict.ensures) (replaced-below _ _ _ _ _ _ c.args.entry.path _ _ _ _ _ _ _ _ _ _ _ c.requires.stores.within c.drop_pair.ensures c.hang.ensures c.raise.ensures c.if-at-lt1.false c.done-2.ensures)
