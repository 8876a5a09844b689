-- `insert::stand` meets its contract. Assumes nothing.
use Rattle.insert.proofs.Standings.{stands}
use Rattle.insert.proofs.stand.Goals as goal

pub returns : goal.returns
returns c = rw (← c.is_some-conflict.ensures) (stands _ _ _ _ _ _ c.args.entry.path _ _ _ _ _ _ _ _ c.done.ensures c.settle_slot.ensures c.raise.ensures)
