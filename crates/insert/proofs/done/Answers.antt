-- `insert::done` meets its contract. Assumes nothing.
use Rattle.insert.proofs.done.Goals as goal

pub returns : goal.returns
returns c = rw (c.new.ensures, c.one_more.ensures)
