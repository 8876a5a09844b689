-- `insert::one_more` meets its contract. Assumes nothing.
use Rattle.insert.proofs.one_more.Goals as goal

pub returns : goal.returns
returns c = rw (c.with_count.ensures, c.with_root.ensures)
