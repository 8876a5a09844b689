-- `store::empty_pools` meets its contract. Assumes nothing.
use Rattle.store.specs.Loading.{emptied}
use Rattle.store.proofs.empty_pools.Goals as goal

pub returns : goal.returns
unfolding emptied
returns c = rw (c.zero_all-3.ensures, c.zero_all-2.ensures, c.zero_all.ensures)
