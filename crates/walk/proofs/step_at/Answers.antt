-- `walk::step_at` meets its contract. Assumes nothing.
use mathlib.Core.Path.{sym}
use Rattle.pool.proofs.Nodes.{good-node}
use Rattle.walk.proofs.Walks.{step-good, step-broken}
use Rattle.walk.proofs.step_at.Goals as goal

pub step_in-requires : goal.step_in-requires
step_in-requires c =
    let g = good-node _ _ _ (sym c.in-Ok.ensures) in
    record { key_lt_key_bound = c.requires; in_range = g.range; l_bound = g.fits }

pub returns-in-Ok : goal.returns-in-Ok
returns-in-Ok c =
    step-good _ _ _ _ _ (sym c.in-Ok.ensures) c.step_in.ensures

pub returns-in-Err : goal.returns-in-Err
returns-in-Err c =
    step-broken _ _ _ _ (sym c.in-Err.ensures)
