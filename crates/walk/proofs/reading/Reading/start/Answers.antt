-- `walk::reading::Reading::start` meets its contract, way by way (proofs/Readings). Assumes nothing.
use mathlib.Core.Path.{sym}
use Rattle.pool.proofs.Nodes.{good-node}
use Rattle.walk.proofs.Readings.{starts_good, starts_broken}
use Rattle.walk.proofs.reading.Reading.start.Goals as goal

pub first_in-at-requires : goal.first_in-at-requires
first_in-at-requires c =
    let g = good-node _ _ _ (sym c.in-Ok.ensures) in
    record { in_range = g.range; span_fits = c.requires.span_fits }

pub past_last-end-requires : goal.past_last-end-requires
past_last-end-requires c =
    let g = good-node _ _ _ (sym c.in-Ok.ensures) in
    record { in_range = g.range; span_fits = c.requires.span_fits }

pub returns-in-Ok : goal.returns-in-Ok
returns-in-Ok c = λ rs js.
    starts_good _ _ _ _ rs js c.requires.above_lt_longest_path _ _ _ (sym c.in-Ok.ensures) c.first_in-at.ensures c.past_last-end.ensures

pub returns-in-Err : goal.returns-in-Err
returns-in-Err c = λ rs js.
    starts_broken _ _ _ _ rs js c.requires.above_lt_longest_path _ _ (sym c.in-Err.ensures)
