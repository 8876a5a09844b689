-- `walk::reading::Reading::descend` meets its contract, way by way (proofs/Readings). Assumes nothing.
use mathlib.Core.Path.{sym}
use native.Mathlib.Omega.{arith}
use Rattle.pool.proofs.Nodes.{good-node}
use Rattle.walk.proofs.Readings.{meets_broken-child, meets_deep-child, meets_child}
use Rattle.walk.proofs.reading.Reading.descend.Goals as goal

pub returns-then-above-depth-ge-LONGEST : goal.returns-then-above-depth-ge-LONGEST
returns-then-above-depth-ge-LONGEST c =
    meets_deep-child _ _ _ _ _ _ c.requires.standing c.requires.at_lt_end _ c.requires.at_value _ (sym c.in-Ok.ensures) (omega (arith, c.if-above-depth-ge-LONGEST.true))

pub first_in-at-requires : goal.first_in-at-requires
first_in-at-requires c =
    let g = good-node _ _ _ (sym c.in-Ok.ensures) in
    record { in_range = g.range; span_fits = c.requires.span_fits }

pub past_last-end-requires : goal.past_last-end-requires
past_last-end-requires c =
    let g = good-node _ _ _ (sym c.in-Ok.ensures) in
    record { in_range = g.range; span_fits = c.requires.span_fits }

pub bounds-places-depth : goal.bounds-places-depth
bounds-places-depth c = omega (arith, c.requires.longest_path_in_bounds, c.if-above-depth-ge-LONGEST.false)

pub returns-in-Err : goal.returns-in-Err
returns-in-Err c =
    meets_broken-child _ _ _ _ _ _ c.requires.standing c.requires.at_lt_end _ c.requires.at_value _ (sym c.in-Err.ensures)

pub returns-else-above-depth-ge-LONGEST : goal.returns-else-above-depth-ge-LONGEST
returns-else-above-depth-ge-LONGEST c =
    meets_child _ _ _ _ _ _ c.requires.standing c.requires.at_lt_end _ c.requires.at_value _ (sym c.in-Ok.ensures) (omega (arith, c.if-above-depth-ge-LONGEST.false))
    (omega (arith, c.requires.longest_path_in_bounds, c.if-above-depth-ge-LONGEST.false)) (omega (arith, c.requires.longest_path_in_bounds, c.if-above-depth-ge-LONGEST.false)) _ _ c.first_in-at.ensures c.past_last-end.ensures
