-- `walk::reading::Reading::next` meets its contract. The loop goes up from node to node; its invariant: what is left from here is what was
-- left where the step began (proofs/Readings). The measure is the depth. Assumes nothing.
use mathlib.Core.Path.{refl, sym, ◌∙◌}
use native.Mathlib.Omega.{arith}
use Rattle.pool.proofs.Nodes.{good-node}
use Rattle.walk.proofs.Readings.{slots-inside, moves_from, skipped, goes_up, meets_end, meets_broken-above}
use Rattle.walk.proofs.reading.Reading.next.Goals as goal

pub loop-n-init : goal.loop-n-init
loop-n-init c = (c.requires.standing, ((refl, refl), refl))

pub skip_null-at-requires : goal.skip_null-at-requires
skip_null-at-requires c = slots-inside _ _ _ _ c.loop-n.invariant.0

pub meet-requires : goal.meet-requires
meet-requires c =
    let p = c.requires in
    let l = c.loop-n.invariant in
    record { span_fits = p.span_fits; standing = record { reads = l.0.reads; ends = l.0.ends; deep = l.0.deep }; at_lt_end = c.if-at-end.true; kind_unit_bound = c.skip_null-at.ensures.stops c.if-at-end.true; longest_path_in_bounds = (omega (arith, l, p.longest_path_in_bounds), omega (arith, l, p.longest_path_in_bounds)) }

pub returns-then-at-end : goal.returns-then-at-end
returns-then-at-end c =
    moves_from (skipped _ _ _ c.loop-n.c _ _ c.skip_null-at.result c.skip_null-at.ensures ∙ c.loop-n.invariant.1.1) c.meet.ensures

pub returns-then-c-lt1 : goal.returns-then-c-lt1
returns-then-c-lt1 c =
    moves_from (skipped _ _ _ c.loop-n.c _ _ c.skip_null-at.result c.skip_null-at.ensures ∙ c.loop-n.invariant.1.1) (meets_end _ _ _ _ _ _ c.if-at-end.false c.if-c-lt1.true _)

pub bounds-records-depth : goal.bounds-records-depth
bounds-records-depth c = omega (arith, c.loop-n.invariant, c.requires.longest_path_in_bounds)

pub past_last-end-requires : goal.past_last-end-requires
past_last-end-requires c =
    let g = good-node _ _ _ (sym c.in-Ok.ensures) in
    record { in_range = g.range; span_fits = c.requires.span_fits }

pub bounds-places-depth : goal.bounds-places-depth
bounds-places-depth c = omega (arith, c.loop-n.invariant, c.requires.longest_path_in_bounds)

pub loop-n-preserved : goal.loop-n-preserved
loop-n-preserved c =
    let l = c.loop-n in
    let e = sym c.in-Ok.ensures in
    let q = c.past_last-end.ensures in (
      record { reads = e; ends = q; deep = omega (arith, l.invariant.0.deep) },
      (l.invariant.1.0, goes_up _ _ _ _ _ _ c.if-at-end.false l.invariant.0.deep c.if-c-lt1.false _ refl _ _ e q ∙ skipped _ _ _ l.c _ _ c.skip_null-at.result c.skip_null-at.ensures ∙ l.invariant.1.1),
    )

pub returns-in-Err : goal.returns-in-Err
returns-in-Err c =
    let e = sym c.in-Err.ensures in
    moves_from (skipped _ _ _ c.loop-n.c _ _ c.skip_null-at.result c.skip_null-at.ensures ∙ c.loop-n.invariant.1.1) (meets_broken-above _ _ _ _ _ _ c.if-at-end.false c.loop-n.invariant.0.deep c.if-c-lt1.false _ refl _ _ e)
