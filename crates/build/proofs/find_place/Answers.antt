-- `build::find_place` meets its contract: the record is the lowest unused, and the run the lowest that fits. What the two
-- searches require follows from the hint, and what they find is `place_for`. Assumes nothing.
use mathlib.Core.Path.{sym, ◌∙◌}
use native.Mathlib.Omega.{arith}
use Rattle.marks.proofs.Lowest.{first_unused_at}
use Rattle.pool.specs.Memory.{mem}
use Rattle.build.proofs.Places.{no_record, no_slot, no_run, run_here}
use Rattle.build.proofs.find_place.Goals as goal

pub returns-in_err-record : goal.returns-in_err-record
returns-in_err-record c = c.from_residual.ensures ∙ no_record (mem c.args.nodes.now c.args.slots.now c.args.used.now) c.args.m c.in_err-record.ensures

pub returns-in_err-first : goal.returns-in_err-first
returns-in_err-first c =
    c.from_residual-in_err-first.ensures ∙ no_slot (mem c.args.nodes.now c.args.slots.now c.args.used.now) c.args.m c.in_ok-record.ensures.0 (omega (arith, c.requires.in_range)) c.in_err-first.ensures

pub lowest_run-requires : goal.lowest_run-requires
lowest_run-requires c =
    let first = first_unused_at c.args.used.now _ _ c.in_ok-first.first (sym c.in_ok-first.ensures.1) in
    (omega (arith, c.requires.sized), omega (arith, c.requires.sized), (omega (arith, c.requires.in_range)), first.0, first.1)

pub returns-in_err-start : goal.returns-in_err-start
returns-in_err-start c = c.from_residual-in_err-start.ensures ∙ no_run (mem c.args.nodes.now c.args.slots.now c.args.used.now) c.args.m c.in_ok-record.ensures.0 c.in_err-start.ensures

pub returns : goal.returns
returns c =
    run_here (mem c.args.nodes.now c.args.slots.now c.args.used.now) c.args.m c.in_ok-record.ensures.0 _ _ _ c.in_ok-record.ensures.1 c.in_ok-first.ensures.1 c.in_ok-start.ensures
