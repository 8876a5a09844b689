-- `room::place_one` meets its contract: the record is the lowest unused and the run the lowest that fits, and once both are found
-- they are marked. What the searches require follows from where they may start. Assumes nothing.
use mathlib.Core.Path.{refl, sym}
use native.Mathlib.Omega.{arith}
use Rattle.marks.proofs.Lowest.{first_unused_at, lowest_run_finds}
use Rattle.marks.proofs.Marks.{mark-length}
use Rattle.build.specs.Undoing.{marked_by}
use Rattle.build.proofs.Undoing.{spot_no_record, spot_no_slot, spot_no_run, spot_here}
use Rattle.build.proofs.room.place_one.Goals as goal

pub returns-in_err-record : goal.returns-in_err-record
unfolding marked_by
returns-in_err-record c = let e = c.from_residual.ensures in rw e (spot_no_record _ _ _ _ c.in_err-record.ensures, refl)

pub returns-in_err-first : goal.returns-in_err-first
unfolding marked_by
returns-in_err-first c =
    let e = c.from_residual-in_err-first.ensures in
    rw e (spot_no_slot _ _ _ _ c.in_ok-record.ensures.0 c.requires.le_l c.in_err-first.ensures, refl)

pub lowest_run-requires : goal.lowest_run-requires
lowest_run-requires c =
    let first = first_unused_at c.args.used.now _ _ c.in_ok-first.first (sym c.in_ok-first.ensures.1) in
    (omega (arith, c.requires.mapped), omega (arith, c.requires.mapped), c.requires.le_l, first.0, first.1)

pub returns-in_err-start : goal.returns-in_err-start
unfolding marked_by
returns-in_err-start c =
    let e = c.from_residual-in_err-start.ensures in
    rw e (spot_no_run _ _ _ _ c.in_ok-record.ensures.0 c.in_err-start.ensures, refl)

pub overflow_add-records : goal.overflow_add-records
overflow_add-records c =
    omega (arith, c.requires.mapped, (lowest_run_finds c.args.used.now _ _ _ _ (sym c.in_ok-start.ensures)).0)

pub mark_run-requires : goal.mark_run-requires
mark_run-requires c =
    let run = lowest_run_finds c.args.used.now _ _ _ _ (sym c.in_ok-start.ensures) in
    (rw (c.mark.ensures, mark-length) (omega (arith, c.requires.mapped, run.0)), omega (arith, c.requires.mapped, run.0))

pub returns : goal.returns
unfolding marked_by
returns c =
    (spot_here _ _ _ _ c.in_ok-record.ensures.0 _ _ _ c.in_ok-record.ensures.1 c.in_ok-first.ensures.1 c.in_ok-start.ensures, rw (c.mark_run.ensures, c.mark.ensures))
