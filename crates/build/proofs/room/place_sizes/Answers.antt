-- `room::place_sizes` meets its contract. The loop's invariant (Undoing, Going): what is left to place is the whole, and undoing the
-- words kept so far gives back the map of the start. Assumes nothing.
use mathlib.Core.Path.{◌≡◌, sym, ◌∙◌}
use native.Mathlib.Omega.{arith}
use Prim.Native.Nat.{◌<◌, ◌≤◌, ◌^◌}
use lib.ListN.{get_or}
use Rattle.build.proofs.Undoing.{marked_nowhere, marked_here, going_start, going_end, going_stuck, going_fits, going_step}
use Rattle.build.proofs.room.place_sizes.Goals as goal
use Rattle.build.proofs.room.place_sizes.Goals.{In-Some}

pub loop-i-init : goal.loop-i-init
loop-i-init c =
    going_start _ _ _ _ _ c.requires (λ i. (c.type_inv.used i).fits)

pub returns-in_default : goal.returns-in_default
returns-in_default c =
    rw (marked_nowhere _ _ _ _ _ c.in_default.is c.place_one.ensures.1)
    (going_stuck _ _ _ _ _ c.requires _ _ _ _ _ c.loop-i.invariant c.loop-i-test.true (sym c.in_default.is ∙ c.place_one.ensures.0))

-- the numbers of the spot found and its size
spot_fits : (c : In-Some) → (c.in-Some.spot.record < 2 ^ 20) × (c.in-Some.spot.start ≤ 2 ^ 20) × (get_or c.loop-i.list c.loop-i.i 0 ≤ 4096)
spot_fits c = going_fits _ _ _ _ _ c.requires _ _ _ _ _ c.loop-i.invariant c.loop-i-test.true _ (sym c.in-Some.is ∙ c.place_one.ensures.0)

pub overflow_mul-list-in-loop-i : goal.overflow_mul-list-in-loop-i
overflow_mul-list-in-loop-i c = omega (arith, spot_fits (goal.at.overflow_mul-list-in-loop-i c).In-Some)

pub overflow_add-list : goal.overflow_add-list
overflow_add-list c = omega (arith, spot_fits (goal.at.overflow_add-list c).In-Some)

pub overflow_add-list-in-loop-i : goal.overflow_add-list-in-loop-i
overflow_add-list-in-loop-i c = omega (arith, spot_fits (goal.at.overflow_add-list-in-loop-i c).In-Some)

pub overflow_add-r : goal.overflow_add-r
overflow_add-r c = omega (arith, spot_fits (goal.at.overflow_add-r c).In-Some)

pub loop-i-preserved : goal.loop-i-preserved
loop-i-preserved c =
    rw (marked_here _ _ _ _ _ _ c.in-Some.is c.place_one.ensures.1)
    (going_step _ _ _ _ _ c.requires _ _ _ _ _ c.loop-i.invariant c.loop-i-test.true _ (sym c.in-Some.is ∙ c.place_one.ensures.0))

pub returns : goal.returns
returns c =
    let e : c.loop-i.i ≡ c.args.n = omega arith in
    rw e at (going_end _ _ _ _ _ c.requires _ _ _ _ _ c.loop-i.invariant c.loop-i-test.false)
