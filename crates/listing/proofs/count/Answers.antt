-- `listing::count` meets its contract. The loop's invariant: with what is left the count is that of all (proofs/Counts).
-- The measure is how many items are left. Assumes nothing.
use mathlib.Core.Path.{◌≡◌, ap, ◌∙◌}
use native.Mathlib.Omega.{arith}
use Rattle.listing.specs.Listing.{count_from}
use Rattle.listing.proofs.Counts.{counting_full, counting_next, counting_less, counting_broken, counting_end}
use Rattle.walk.specs.declared.Item.TheVariants.{Broken, End}
use Rattle.listing.proofs.count.Goals as goal

pub returns-then-room-n : goal.returns-then-room-n
returns-then-room-n c =
    rw c.first.ensures (counting_full _ _ _ _ _ _ _ _ _ _ _ c.loop-slot.invariant.0 _ _ c.in-Held.is c.if-room-n.true ∙ ap (count_from 0) (c.first_listed-next.ensures.lists _))

pub loop-slot-smaller : goal.loop-slot-smaller
loop-slot-smaller c = counting_less _ _ _ _ _ _ _ _ c.loop-slot.next _ _ c.loop-slot.invariant.0 _ _ c.in-Held.is _ _ _ c.next_listed-next.ensures

pub loop-slot-preserved : goal.loop-slot-preserved
loop-slot-preserved c =
    (counting_next _ _ _ _ _ _ _ _ c.loop-slot.next _ _ c.loop-slot.invariant.0 _ _ c.in-Held.is c.if-room-n.false _ _ _ c.next_listed-next.ensures, (omega arith, omega arith))

pub returns-in-Broken : goal.returns-in-Broken
returns-in-Broken c =
    let e : c.loop-slot.next.item ≡ Broken = cc in
    counting_broken _ _ _ _ _ _ _ _ _ _ _ c.loop-slot.invariant.0 e ∙ ap (count_from 0) (c.first_listed-next.ensures.lists _)

pub returns-in-End : goal.returns-in-End
returns-in-End c =
    let e : c.loop-slot.next.item ≡ End = cc in
    let told = counting_end _ _ _ _ _ _ _ _ _ _ _ c.loop-slot.invariant.0 e ∙ ap (count_from 0) (c.first_listed-next.ensures.lists _) in
    cc
