-- `listing::to_listed` meets its contract. The loop's invariant: what is left from here lists what all that was left does, since an
-- element outside u to v adds nothing (proofs/Landings). The measure is how many items are left. Assumes nothing.
use mathlib.Core.Path.{sym, ◌∙◌}
use native.Mathlib.Omega.{arith}
use Rattle.listing.proofs.Landings.{reached_next, one_shorter}
use Rattle.listing.proofs.to_listed.Goals as goal

pub loop-k-smaller : goal.loop-k-smaller
loop-k-smaller c = one_shorter _ _ _ c.loop-k.next _ _ _ _ c.in-Held.is _ _ _ c.next_item-next.ensures

pub loop-k-preserved : goal.loop-k-preserved
loop-k-preserved c = (
  reached_next _ _ _ c.loop-k.next _ _ _ _ c.in-Held.is _ _ _ c.next_item-next.ensures _ _ _ (sym c.inside.ensures ∙ c.if-inside.false) c.loop-k.invariant.0,
  (omega arith, omega arith),
)
