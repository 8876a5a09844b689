-- `rebuild::rebuild` meets its contract (proofs/Rebuilds). Assumes nothing.
use native.Mathlib.Omega.{arith}
use Rattle.rebuild.proofs.Rebuilds.{within-keys, within-payloads, within-places, gathered_judgeable, judged_sound, rebuild_is}
use Rattle.rebuild.proofs.rebuild.Goals as goal

pub slice_bounds-build_in_place-end : goal.slice_bounds-build_in_place-end
slice_bounds-build_in_place-end c = within-keys _ _ _ _ _ _ _ c.requires _ _ _ c.gather-n.ensures

pub slice_bounds-build_in_place-end-2 : goal.slice_bounds-build_in_place-end-2
slice_bounds-build_in_place-end-2 c = within-payloads _ _ _ _ _ _ _ c.requires _ _ _ c.gather-n.ensures

pub build_in_place-built-requires : goal.build_in_place-built-requires
build_in_place-built-requires c =
    record { judgeable = gathered_judgeable _ _ _ _ _ _ _ c.requires _ _ _ c.gather-n.ensures; above_le_longest_path = omega (arith, c.requires.gather.high); sound = judged_sound _ _ _ _ _ _ c.requires }

pub wipe-requires : goal.wipe-requires
wipe-requires c = omega (arith, within-keys _ _ _ _ _ _ _ c.requires _ _ _ c.gather-n.ensures)

pub wipe-requires-2 : goal.wipe-requires-2
wipe-requires-2 c = omega (arith, within-payloads _ _ _ _ _ _ _ c.requires _ _ _ c.gather-n.ensures)

pub wipe-requires-3 : goal.wipe-requires-3
wipe-requires-3 c = omega (arith, within-places _ _ _ _ _ _ _ c.requires _ _ _ c.gather-n.ensures, c.build_in_place-built.auto.places)

pub returns : goal.returns
returns c = rebuild_is _ _ _ _ _ _ _ c.requires _ _ _ c.gather-n.ensures _ _ _ _ _ _ c.build_in_place-built.ensures c.wipe.ensures c.wipe-2.ensures c.wipe-3.ensures
