-- `rebuild::build_in_place` meets its contract: the counted sizes are judged, and the build and the release are the definition's
-- (proofs/Judging). Assumes nothing.
use Rattle.rebuild.proofs.Judging.{asked, depth_small, judges_no_room, judges_too_deep, judges_built, left-sized, built-sized, hinted_first}
use native.Mathlib.Omega.{arith}
use Rattle.rebuild.proofs.build_in_place.Goals as goal

pub has_room-requires : goal.has_room-requires
has_room-requires c = asked 0 0 _ _ _ _ c.requires.judgeable _ _ c.sizes-needs.ensures

pub returns-then-not-has_room : goal.returns-then-not-has_room
returns-then-not-has_room c = judges_no_room _ _ _ _ _ _ c.requires.judgeable _ _ c.sizes-needs.ensures _ _ _ c.has_room.ensures c.if-not-has_room.true

pub overflow_add-above : goal.overflow_add-above
overflow_add-above c = omega (arith, c.requires.above_le_longest_path, depth_small 0 0 _ _ _ _ c.requires.judgeable _ _ c.sizes-needs.ensures)

pub returns-then-above-needs-gt-LONGEST : goal.returns-then-above-needs-gt-LONGEST
returns-then-above-needs-gt-LONGEST c = judges_too_deep _ _ _ _ _ _ c.requires.judgeable _ _ c.sizes-needs.ensures _ _ _ c.has_room.ensures (omega (arith, c.if-above-needs-gt-LONGEST.true))

pub build_node-g-requires : goal.build_node-g-requires
build_node-g-requires c =
    let j = c.requires.judgeable in
    record { rising = j.rising; payloads_len = j.same; keys_len_bound = j.few; sized = left-sized 0 0 _ _ _ _ j _ _ c.sizes-needs.ensures _ c.has_room.ensures.used; hinted = hinted_first _ }

pub release-requires : goal.release-requires
release-requires c =
    let j = c.requires.judgeable in
    built-sized 0 0 _ _ _ _ j _ _ _ (left-sized 0 0 _ _ _ _ j _ _ c.sizes-needs.ensures _ c.has_room.ensures.used) c.build_node-g.ensures.is

pub returns : goal.returns
returns c =
    judges_built _ _ _ _ _ _ c.requires.judgeable _ _ c.sizes-needs.ensures _ _ _ c.has_room.ensures c.requires.sound c.if-not-has_room.false (omega (arith, c.if-above-needs-gt-LONGEST.false)) _ _ _ c.build_node-g.ensures.is c.release.ensures
