-- `insert::slot_above` meets its contract: the key's slot in the node before, which reads as a good one. Assumes nothing.
use mathlib.Core.Path.{sym}
use native.Mathlib.Omega.{arith}
use Rattle.insert.proofs.Leaves.{above_root, above_not_broken, above-node, above-slot}
use Rattle.insert.proofs.slot_above.Goals as goal

pub returns-then-at-lt1 : goal.returns-then-at-lt1
returns-then-at-lt1 c = above_root _ c.requires.sized.0 _ c.requires.good_path _ _ c.if-at-lt1.true

pub returns-in_default : goal.returns-in_default
returns-in_default c =
    absurd (above_not_broken _ c.requires.sized.0 _ c.requires.good_path 0 _ c.if-at-lt1.false c.requires.sized.1 _ (sym c.in_default.ensures))

pub slot_of-requires : goal.slot_of-requires
slot_of-requires c =
    record { in_range = (above-node _ c.requires.sized.0 _ c.requires.good_path 0 _ c.if-at-lt1.false c.requires.sized.1 _ (sym c.in-Ok.ensures)).range; x_lt_value_bound = c.requires.key_lt_key_bound }

pub overflow_add-result : goal.overflow_add-result
overflow_add-result c =
    let g = above-node _ c.requires.sized.0 _ c.requires.good_path 0 _ c.if-at-lt1.false c.requires.sized.1 _ (sym c.in-Ok.ensures) in
    omega (arith, g.fits, c.slot_of.ensures.1)

pub returns : goal.returns
returns c =
    above-slot _ c.requires.sized.0 _ c.requires.good_path _ _ c.if-at-lt1.false c.requires.sized.1 _ (sym c.in-Ok.ensures) _ c.slot_of.ensures.0
