-- `insert::hang` meets its contract. Assumes nothing.
use native.Mathlib.Omega.{arith}
use Rattle.insert.proofs.Leaves.{hung-root, hung-slot}
use Rattle.insert.proofs.hang.Goals as goal

pub returns-then-at-lt1 : goal.returns-then-at-lt1
returns-then-at-lt1 c = hung-root _ _ _ _ c.if-at-lt1.true

pub put_child-requires : goal.put_child-requires
put_child-requires c = record { q_in_bounds = omega (arith, c.requires.0 c.if-at-lt1.false); child_lt_kind_unit = c.requires.1 }

pub returns : goal.returns
returns c = hung-slot _ _ _ _ _ c.if-at-lt1.false c.put_child.ensures
