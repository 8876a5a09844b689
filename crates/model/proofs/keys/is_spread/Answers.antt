-- `model::keys::is_spread` meets its contract. The loop's invariant: the table has the counts of the keys passed, none above t.
-- Assumes nothing.
use mathlib.Core.Path.{ap, ◌∙◌}
use native.Mathlib.Omega.{arith}
use Rattle.model.proofs.Counts.{counted_none, counted_more, counted_full, counted_all}
use Rattle.model.specs.Slots.{slot_of}
use Rattle.model.proofs.keys.is_spread.Goals as goal

pub loop-i-init : goal.loop-i-init
loop-i-init g c = counted_none _ _ _

pub slot_of-s-requires : goal.slot_of-s-requires
slot_of-s-requires g c = record {
  in_range = c.requires.in_range;
  x_lt_value_bound = omega (arith, c.at.ensures, c.requires.rising.below c.loop-i.i (omega arith));
}

pub returns-then-t-c : goal.returns-then-t-c
returns-then-t-c g c =
    let e = c.slot_of-s.ensures.0 ∙ ap (slot_of c.args.m) c.at.ensures in
    counted_full _ _ _ c.loop-i.i _ c.loop-i.invariant c.slot_of-s.result (omega arith) e (omega arith) c.slot_of-s.ensures.1 (omega arith)

pub loop-i-preserved : goal.loop-i-preserved
loop-i-preserved g c =
    let e = c.slot_of-s.ensures.0 ∙ ap (slot_of c.args.m) c.at.ensures in
    counted_more _ _ _ c.loop-i.i _ c.loop-i.invariant c.slot_of-s.result (omega arith) e (omega arith) (omega arith)

pub returns : goal.returns
returns g c = counted_all _ _ _ _ _ c.loop-i.invariant (omega arith) c.requires.in_range.most
