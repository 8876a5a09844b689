-- `model::slot_of` meets its contract: each way out is a case of the slot formula (proofs/Slots). Assumes nothing.
use mathlib.Core.Path.{sym}
use native.Mathlib.Omega.{arith}
use Rattle.model.proofs.Slots.{scaled_fits64, share_fits64, slot-first, slot_last, slot-within, slot_under}
use borrow.Author.Rules.{rules}
use Rattle.model.proofs.slot_of.Goals as goal

pub returns-then-x-m : goal.returns-then-x-m
returns-then-x-m c =
    (sym (slot-first c.args.m c.args.x c.if-x-m.true), search rules)

pub returns-then-m-x : goal.returns-then-m-x
returns-then-m-x c =
    (sym (slot_last c.args.m c.args.x (omega arith) (omega arith)), omega arith)

pub overflow_mul-result : goal.overflow_mul-result
overflow_mul-result c = record { fits = scaled_fits64 _ _ (omega arith) (omega arith) }

pub overflow_add-result : goal.overflow_add-result
overflow_add-result c = record { fits = share_fits64 _ _ _ (omega arith) (omega arith) }

pub returns : goal.returns
returns c =
    let e = slot-within c.args.m c.args.x (omega arith) (omega arith) in
    (sym e, omega (arith, e, slot_under c.args.m c.requires.in_range c.args.x))
