-- `model::slot_choice` meets its contract: a law for each refusal (proofs/Slots), and the leaf's answer. Assumes nothing.
use mathlib.Core.Path.{sym, ◌∙◌}
use native.Mathlib.Omega.{arith}
use Rattle.model.specs.Slots.{slotted}
use Rattle.model.proofs.Slots.{passes_range, choice-key, choice_model, choice-slot}
use Rattle.model.proofs.slot_choice.Goals as goal

pub returns-then-key-ge-BOUND : goal.returns-then-key-ge-BOUND
unfolding slotted
returns-then-key-ge-BOUND c = choice-key _ _ (omega arith)

pub returns-then-not-is_in_range : goal.returns-then-not-is_in_range
unfolding slotted
returns-then-not-is_in_range c =
    choice_model _ _ (omega arith) (sym c.is_in_range.ensures ∙ c.if-not-is_in_range.true)

pub slot_of-requires-clause-in_range : goal.slot_of-requires-clause-in_range
slot_of-requires-clause-in_range c = passes_range _ (sym c.is_in_range.ensures ∙ c.if-not-is_in_range.false)

pub returns : goal.returns
unfolding slotted
returns c =
    choice-slot _ _ _ (omega arith) (passes_range _ (sym c.is_in_range.ensures ∙ c.if-not-is_in_range.false)) c.slot_of.ensures.0
