-- `pool::Pools::slot_at` meets its contract: each way out is what the slot's word says by its kind (proofs/Slots). Assumes nothing.
use mathlib.Core.Path.{sym, ◌∙◌}
use Rattle.pool.specs.Reading.{slot_at}
use Rattle.pool.proofs.Slots.{says-null, says-data, says_misplaced, says-child, says-unknown}
use Rattle.pool.proofs.Pools.slot_at.Goals as goal

pub returns-then-kind-eq-NULL : goal.returns-then-kind-eq-NULL
unfolding slot_at
returns-then-kind-eq-NULL c = sym (says-null _ _ _ c.if-kind-eq-NULL.true)

pub returns-then-slot_of-j : goal.returns-then-slot_of-j
unfolding slot_at
returns-then-slot_of-j c = sym (says-data _ _ _ c.if-kind-eq-DATA.true (sym c.slot_of.ensures.0 ∙ c.if-slot_of-j.true))

pub returns-then-kind-eq-DATA : goal.returns-then-kind-eq-DATA
unfolding slot_at
returns-then-kind-eq-DATA c = sym (says_misplaced _ _ _ c.if-kind-eq-DATA.true (λ e. c.if-slot_of-j.false (c.slot_of.ensures.0 ∙ e)))

pub returns-then-kind-eq-NODE : goal.returns-then-kind-eq-NODE
unfolding slot_at
returns-then-kind-eq-NODE c = sym (says-child _ _ _ c.if-kind-eq-NODE.true)

pub returns : goal.returns
unfolding slot_at
returns c = sym (says-unknown _ _ _ c.if-kind-eq-NULL.false c.if-kind-eq-DATA.false c.if-kind-eq-NODE.false)
