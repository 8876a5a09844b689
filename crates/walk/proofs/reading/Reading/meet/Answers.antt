-- `walk::reading::Reading::meet` meets its contract, way by way (proofs/Readings). Assumes nothing.
use Rattle.std.specs.Prelude.{Ok}
use mathlib.Core.Path.{◌≡◌, sym, ◌∙◌}
use native.Mathlib.Omega.{arith}
use Rattle.pool.proofs.Nodes.{good-node}
use Rattle.pool.specs.declared.Slot.TheVariants.{Null}
use Rattle.walk.proofs.Readings.{slot-inside, not_null, meets_element, meets_broken-slot}
use Rattle.walk.proofs.reading.Reading.meet.Goals as goal

pub slot_at-requires : goal.slot_at-requires
slot_at-requires c =
    let g = good-node _ _ _ c.requires.standing.reads in
    record { j_in_bounds = omega (arith, slot-inside _ _ _ _ c.requires.standing c.requires.at_lt_end); in_range = g.range }

pub overflow_add-result : goal.overflow_add-result
overflow_add-result c = omega (arith, slot-inside _ _ _ _ c.requires.standing c.requires.at_lt_end)

pub descend-requires : goal.descend-requires
descend-requires c =
    let p = c.requires in
    record { span_fits = p.span_fits; standing = p.standing; at_lt_end = p.at_lt_end; at_value = sym (rw c.in-Ok-Child.field-0-is at c.in-Ok-Child.ensures); longest_path_in_bounds = p.longest_path_in_bounds }

pub returns-in-Ok-Data : goal.returns-in-Ok-Data
returns-in-Ok-Data c =
    meets_element _ _ _ _ _ _ c.requires.standing c.requires.at_lt_end _ (sym (rw c.in-Ok-Data.field-0-is at c.in-Ok-Data.ensures))

pub returns-in-Err : goal.returns-in-Err
returns-in-Err c =
    meets_broken-slot _ _ _ _ _ _ c.requires.standing c.requires.at_lt_end _ (sym c.in-Err.ensures)

pub returns-in-Ok-Null : goal.returns-in-Ok-Null
returns-in-Ok-Null c =
    let e : (Ok Null) ≡ c.slot_at.result = cc in
    absurd (not_null _ _ _ c.requires.kind_unit_bound (sym c.slot_at.ensures ∙ sym e))
