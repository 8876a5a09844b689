-- `store::replace` meets its contract: what it makes of the search (proofs/Searching). Assumes nothing.
use mathlib.Core.Path.{sym}
use native.Mathlib.Omega.{arith}
use Rattle.store.specs.Calls.{changed}
use Rattle.store.proofs.Searching.{replace_by, search_within}
use Rattle.store.proofs.replace.Goals as goal

pub overflow_mul-slots : goal.overflow_mul-slots
overflow_mul-slots c = omega (arith, search_within _ _ _ _ (sym c.in-Ok.ensures))

pub overflow_add-slots : goal.overflow_add-slots
overflow_add-slots c = omega (arith, search_within _ _ _ _ (sym c.in-Ok.ensures))

pub offset_bounds-slots-held : goal.offset_bounds-slots-held
offset_bounds-slots-held c = omega (arith, search_within _ _ _ _ (sym c.in-Ok.ensures))

pub bounds-slots-held : goal.bounds-slots-held
bounds-slots-held c = omega (arith, search_within _ _ _ _ (sym c.in-Ok.ensures))

pub returns-in-Ok : goal.returns-in-Ok
unfolding changed
returns-in-Ok c = rw c.new.ensures (replace_by _ _ _ _ (c.in-Ok.ensures) _)

pub returns-in-Err : goal.returns-in-Err
unfolding changed
returns-in-Err c = rw c.new-in-Err.ensures (replace_by _ _ _ _ (c.in-Err.ensures) _)
