-- `store::lookup` meets its contract: what it makes of the search (proofs/Searching). Assumes nothing.
use mathlib.Core.Path.{sym, ◌∙◌}
use Rattle.std.proofs.lemmas.Result.{err_from_is_err_and}
use native.Mathlib.Omega.{arith}
use Rattle.store.specs.Calls.{looked}
use Rattle.store.proofs.Searching.{lookup_by, search_within}
use Rattle.store.proofs.lookup.Goals as goal

pub returns : goal.returns
unfolding looked
returns c = lookup_by _ _ _ _ (sym c.in_ok-held.was ∙ c.find.ensures)

pub returns-in_err-held : goal.returns-in_err-held
unfolding looked
returns-in_err-held c =
    let p = err_from_is_err_and c.from_residual.result c.from_residual.ensures.1 in
    rw (p.1, p.2) (lookup_by _ _ _ _ (sym c.in_err-held.was ∙ c.find.ensures))

pub overflow_mul-result : goal.overflow_mul-result
overflow_mul-result c = omega (arith, search_within _ _ _ _ (sym c.find.ensures ∙ c.in_ok-held.was))

pub overflow_add-result : goal.overflow_add-result
overflow_add-result c = omega (arith, search_within _ _ _ _ (sym c.find.ensures ∙ c.in_ok-held.was))

pub offset_bounds-slots-held : goal.offset_bounds-slots-held
offset_bounds-slots-held c = omega (arith, search_within _ _ _ _ (sym c.find.ensures ∙ c.in_ok-held.was))

pub bounds-slots-held : goal.bounds-slots-held
bounds-slots-held c = omega (arith, search_within _ _ _ _ (sym c.find.ensures ∙ c.in_ok-held.was))
