-- `marks::is_full_run` meets its contract: at each turn, whether the places that are left are used decides whether all are.
-- Assumes nothing.
use mathlib.Core.Path.{refl, sym, ◌∙◌}
use native.Mathlib.Omega.{arith}
use borrow.Author.Tests.{leb-true}
use Rattle.marks.proofs.Marks.{used-within}
use Rattle.marks.proofs.Turns.{each_one, full-word_each, full-next, full_not_here, full_not_word, full-end}
use Rattle.marks.proofs.is_full_run.Goals as goal

pub returns-then-not-is_used : goal.returns-then-not-is_used
returns-then-not-is_used c = full_not_here _ _ _ (omega arith) (sym c.is_used.ensures ∙ c.if-not-is_used.true) ∙ c.loop-q.invariant.2

pub returns-then-used-q : goal.returns-then-used-q
returns-then-used-q c = full_not_word _ _ _ c.if-q-eq0.true c.if-end-q-ge64.true (λ i. (c.type_inv.used i).fits) c.if-used-q.true ∙ c.loop-q.invariant.2

pub loop-q-preserved-then-end-q-ge64 : goal.loop-q-preserved-then-end-q-ge64
loop-q-preserved-then-end-q-ge64 c =
    let l = c.loop-q.invariant in
    let z = c.if-q-eq0.true in
    (refl, omega (arith, leb-true), full-next _ _ _ 64 c.if-end-q-ge64.true (full-word_each _ _ z c.if-used-q.false) ∙ l.2)

pub loop-q-preserved : goal.loop-q-preserved
loop-q-preserved c =
    let l = c.loop-q.invariant in
    (refl, omega arith, full-next _ _ _ 1 (omega arith) (each_one _ _ (sym c.is_used.ensures ∙ c.if-not-is_used.false)) ∙ l.2)

pub returns : goal.returns
returns c = full-end _ _ _ c.loop-q-test.false ∙ c.loop-q.invariant.2

pub bounds-used-q : goal.bounds-used-q
bounds-used-q c = used-within _ _ (sym c.is_used.ensures ∙ c.if-not-is_used.false)
