-- `marks::set_run` meets its contract: at each turn, setting the places that are left is setting them all. Assumes nothing.
use mathlib.Core.Bool.{not}
use mathlib.Core.Path.{◌≡◌, ◌∙◌}
use Prim.Native.Nat.{◌-◌, ◌<◌, ◌^◌}
use Rattle.laws.specs.Pick.{pick}
use Rattle.std.proofs.lemmas.Bool.Decides.{nat_tests}
use lib.Dec.{eqb}
use native.Mathlib.Omega.{arith}
use borrow.Author.Tests.{leb-true}
use Rattle.marks.proofs.Marks.{store_words}
use Rattle.marks.proofs.Turns.{set-next, set-next-word, set-end}
use Rattle.marks.proofs.set_run.Goals as goal
use Rattle.marks.proofs.set_run.Goals.{then-this-ne0, else-this-ne0}

pub loop-q-preserved-then-end-q-ge64 : goal.loop-q-preserved-then-end-q-ge64
loop-q-preserved-then-end-q-ge64 g c =
    let l = c.loop-q.invariant in
    let word : c.if-this-ne0.word ≡ pick (not (eqb g.row.USED 0)) (2 ^ 64 - 1) 0 =
    elim c.if-this-ne0.branch [ then-this-ne0 w ↦ grind (arith, nat_tests) | else-this-ne0 w ↦ grind (arith, nat_tests) ]
    in
    let fits : c.if-this-ne0.word < 2 ^ 64 = elim c.if-this-ne0.branch [ then-this-ne0 w ↦ omega arith | else-this-ne0 w ↦ omega arith ] in
    (omega (arith, leb-true), set-next-word _ _ _ _ _ c.if-q-eq0.true c.if-end-q-ge64.true (omega arith) l.2 word ∙ l.1, store_words _ _ _ l.2 fits)

pub loop-q-preserved : goal.loop-q-preserved
loop-q-preserved g c =
    let l = c.loop-q.invariant in
    (omega arith, rw c.set_place.ensures (set-next _ _ _ _ (omega arith) ∙ l.1), (λ i. (c.type_inv.used i).fits))

pub returns : goal.returns
returns g c = set-end _ _ _ _ c.loop-q-test.false ∙ c.loop-q.invariant.1
