-- `marks::first_unused` meets its contract: at each turn, all places passed are used. Assumes nothing.
use mathlib.Core.Path.{sym, ◌∙◌}
use native.Mathlib.Omega.{arith}
use Rattle.marks.proofs.Lowest.{first_unused_is}
use Rattle.marks.proofs.Turns.{full-words_each, used-next}
use Rattle.marks.proofs.first_unused.Goals as goal

pub loop-i-preserved-then-used-p : goal.loop-i-preserved-then-used-p
loop-i-preserved-then-used-p c =
    let l = c.loop-i.invariant in
    let w = full-words_each _ _ _ c.if-p-eq0.true c.if-used-p.true c.skip_full.ensures.2 in
    (omega arith, (λ j h. used-next _ _ _ _ l.1 w j (omega arith)))

pub returns-then-not-is_used : goal.returns-then-not-is_used
returns-then-not-is_used c =
    let e = first_unused_is _ _ c.args.n _ (omega arith) c.loop-i.invariant.1 (λ h. sym c.is_used.ensures ∙ c.if-not-is_used.true) in
    (omega arith, sym e)

pub returns : goal.returns
returns c =
    let e = first_unused_is _ _ c.args.n c.args.n (omega arith) (λ j h. c.loop-i.invariant.1 j (omega arith)) (λ h. absurd (omega arith)) in
    λ h. absurd (omega arith)
