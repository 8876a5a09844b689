-- `marks::lowest_run` meets its contract: at each turn no run starts before the start tried, and got places from it on are
-- unused. Assumes nothing.
use mathlib.Core.Path.{refl, sym, ◌∙◌}
use native.Mathlib.Omega.{arith}
use borrow.Author.Tests.{ltb-true}
use Rattle.marks.specs.Used.{free_run}
use Rattle.marks.proofs.Lowest.{lowest_run_here, lowest_run-nowhere}
use Rattle.marks.proofs.Turns.{each_one, full-words_each, zero_word_each, free_next, starts_used, starts_next}
use Rattle.marks.proofs.lowest_run.Goals as goal

pub returns-then-n-l : goal.returns-then-n-l
returns-then-n-l c = sym (lowest_run-nowhere _ _ _ _ (λ j h. absurd (omega arith)))

pub loop-start-init : goal.loop-start-init
unfolding free_run
loop-start-init c =
    (omega arith, omega arith, omega arith, omega arith, refl, starts_used _ _ c.args.l c.args.s (omega arith) c.requires.4)

pub loop-start-preserved-then-w : goal.loop-start-preserved-then-w
unfolding free_run
loop-start-preserved-then-w c =
    let l = c.loop-start.invariant in
    let w = full-words_each _ _ _ c.if-p-eq0.true c.if-w.true c.skip_full.ensures.2 in
    (omega arith, omega arith, omega arith, omega arith, refl, (λ j h. starts_next _ _ _ _ _ _ l.3 (omega arith) l.5 w j (omega arith)))

pub loop-start-preserved-then-l-got-gt64 : goal.loop-start-preserved-then-l-got-gt64
loop-start-preserved-then-l-got-gt64 c =
    let l = c.loop-start.invariant in
    (omega arith, omega arith, omega arith, omega (arith, ltb-true), free_next _ _ _ 64 l.4 (zero_word_each _ _ c.if-p-eq0.true c.if-w-eq0.true), l.5)

pub loop-start-preserved-then-is_used : goal.loop-start-preserved-then-is_used
unfolding free_run
loop-start-preserved-then-is_used c =
    let l = c.loop-start.invariant in
    (omega arith, omega arith, omega arith, omega arith, refl, starts_next _ _ _ _ _ 1 l.3 (omega arith) l.5 (each_one _ _ (sym c.is_used.ensures ∙ c.if-is_used.true)))

pub returns-then-got-l : goal.returns-then-got-l
returns-then-got-l c =
    let l = c.loop-start.invariant in
    sym (lowest_run_here _ _ _ _ _ (omega arith) (rw (← c.if-got-l.true) (free_next _ _ _ 1 l.4 (each_one _ _ (sym c.is_used.ensures ∙ c.if-is_used.false)))) l.5)

pub loop-start-preserved : goal.loop-start-preserved
loop-start-preserved c =
    let l = c.loop-start.invariant in
    (omega arith, omega arith, omega arith, omega arith, free_next _ _ _ 1 l.4 (each_one _ _ (sym c.is_used.ensures ∙ c.if-is_used.false)), l.5)

pub returns : goal.returns
returns c = sym (lowest_run-nowhere _ _ _ _ (λ j h. c.loop-start.invariant.5 j (omega arith)))
