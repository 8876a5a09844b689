use Rattle.std.proofs.Common.{◌≡◌, ◌<◌, ◌+◌, ℕ, List, [], ◌∷◌, drop, get_or, length, ap, sym, ◌∙◌, arith}
use Rattle.std.proofs.lemmas.List.{at_drop_more, at_drop_all}
use Rattle.lines.specs.Lines.{Text, line, numbers, spaced, text, write}
use Rattle.lines.proofs.Writing.{write_first}
use Rattle.lines.proofs.line.Goals as goal

-- once n is written, which is number i of xs, the numbers after it are what is left
written : (t u : Text) (xs : List ℕ) (i n : ℕ) → n ≡ get_or xs i 0 → i < length xs → u ≡ write t (spaced n) → write u (numbers (drop (i + 1) xs)) ≡ write t (numbers (drop i xs))
unfolding numbers
written t u xs i n same lt e =
    write_first t u _ (numbers (drop (i + 1) xs)) (e ∙ ap (λ (x : ℕ). write t (spaced x)) same)
    ∙ ap (write t) (sym (at_drop_more numbers xs i 0 lt))

pub loop-n-init : goal.loop-n-init
unfolding line
loop-n-init c = (write_first _ _ (c.args.head ∷ []) (numbers c.args.numbers.now) c.put-end.ensures.result_after, omega arith)

pub loop-n-preserved : goal.loop-n-preserved
loop-n-preserved c = (
  written _ _ _ _ _ (grind arith) c.loop-n-test.true c.put_spaced-end.ensures.result_after ∙ c.loop-n.invariant.0,
  omega arith,
)

pub returns-clause-result_after : goal.returns-clause-result_after
unfolding numbers
returns-clause-result_after c =
    c.put.ensures.result_after
    ∙ ap (write (text c.loop-n.out c.loop-n.end)) (sym (at_drop_all numbers c.args.numbers.now c.loop-n.n-index c.loop-n-test.false)) ∙ c.loop-n.invariant.0
