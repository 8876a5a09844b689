use Rattle.std.proofs.Common.{ap, sym, ◌∙◌, arith}
use Rattle.laws.proofs.Tests.{true_not_false}
use Rattle.lines.proofs.KindBytes.{known-length}
use Rattle.operations.specs.Printing.{end_line}
use Rattle.operations.specs.Stepping.{Stepped}
use Rattle.operations.proofs.Printings.{printed-next, printed-unknown, printed-short, body_at_most, body_is, body-length}
use Rattle.operations.proofs.blocks.run.Goals as goal

pub returns-in_default-clause-by_index : goal.returns-in_default-clause-by_index
unfolding end_line
returns-in_default-clause-by_index c =
    printed-unknown _ _ _ _ _ _ _ _ c.loop-p.invariant.whole c.loop-p-test.true _ _ (sym c.kind_of.ensures ∙ c.in_default.is) c.line-end.ensures.result_after (omega arith)

pub returns-then-last-clause-by_index : goal.returns-then-last-clause-by_index
unfolding end_line
returns-then-last-clause-by_index c =
    printed-short _ _ _ _ _ _ _ _ c.loop-p.invariant.whole c.loop-p-test.true _ _ _ (sym c.in-Some.ensures) c.if-input-start.true c.if-last.true c.line-end-then-last.ensures.result_after (omega arith)

pub returns-then-input-start-clause-rests : goal.returns-then-input-start-clause-rests
returns-then-input-start-clause-rests c =
    (omega (arith, body_at_most _ _ (sym c.in-Some.ensures)), λ t. absurd (true_not_false (sym t ∙ c.if-last.false)))

pub step-next-requires-clause-body_len : goal.step-next-requires-clause-body_len
step-next-requires-clause-body_len c =
    body-length c.args.input.now c.loop-p.p c.in-Some.kind.length c.loop-p-test.true c.if-input-start.false ∙ known-length _ _ (sym c.in-Some.ensures)

pub loop-p-preserved : goal.loop-p-preserved
loop-p-preserved c = record {
  whole = printed-next _ _ _ _ _ _ _ _ c.loop-p.invariant.whole c.loop-p-test.true _ _ c.in-Some.kind (sym c.in-Some.ensures) c.if-input-start.false _ (body_is c.args.input.now c.loop-p.p c.in-Some.kind.length) _
      (ap (λ (x : Stepped). x.next) c.step-next.ensures.at_after) (ap (λ (x : Stepped). x.text) c.step-next.ensures.at_after) (omega arith);
  within = omega arith;
}
