-- `operations::delete` meets its contract: its answer and the line of that answer. Assumes nothing.
use mathlib.Core.Path.{ap, ◌∙◌}
use Rattle.lines.specs.Lines.{text, write}
use Rattle.laws.specs.Answers.{Answer}
use Prim.Native.Nat.{ℕ}
use Rattle.operations.specs.Printing.{answer_line}
use Rattle.store.specs.Calls.{Call}
use Rattle.operations.proofs.delete.Goals as goal

pub returns : goal.returns
returns c = record {
  handle_value = ap (λ (x : Call). x.handle) c.delete-c.ensures;
  used_after = ap (λ (x : Call). x.memory) c.delete-c.ensures;
  at_after = c.change_line.ensures.result_after ∙ ap (λ (a : Answer ℕ). write (text c.args.out.now c.args.at) (answer_line 2 a)) (ap (λ (x : Call). x.answer) c.delete-c.ensures);
  at_bound = c.change_line.ensures.upper_bound;
}
