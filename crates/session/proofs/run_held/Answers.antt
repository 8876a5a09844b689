use Rattle.std.proofs.Common.{arith}
use Rattle.std.proofs.lemmas.List.{length-take}
use Rattle.session.proofs.Moves.{copied_front}
use Rattle.session.proofs.Turning.{turned}
use Rattle.session.proofs.run_held.Goals as goal

pub returns-clause-runs_to : goal.returns-clause-runs_to
returns-clause-runs_to c =
    let m = copied_front c.args.input.now _ c.run-ran.result.taken c.args.stage.held (omega (arith, length-take c.args.stage.held c.args.input.now)) (omega arith) c.copy_within.ensures.after in
    turned _ _ _ _ _ _ _ _ _ _ c.run-ran.ensures.by_index m
