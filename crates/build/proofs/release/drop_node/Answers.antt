-- `build::release::drop_node` meets its contract: its four stores are those of `drop_node`. Assumes nothing.
use Rattle.build.specs.Releasing.{drop_node}
use Rattle.build.proofs.release.drop_node.Goals as goal

pub returns : goal.returns
unfolding drop_node
returns c =
    let run = c.zero_run in
    rw (run.ensures, c.zero_record.ensures, c.clear.ensures, c.clear_run.ensures)
