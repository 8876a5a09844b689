-- `build::place_node` meets its contract: its four stores are those of `place_node`. Assumes nothing.
use Rattle.build.specs.Building.{place_node}
use Rattle.build.proofs.place_node.Goals as goal

pub returns : goal.returns
unfolding place_node
returns c =
    let put = c.put_node in
    rw (put.ensures, c.zero_run.ensures, c.mark_run.ensures, c.mark.ensures)
