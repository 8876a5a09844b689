-- `pool::put_child` meets its contract: its two stores are those of the definition. Assumes nothing.
use mathlib.Core.Path.{refl}
use Rattle.pool.specs.Writing.{put_child}
use Rattle.pool.proofs.put_child.Goals as goal

pub returns : goal.returns
unfolding put_child
returns c = refl
