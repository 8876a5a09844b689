-- `pool::put_null` meets its contract: its two stores are those of the definition. Assumes nothing.
use mathlib.Core.Path.{refl}
use Rattle.pool.specs.Writing.{put_null}
use Rattle.pool.proofs.put_null.Goals as goal

pub returns : goal.returns
unfolding put_null
returns c = refl
