-- `pool::put_data` meets its contract: its two stores are those of the definition. Assumes nothing.
use mathlib.Core.Path.{refl}
use Rattle.pool.specs.Writing.{put_data}
use Rattle.pool.proofs.put_data.Goals as goal

pub returns : goal.returns
unfolding put_data
returns c = refl
