-- `walk::Path::new` meets its contract. Assumes nothing.
use mathlib.Core.Path.{refl}
use Rattle.walk.specs.Walks.{path_of}
use Rattle.walk.proofs.Path.new.Goals as goal

pub returns : goal.returns
unfolding path_of
returns c = refl
