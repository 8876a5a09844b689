-- `pool::put_node` meets its contract: the part that is written is the record (proofs/Sets). Assumes nothing.
use mathlib.Core.Path.{refl}
use native.Mathlib.Omega.{arith}
use Rattle.pool.specs.Writing.{put_node}
use Rattle.pool.proofs.RecordStores.{words_of}
use Rattle.pool.proofs.Sets.{part_is}
use Rattle.pool.proofs.put_node.Goals as goal

pub returns : goal.returns
unfolding put_node
returns c = part_is _ _ (words_of c.args.n c.args.count) _ _ 8 (omega arith) refl (omega arith) c.copy_from_slice.ensures.after
