-- `pairs::build_two` meets its contract: two rising keys are built as every list is. Assumes nothing.
use Rattle.rebuild.proofs.Judging.{pooled_sized, hinted_first}
use Rattle.rebuild.proofs.Conflicts.{two_rise}
use native.Mathlib.Omega.{arith}
use mathlib.Core.Path.{refl}
use Rattle.rebuild.proofs.pairs.build_two.Goals as goal

pub build_node-g-requires : goal.build_node-g-requires
build_node-g-requires c =
    record { rising = two_rise _ _ c.requires.a_lt_b.0 c.requires.a_lt_b.1; payloads_len = refl; keys_len_bound = omega arith; sized = pooled_sized _ c.requires.pooled; hinted = hinted_first _ }
