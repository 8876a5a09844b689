-- `build::sizes::sizes`: its measure is the fuel; the loop's invariant, `Left`, says that what is left to count from key a on is the
-- whole count, and bounds the nodes met by the keys passed.
use Prim.Native.Nat.{◌-◌}
use lib.ListN.{length}
use Rattle.build.proofs.Counting.{Left}
use Rattle.build.proofs.sizes.+sizes.Given as goal

abbrev pub decreases-sizes : goal.decreases-sizes
decreases-sizes l = l.fuel

abbrev pub invariant-loop-a : goal.invariant-loop-a
invariant-loop-a l = Left (l.fuel - 1) l.m l.keys l.at l.initial.list l.list l.nodes l.slots l.below l.a

abbrev pub decreases-loop-a : goal.decreases-loop-a
decreases-loop-a l = length l.keys - l.a
