-- The cycle of `build::build_group` and `build::build_node`: a node's groups are built with less fuel, a group's node with the
-- same, so twice the fuel falls. The loop over the runs of keys keeps `Filling`.
use Prim.Native.Nat.{◌+◌, ◌-◌, ◌*◌}
use lib.ListN.{length}
use Rattle.pool.specs.Memory.{mem}
use Rattle.build.proofs.Turns.{Filling}
use Rattle.build.proofs.+build_group_build_node.Given as goal

abbrev pub decreases-build_group : goal.decreases-build_group
decreases-build_group l = l.fuel * 2 + 1

abbrev pub decreases-build_node : goal.decreases-build_node
decreases-build_node l = l.fuel * 2

abbrev pub invariant-build_node-loop-a : goal.invariant-build_node-loop-a
invariant-build_node-loop-a l =
    Filling (l.fuel - 1) l.«record» l.node l.keys l.payloads l.a (mem l.initial.nodes l.initial.slots l.initial.used) (mem l.nodes l.slots l.used) l.next

abbrev pub decreases-build_node-loop-a : goal.decreases-build_node-loop-a
decreases-build_node-loop-a l = length l.keys - l.a
