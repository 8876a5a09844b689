-- `build::release::release`: its measure is the fuel; the loop's invariant, `Left`, says that what is left to release from slot j
-- on, in the memory as it is now, is the whole.
use Prim.Native.Nat.{◌-◌}
use Rattle.pool.specs.Memory.{mem}
use Rattle.build.proofs.Releasing.{Left}
use Rattle.build.proofs.release.+release.Given as goal

abbrev pub decreases-release : goal.decreases-release
decreases-release l = l.fuel

abbrev pub invariant-loop-j : goal.invariant-loop-j
invariant-loop-j l =
    Left (l.fuel - 1) l.n l.j (mem l.initial.nodes l.initial.slots l.initial.used) (mem l.nodes l.slots l.used)
