-- `laws::little_endian` meets its contract: up to place i the bytes are copied, and zeros are left. Assumes nothing.
use Rattle.std.proofs.Common.{◌≡◌, ◌++◌, take, drop, replicate}
use Rattle.laws.proofs.little_endian.Given as goal

abbrev pub invariant-loop-i : goal.invariant-loop-i
invariant-loop-i g l = l.eight ≡ take l.i (drop l.p l.bytes) ++ drop l.i (replicate 8 0)
