-- `build::run_end` meets its contract. The loop's invariant: every key from a up to b goes to the slot of key a. Assumes nothing.
use Rattle.build.proofs.Counting.{Shared}
use Rattle.build.proofs.run_end.Given as goal

abbrev pub invariant-loop-b : goal.invariant-loop-b
invariant-loop-b l = Shared l.m l.keys l.a l.b
