-- The invariant: what is printed so far, and the rest of the session from here, is the whole (proofs/Printings).
use Rattle.std.proofs.Common.{◌-◌, ◌≤◌, length}
use Rattle.pool.specs.Memory.{mem}
use Rattle.rebuild.specs.Rebuilding.{scratch}
use Rattle.operations.specs.Stepping.{state}
use Rattle.operations.proofs.Printings.{Printed}
use Rattle.operations.proofs.blocks.run.Given as goal

abbrev pub invariant-loop-p : goal.invariant-loop-p
invariant-loop-p l = record {
  whole : Printed l.input l.last l.offset
      (state l.fn.h (mem l.fn.nodes l.fn.slots l.fn.used) (scratch l.fn.keys l.fn.payloads l.fn.places) l.fn.listed_keys l.fn.listed_payloads)
      l.at l.out l.p
      (state l.handle (mem l.nodes l.slots l.used) (scratch l.keys l.payloads l.places) l.listed_keys l.listed_payloads);
  within : (l.p ≤ length l.input) × (l.at ≤ length l.out);
}

abbrev pub decreases-loop-p : goal.decreases-loop-p
decreases-loop-p l = length l.input - l.p
