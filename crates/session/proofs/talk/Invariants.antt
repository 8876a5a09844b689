-- The invariant: a session of some bytes, begun at the start, stands where the program stands (`SoFar`, proofs/Carrying; which bytes
-- were read and printed it does not say); the bytes held are within the buffer; after so many blocks the offset is below 2^63.
use Rattle.std.proofs.Common.{◌+◌, ◌*◌, ◌≤◌, length, take}
use Rattle.operations.specs.Stepping.{state}
use Rattle.pool.specs.Memory.{mem}
use Rattle.rebuild.specs.Rebuilding.{scratch}
use Rattle.session.specs.Turns.{SoFar}
use Rattle.session.proofs.talk.Given as goal

abbrev pub invariant-loop : goal.invariant-loop
invariant-loop g l = record {
  so_far : SoFar l.stage.last l.stage.offset (take l.stage.held l.input) (state l.stage.handle (mem l.nodes l.slots l.used) (scratch l.keys l.payloads l.places) l.listed_keys l.listed_payloads);
  within : l.stage.held ≤ length l.input;
  bounded : l.stage.offset + l.stage.held ≤ l.counter * 65536;
}
