-- `counters::raise` meets its contract. The loop's invariant: what is left to raise from here is the whole. Assumes nothing.
use mathlib.Core.Path.{◌≡◌}
use lib.ListN.{drop}
use Rattle.counters.specs.Counters.{raise}
use Rattle.counters.proofs.raise.Given as goal

abbrev pub invariant-loop-r : goal.invariant-loop-r
invariant-loop-r l = raise l.nodes l.conflict (drop l.r-index l.r-items) ≡ raise l.initial.nodes l.conflict l.r-items
