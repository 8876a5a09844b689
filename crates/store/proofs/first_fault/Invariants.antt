-- `store::first_fault` meets its contract. The loop's invariant: what is left to search from here is the whole search.
-- Assumes nothing.
use mathlib.Core.Path.{◌≡◌}
use Prim.Native.Nat.{◌≤◌}
use lib.ListN.{drop}
use Rattle.laws.specs.Keys.{key_bound}
use Rattle.store.specs.Loading.{fault_from, first_fault}
use Rattle.store.proofs.first_fault.Given as goal

abbrev pub invariant-loop-i : goal.invariant-loop-i
invariant-loop-i l = (l.least ≤ key_bound) × (fault_from l.i l.least (drop l.i l.keys) ≡ first_fault l.keys)
