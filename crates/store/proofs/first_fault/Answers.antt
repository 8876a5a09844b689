-- `store::first_fault` meets its contract. The loop's invariant: what is left to search from here is the whole search.
-- Assumes nothing.
use mathlib.Core.Path.{refl}
use native.Mathlib.Omega.{arith}
use Rattle.store.specs.Loading.{first_fault}
use Rattle.store.proofs.Faults.{fault_none, fault_range, fault_fall, fault_on}
use Rattle.store.proofs.first_fault.Goals as goal

pub loop-i-init : goal.loop-i-init
unfolding first_fault
loop-i-init c = (omega arith, refl)

pub returns-then-k-ge-BOUND : goal.returns-then-k-ge-BOUND
returns-then-k-ge-BOUND c = fault_range _ _ _ _ c.loop-i.invariant.1 (omega arith) c.if-k-ge-BOUND.true

pub returns-then-k-least : goal.returns-then-k-least
returns-then-k-least c = fault_fall _ _ _ _ c.loop-i.invariant.1 (omega arith) (omega arith) c.if-k-least.true

pub loop-i-preserved : goal.loop-i-preserved
loop-i-preserved c = (omega arith, fault_on _ _ _ _ c.loop-i.invariant.1 (omega arith) (omega arith) c.if-k-least.false)

pub returns : goal.returns
returns c = fault_none _ _ _ _ c.loop-i.invariant.1 c.loop-i-test.false
