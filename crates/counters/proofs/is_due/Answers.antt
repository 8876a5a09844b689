-- `counters::is_due` meets its contract: each test that fails rules out one of the four conditions. Assumes nothing.
use native.Mathlib.Omega.{arith}
use Rattle.counters.proofs.Dues.{not-due, due_by_slots}
use Rattle.counters.proofs.is_due.Goals as goal

pub returns-then-n-lt-LEAST_DUE : goal.returns-then-n-lt-LEAST_DUE
returns-then-n-lt-LEAST_DUE c = not-due _ _ _ _ (λ d. omega arith)

pub returns-then-n : goal.returns-then-n
returns-then-n c = not-due _ _ _ _ (λ d. omega arith)

pub returns-then-n-2 : goal.returns-then-n-2
returns-then-n-2 c = not-due _ _ _ _ (λ d. omega arith)

pub returns : goal.returns
returns c = due_by_slots _ _ _ _ (omega arith) (omega arith) (omega arith)
