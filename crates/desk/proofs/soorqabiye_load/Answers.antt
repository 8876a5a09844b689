-- `desk::soorqabiye_load` meets its contract: the call's answer, passed on. Assumes nothing.
use Rattle.std.specs.Prelude.{ℕ, Result, Err}
use mathlib.Core.Path.{◌≡◌, sym, ap, ◌∙◌}
use native.Mathlib.Omega.{arith}
use Rattle.laws.proofs.Refusals.{number-refusal}
use Rattle.laws.specs.Refusals.{number_of, told_by}
use Rattle.laws.specs.declared.Refusal.{Refusal}
use Rattle.pool.specs.Memory.{Mem}
use Rattle.store.specs.Calls.{Call}
use Rattle.store.specs.Loading.{loaded}
use Rattle.store.specs.declared.Handle.{Handle}
use Rattle.store.specs.Handles.{new_handle}
use Rattle.desk.specs.Passing.{pass_load, load}
use Rattle.desk.proofs.soorqabiye_load.Goals as goal

-- the answer of the case that came, over the memory left
passed : (l : Result Handle Refusal) (m : Mem) (x : Call) → loaded l m ≡ x → (k : Result Handle Refusal) → l ≡ k → pass_load (loaded k m) ≡ pass_load x
passed l m x e k f = ap pass_load (ap (λ (y : Result Handle Refusal). loaded y m) (sym f) ∙ e)

pub returns-in-Ok : goal.returns-in-Ok
unfolding pass_load loaded
returns-in-Ok c = passed _ _ _ c.load.ensures _ c.in-Ok.is

-- a refusal's answer in fields
in_fields : (e : Refusal) (m : Mem) (number place : ℕ) (h : Handle) → number ≡ number_of e → place ≡ told_by e → h ≡ new_handle 0 0 0 0 0
    → load (record { number = number; place = place; handle = h }) m ≡ pass_load (loaded (Err e) m)
unfolding pass_load loaded
in_fields e m number place h x y z = rw (x, y, z, ← number-refusal e)

pub returns-in-Err : goal.returns-in-Err
returns-in-Err c =
    in_fields c.in-Err.refusal _ _ _ _ (omega arith) (omega arith) (cc) ∙ passed _ _ _ c.load.ensures _ c.in-Err.is
