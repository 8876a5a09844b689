-- `desk::soorqabiye_band` meets its contract: the call's answer, passed on. Assumes nothing.
use Rattle.std.specs.Prelude.{Result, Ok}
use mathlib.Core.List.{List}
use mathlib.Core.Path.{◌≡◌, sym, ap, subst, ◌∙◌}
use Prim.Native.Nat.{ℕ}
use native.Mathlib.Omega.{arith}
use Rattle.laws.proofs.Answers.{converted}
use Rattle.laws.proofs.Refusals.{number-refusal}
use Rattle.laws.specs.Answers.{as_number}
use Rattle.laws.specs.Refusals.{refusal}
use Rattle.laws.specs.declared.Refusal.{Refusal}
use Rattle.listing.specs.declared.Listed.{Listed}
use Rattle.store.specs.Bands.{Band, band, listed}
use Rattle.desk.proofs.Telling.{Bare, bare-values, band-bare}
use Rattle.desk.specs.Passing.{pass_band, listing}
use Rattle.desk.proofs.soorqabiye_band.Goals as goal

-- the answer of the case that came, over the output left
passed : (l : Result Listed Refusal) (ks ps : List ℕ) (x : Band) → band (listed l) ks ps ≡ x → (k : Result Listed Refusal) → l ≡ k → band (listed k) ks ps ≡ x
passed l ks ps x e k f = ap (λ (y : Result Listed Refusal). band (listed y) ks ps) (sym f) ∙ e

-- a listing's answer in fields
in_fields : (l : Listed) (ks ps : List ℕ) (count more : ℕ) → count ≡ l.count → more ≡ as_number l.more
    → listing (record { number = 0; count = count; more = more }) ks ps ≡ pass_band (band (listed (Ok l)) ks ps)
unfolding pass_band listed
in_fields l ks ps count more x y = rw (x, y)

pub returns-in-Ok : goal.returns-in-Ok
returns-in-Ok c =
    let t = converted c.in-Ok.listed.more in
    in_fields c.in-Ok.listed _ _ _ _ (omega arith) (omega (arith, t)) ∙ ap pass_band (passed _ _ _ _ c.band.ensures _ c.in-Ok.is)

pub returns-in-Err : goal.returns-in-Err
unfolding pass_band listed
returns-in-Err c =
    let e = passed _ _ _ _ c.band.ensures _ c.in-Err.is in
    let b : Bare 0 (refusal c.in-Err.refusal) = subst (Bare 0) (sym (ap (λ (x : Band). x.answer) e)) (band-bare _ _ _ _ _ _) in
    let v = bare-values c.in-Err.refusal b in
    rw (c.number.ensures, ← number-refusal c.in-Err.refusal) (rw v at (ap pass_band e))
