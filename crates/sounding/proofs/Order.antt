-- Document 01, "So key order is shoalest first": of two soundings in range the one with the lower key is the shoaler, or has
-- the lower number at the same depth, and the other way round.
use mathlib.Core.Bool.{true}
use mathlib.Core.Logic.{◌↔◌, ◌⊎◌, inl, inr, ⊎_elim}
use mathlib.Core.Path.{◌≡◌, sym, ap, ◌∙◌}
use Prim.Native.Nat.{ℕ, ◌<◌, ◌≤◌}
use native.Mathlib.Nat.{eq-or-lt_of_le}
use native.Mathlib.Omega.{arith}
use lib.IntN.{ℤ, pos, ◌-ℤ◌}
use lib.Signed.{◌≤ℤ◌, ◌<ℤ◌}
use Rattle.sounding.specs.Studio.{least_depth, most_number, depth_in_range, number_in_range, key_of}
use Rattle.sounding.proofs.Tests.{depth_between, number_between}
use Rattle.sounding.proofs.Depths.{above, above_back, above-rises, rises_from_above}

module _ (d d' : ℤ) (n n' : ℕ) (least : least_depth ≤ℤ d) (least' : least_depth ≤ℤ d') (most : n ≤ most_number) (most' : n' ≤ most_number) where
  same-depth : above d ≡ above d' → d ≡ d'
  same-depth e = sym (above_back d least) ∙ ap (λ (u : ℕ). pos u -ℤ pos 20000) e ∙ above_back d' least'

  shoaler_has_the_lower_key : (d <ℤ d') ⊎ ((d ≡ d') × (n < n')) → key_of d n < key_of d' n'
  unfolding key_of
  shoaler_has_the_lower_key =
      ⊎_elim (λ l. omega (arith, above-rises d d' least least' l)) (λ p. omega (arith, ap above p.0, p.1))

  lower_key_is_shoaler : key_of d n < key_of d' n' → (d <ℤ d') ⊎ ((d ≡ d') × (n < n'))
  unfolding key_of
  lower_key_is_shoaler l =
      let not_deeper : above d ≤ above d' = omega arith in
      ⊎_elim (λ e. inr (same-depth e, omega arith)) (λ r. inl (rises_from_above d d' least least' r)) (eq-or-lt_of_le not_deeper)

pub shoalest_first : (d d' : ℤ) (n n' : ℕ) → depth_in_range d ≡ true → depth_in_range d' ≡ true → number_in_range n ≡ true → number_in_range n' ≡ true → (key_of d n < key_of d' n') ↔ ((d <ℤ d') ⊎ ((d ≡ d') × (n < n')))
shoalest_first d d' n n' i i' j j' =
    let l = ((depth_between d).0 i).0 in
    let l' = ((depth_between d').0 i').0 in
    let m = (number_between n).0 j in
    let m' = (number_between n').0 j' in
    (lower_key_is_shoaler d d' n n' l l' m m', shoaler_has_the_lower_key d d' n n' l l' m m')
