-- What the machine reads back from the bits of a signed number. A signed local holds bits, so a test, a sum or a cast of the
-- code speaks of the number that the bits stand for: here that number is the one meant, since it fits 64 bits.
use mathlib.Core.Bool.{Bool, true, false, cond}
use mathlib.Core.Path.{◌≡◌, ap, ◌∙◌, subst⁻¹}
use Prim.Native.Nat.{ℕ, suc, ◌-◌, ◌^◌, ◌<◌, ◌≤◌}
use native.Mathlib.Omega.{arith}
use lib.Dec.{ltb}
use lib.IntN.{ℤ, pos, negsuc, nat_abs, ◌+ℤ◌}
use lib.Signed.{◌≤ℤ◌}
use mir.Syntax.{w64}
use mir.Val.{SFits, to_z, of_z}
use mir.ValLaws.{to_z-of_z, to_z_pos}
use Rattle.sounding.specs.Studio.{least_depth, most_depth}
use Rattle.sounding.proofs.Depths.{sum_is_natural, sum_below}

-- a depth in range, counted from o below 0: 20,000 is the least o from which no depth is negative
module _ (d : ℤ) (fits : SFits w64 d) (least : least_depth ≤ℤ d) (most : d ≤ℤ most_depth) (o : ℕ) (from : 20000 ≤ o) (upto : o < 2 ^ 32) where
  reads_as_the_count : to_z w64 (of_z w64 d) +ℤ pos o ≡ pos (nat_abs (d +ℤ pos o))
  reads_as_the_count = ap (λ (z : ℤ). z +ℤ pos o) (to_z-of_z w64 d fits) ∙ sum_is_natural d o least from

  count_small : nat_abs (d +ℤ pos o) < 2 ^ 35
  count_small = omega (arith, sum_below d o least most from)

  count_fits : SFits w64 (pos (nat_abs (d +ℤ pos o)))
  count_fits = record { sfits = omega (arith, count_small) }

  pub difference_fits : SFits w64 (to_z w64 (of_z w64 d) +ℤ pos o)
  difference_fits = subst⁻¹ (SFits w64) reads_as_the_count count_fits

  pub difference_reads : to_z w64 (of_z w64 (to_z w64 (of_z w64 d) +ℤ pos o)) ≡ pos (nat_abs (d +ℤ pos o))
  difference_reads = to_z-of_z w64 _ difference_fits ∙ reads_as_the_count

-- a natural number and a negative one, each in the range of the type, have a sum in it
module _ (u k : ℕ) (left : u < 2 ^ 63) (right : k < 2 ^ 63) where
  fits_either_way : (negative : Bool) → SFits w64 (cond negative (negsuc (suc k - suc u)) (pos (u - suc k)))
  fits_either_way true = record { sfits = omega arith }
  fits_either_way false = record { sfits = omega arith }

  reads_as_the_sum : to_z w64 u +ℤ negsuc k ≡ pos u +ℤ negsuc k
  reads_as_the_sum = ap (λ (z : ℤ). z +ℤ negsuc k) (to_z_pos w64 u left)

  pub sum_fits : SFits w64 (to_z w64 u +ℤ negsuc k)
  sum_fits = subst⁻¹ (SFits w64) reads_as_the_sum (fits_either_way (ltb u (suc k)))

  pub sum-reads : to_z w64 (of_z w64 (to_z w64 u +ℤ negsuc k)) ≡ pos u +ℤ negsuc k
  sum-reads = to_z-of_z w64 _ sum_fits ∙ reads_as_the_sum
