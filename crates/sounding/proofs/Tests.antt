-- Tests of order on signed numbers, and document 01's ranges. From a test of the code or of a definition to the fact that it
-- says, and back.
use Rattle.std.proofs.Common.{arith, Some}
use Rattle.std.proofs.lemmas.Int.{ints}
use Rattle.std.specs.Ordering.{partial_le, int_cmp}
use Rattle.std.specs.Range.{range_inclusive_contains, range_inclusive_start, range_inclusive_end, range_inclusive_exhausted}
use Rattle.std.specs.declared.ops.RangeInclusive.{RangeInclusive}
use mathlib.Core.Bool.{true, false}
use mathlib.Core.Logic.{◌↔◌}
use mathlib.Core.Path.{◌≡◌}
use Prim.Native.Nat.{ℕ, ◌≤◌}
use lib.IntN.{ℤ}
use lib.Signed.{◌≤ℤ◌, ◌<ℤ◌, le_z}
use borrow.Author.Tests.{leb-true, le-leb}
use Rattle.sounding.specs.Studio.{least_depth, most_depth, most_number, depth_in_range, number_in_range}

pub le_le_z : {a b : ℤ} → a ≤ℤ b → le_z a b ≡ true
le_le_z h = grind (arith, ints)

pub lt_le_z : {a b : ℤ} → b <ℤ a → le_z a b ≡ false
lt_le_z h = grind (arith, ints)

-- "from -20,000 to 1,028,575"
pub depth_between : (d : ℤ) → (depth_in_range d ≡ true) ↔ ((least_depth ≤ℤ d) × (d ≤ℤ most_depth))
unfolding depth_in_range
depth_between d = (λ e. (grind (arith, ints), grind (arith, ints)), λ p. grind (arith, ints))

-- "0 to 268,435,455"
pub number_between : (n : ℕ) → (number_in_range n ≡ true) ↔ (n ≤ most_number)
unfolding number_in_range
number_between n = (leb-true n most_number, le-leb n most_number)

-- "from -20,000 to 1,028,575", as the code asks it of a range that has those ends
at_most : (a b : ℤ) → partial_le (λ x y. Some (int_cmp x y)) a b ≡ le_z a b
at_most a b = grind (arith, ints)

pub depths_contain : (r : RangeInclusive ℤ) (d : ℤ) → range_inclusive_start r ≡ least_depth → range_inclusive_end r ≡ most_depth → range_inclusive_exhausted r ≡ false
    → range_inclusive_contains (λ x y. Some (int_cmp x y)) r d ≡ depth_in_range d
unfolding depth_in_range
depths_contain r d s e x = rw (x, s, e, at_most least_depth d, at_most d most_depth)
