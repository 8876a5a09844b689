-- Depths counted from the least one. A depth in range plus 20,000 is a natural number below 2^20, 20,000 less is the depth
-- again, and the count keeps the order. And every number below 2^20 is the count of a depth in range.
use mathlib.Core.Bool.{Bool, true, false, cond}
use mathlib.Core.Path.{◌≡◌, refl, sym, ap, ◌∙◌}
use Prim.Native.Nat.{ℕ, suc, ◌+◌, ◌-◌, ◌^◌, ◌<◌, ◌≤◌}
use native.Mathlib.Omega.{arith}
use lib.Dec.{ltb, leb→le, le→leb, ltb→lt, lt→ltb}
use lib.IntN.{ℤ, pos, negsuc, nat_abs, ◌+ℤ◌, ◌-ℤ◌, +ℤ-neg_ℤ_cancel, -ℤ-+ℤ_cancel}
use lib.Signed.{◌≤ℤ◌, ◌<ℤ◌, le_z_yes}
use borrow.Author.Tests.{le-ltb}
use Rattle.sounding.specs.Studio.{least_depth, most_depth}

-- how far a depth lies above the least: depth + 20,000
abbrev pub above : ℤ → ℕ
above depth = nat_abs (depth +ℤ pos 20000)

-- a number that is 20,000 or more, less a dry height of a + 1, which is at most 20,000
dry_sum : (a o : ℕ) → a ≤ 19999 → 20000 ≤ o → negsuc a +ℤ pos o ≡ pos (o - suc a)
dry_sum a o h k = rw (le-ltb o (suc a) (omega arith))

dry_above : (a : ℕ) → a ≤ 19999 → negsuc a +ℤ pos 20000 ≡ pos (20000 - suc a)
dry_above a h = dry_sum a 20000 h (omega arith)

-- the sum is not negative
pub sum_is_natural : (depth : ℤ) (o : ℕ) → least_depth ≤ℤ depth → 20000 ≤ o → depth +ℤ pos o ≡ pos (nat_abs (depth +ℤ pos o))
sum_is_natural (pos a) o h k = refl
sum_is_natural (negsuc a) o h k =
    let e : negsuc a +ℤ pos o ≡ pos (o - suc a) = dry_sum a o (leb→le a 19999 h.le) k in
    e ∙ sym (ap (λ (z : ℤ). pos (nat_abs z)) e)

pub above_is_the_sum : (depth : ℤ) → least_depth ≤ℤ depth → depth +ℤ pos 20000 ≡ pos (above depth)
above_is_the_sum depth h = sum_is_natural depth 20000 h (omega arith)

pub sum_below : (depth : ℤ) (o : ℕ) → least_depth ≤ℤ depth → depth ≤ℤ most_depth → 20000 ≤ o → nat_abs (depth +ℤ pos o) ≤ 1028575 + o
sum_below (pos a) o h k l = omega (arith, leb→le a 1028575 k.le)
sum_below (negsuc a) o h k l = rw (dry_sum a o (leb→le a 19999 h.le) l) (omega arith)

pub above-below : (depth : ℤ) → least_depth ≤ℤ depth → depth ≤ℤ most_depth → above depth < 2 ^ 20
above-below depth h k = omega (arith, sum_below depth 20000 h k (omega arith))

pub above_back : (depth : ℤ) → least_depth ≤ℤ depth → pos (above depth) -ℤ pos 20000 ≡ depth
above_back depth h = ap (λ (z : ℤ). z -ℤ pos 20000) (sym (above_is_the_sum depth h)) ∙ +ℤ-neg_ℤ_cancel depth (pos 20000)

-- shoaler is nearer the least
pub above-rises : (d d' : ℤ) → least_depth ≤ℤ d → least_depth ≤ℤ d' → d <ℤ d' → above d < above d'
above-rises (pos a) (pos b) h k l = omega (arith, ltb→lt a b l.lt)
above-rises (pos a) (negsuc b) h k l = absurd l.lt
above-rises (negsuc a) (pos b) h k l = rw (dry_above a (leb→le a 19999 h.le)) (omega arith)
above-rises (negsuc a) (negsuc b) h k l =
    let p : b < a = ltb→lt b a l.lt in
    let q : a ≤ 19999 = leb→le a 19999 h.le in
    rw (dry_above a q, dry_above b (omega arith)) (omega arith)

pub rises_from_above : (d d' : ℤ) → least_depth ≤ℤ d → least_depth ≤ℤ d' → above d < above d' → d <ℤ d'
rises_from_above (pos a) (pos b) h k l = record { lt = lt→ltb a b (omega arith) }
rises_from_above (pos a) (negsuc b) h k l =
    let p : a + 20000 < 20000 - suc b = rw (dry_above b (leb→le b 19999 k.le)) at l in
    let z : ⊥ = omega arith in
    absurd z
rises_from_above (negsuc a) (pos b) h k l = record { lt = tt }
rises_from_above (negsuc a) (negsuc b) h k l =
    let p : 20000 - suc a < 20000 - suc b = rw (dry_above a (leb→le a 19999 h.le), dry_above b (leb→le b 19999 k.le)) at l in
    record { lt = lt→ltb b a (omega arith) }

-- from the count to the depth
pub count_back : (u : ℕ) → above (pos u -ℤ pos 20000) ≡ u
count_back u = ap nat_abs (-ℤ-+ℤ_cancel (pos u) (pos 20000))

-- u - 20,000 by the test of the difference's sign
between_either_way : (u : ℕ) → u < 2 ^ 20 → (dries : Bool) → (least_depth ≤ℤ cond dries (negsuc (20000 - suc u)) (pos (u - 20000))) × (cond dries (negsuc (20000 - suc u)) (pos (u - 20000)) ≤ℤ most_depth)
between_either_way u l true = (le_z_yes (le→leb (20000 - suc u) 19999 (omega arith)), le_z_yes tt)
between_either_way u l false = (le_z_yes tt, le_z_yes (le→leb (u - 20000) 1028575 (omega arith)))

pub count_between : (u : ℕ) → u < 2 ^ 20 → (least_depth ≤ℤ (pos u -ℤ pos 20000)) × ((pos u -ℤ pos 20000) ≤ℤ most_depth)
count_between u l = between_either_way u l (ltb u 20000)
