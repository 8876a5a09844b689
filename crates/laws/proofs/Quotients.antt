-- Products and quotients that rise, and bounds on them: what the slot formula needs. Assumes nothing.
use Prim.Native.Nat.{ℕ, ◌*◌, ◌/◌, ◌<◌, ◌≤◌}
use native.Mathlib.Nat.{div-lt_iff_lt-mul, le-div_iff_mul-le, div-mul-le_self, le_trans, mul_comm, mul-le-mul, mul-le-mul_right, mul-lt-mul_of_pos_right}
use native.Mathlib.Omega.{arith}

pub product_under : {a b : ℕ} (x y : ℕ) → a ≤ x → b ≤ y → a * b ≤ x * y
product_under x y h k = mul-le-mul h k

pub quotient_rises : {a b : ℕ} (w : ℕ) → 1 ≤ w → a ≤ b → a / w ≤ b / w
quotient_rises {a} {b} w pos h = (le-div_iff_mul-le {k = w} {x = a / w} {y = b} pos).1 (le_trans (div-mul-le_self a w) h)

-- a part of w, taken of m
pub share_under : (x w m : ℕ) → x < w → 1 ≤ m → x * m / w < m
share_under x w m lt pos =
    let h : x * m < m * w = rw (mul_comm m w) (mul-lt-mul_of_pos_right lt pos) in
    (div-lt_iff_lt-mul {k = w} {x = x * m} {y = m} (omega arith)).1 h

pub share_rises : {x y : ℕ} (w m : ℕ) → 1 ≤ w → x ≤ y → x * m / w ≤ y * m / w
share_rises w m pos h = quotient_rises w pos (mul-le-mul_right m h)
