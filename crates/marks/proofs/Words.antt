-- One bit of one word of 64: what adding or taking away a power of two does to each bit. Assumes nothing.
use mathlib.Core.Logic.{⊎_elim}
use mathlib.Core.Path.{◌≡◌, sym, subst, ap, ◌∙◌}
use Prim.Native.Nat.{ℕ, ◌+◌, ◌*◌, ◌-◌, ◌<◌, ◌≤◌, ◌/◌, ◌%◌, ◌^◌}
use native.Mathlib.Nat.{add-mul-div_right, one-mul, div-lt_iff_lt-mul, mul-le-mul_right}
use native.Mathlib.Omega.{arith}
use lib.Arith.{lt_of_le-ne}
use lib.Bits.{bit_and, bit_or, and_high, or_add_and}
use lib.Pow.{shl_exact, shr-shr, shr_lt, pow_pos, pow-add, split}
use Rattle.laws.proofs.Tests.{le_or_lt}

pub shl_one : (i : ℕ) → i < 64 → 1 * 2 ^ i % 2 ^ 64 ≡ 2 ^ i
shl_one i h = shl_exact {a = 1} 1 i 64 (omega arith) (omega arith) ∙ one-mul (2 ^ i)

-- a power added to a word
pub add_pow_div : (x i : ℕ) → (x + 2 ^ i) / 2 ^ i ≡ x / 2 ^ i + 1
add_pow_div x i = ap (λ (y : ℕ). (x + y) / 2 ^ i) (sym (one-mul (2 ^ i))) ∙ add-mul-div_right x 1 (pow_pos i)

pub set_same : (x i : ℕ) → x / 2 ^ i % 2 ≡ 0 → (x + 2 ^ i) / 2 ^ i % 2 ≡ 1
set_same x i h = rw add_pow_div (omega arith)

set-above : (x i d : ℕ) → x / 2 ^ i % 2 ≡ 0 → (x + 2 ^ i) / 2 ^ (i + 1 + d) ≡ x / 2 ^ (i + 1 + d)
set-above x i d h =
    let e : (x / 2 ^ i + 1) / 2 ≡ x / 2 ^ i / 2 = omega arith in
    rw (← shr-shr (x + 2 ^ i) (i + 1) d, ← shr-shr x (i + 1) d, ← shr-shr (x + 2 ^ i) i 1, ← shr-shr x i 1, add_pow_div, e)

set_below : (x j d : ℕ) → (x + 2 ^ (d + 1 + j)) / 2 ^ j % 2 ≡ x / 2 ^ j % 2
set_below x j d =
    let e : 2 ^ (d + 1) ≡ 2 ^ d * 2 = pow-add 2 d 1 in
    rw (pow-add 2 (d + 1) j, add-mul-div_right x (2 ^ (d + 1)) (pow_pos j), e) (omega arith)

pub set_other : (x i j : ℕ) → x / 2 ^ i % 2 ≡ 0 → (j ≡ i → ⊥) → (x + 2 ^ i) / 2 ^ j % 2 ≡ x / 2 ^ j % 2
set_other x i j h n = ⊎_elim low high (le_or_lt i j)
  where
    low : i ≤ j → (x + 2 ^ i) / 2 ^ j % 2 ≡ x / 2 ^ j % 2
    low l =
        let e : i + 1 + (j - (i + 1)) ≡ j = omega (arith, lt_of_le-ne {i = i} {k = j} l (λ q. n (sym q))) in
        ap (λ (y : ℕ). y % 2) (subst (λ (k : ℕ). (x + 2 ^ i) / 2 ^ k ≡ x / 2 ^ k) e (set-above x i (j - (i + 1)) h))

    high : j < i → (x + 2 ^ i) / 2 ^ j % 2 ≡ x / 2 ^ j % 2
    high l =
        let e : i - (j + 1) + 1 + j ≡ i = omega arith in
        subst (λ (k : ℕ). (x + 2 ^ k) / 2 ^ j % 2 ≡ x / 2 ^ j % 2) e (set_below x j (i - (j + 1)))

pub set-fits : (x i : ℕ) → x < 2 ^ 64 → i < 64 → x / 2 ^ i % 2 ≡ 0 → x + 2 ^ i < 2 ^ 64
set-fits x i f l h =
    let e : 63 - i + (i + 1 + 0) ≡ 64 = omega arith in
    let a : x / 2 ^ (i + 1 + 0) < 2 ^ (63 - i) = shr_lt (63 - i) (i + 1 + 0) (subst (λ (k : ℕ). x < 2 ^ k) (sym e) f) in
    let b : (x + 2 ^ i) / 2 ^ (i + 1 + 0) < 2 ^ (63 - i) = rw (set-above x i 0 h) a in
    subst (λ (k : ℕ). x + 2 ^ i < 2 ^ k) e (rw (pow-add 2 (63 - i) (i + 1 + 0)) ((div-lt_iff_lt-mul (pow_pos (i + 1 + 0))).0 b))

-- a bit that is set is part of the word
pub power_within : (x i : ℕ) → x / 2 ^ i % 2 ≡ 1 → 2 ^ i ≤ x
power_within x i h =
    let a : 1 ≤ x / 2 ^ i = omega arith in
    let b : 1 * 2 ^ i ≤ x / 2 ^ i * 2 ^ i = mul-le-mul_right (2 ^ i) a in
    omega (arith, split x i)

-- a word less a bit that is set
pub taken_same : (x i : ℕ) → x / 2 ^ i % 2 ≡ 1 → (x - 2 ^ i) / 2 ^ i % 2 ≡ 0
taken_same x i h =
    let e : x - 2 ^ i + 2 ^ i ≡ x = omega (arith, power_within x i h) in
    let d : x / 2 ^ i ≡ (x - 2 ^ i) / 2 ^ i + 1 = ap (λ (y : ℕ). y / 2 ^ i) (sym e) ∙ add_pow_div (x - 2 ^ i) i in
    omega arith

pub taken_other : (x i j : ℕ) → x / 2 ^ i % 2 ≡ 1 → (j ≡ i → ⊥) → (x - 2 ^ i) / 2 ^ j % 2 ≡ x / 2 ^ j % 2
taken_other x i j h n =
    let e : x - 2 ^ i + 2 ^ i ≡ x = omega (arith, power_within x i h) in
    sym (subst (λ (y : ℕ). y / 2 ^ j % 2 ≡ (x - 2 ^ i) / 2 ^ j % 2) e (set_other (x - 2 ^ i) i j (taken_same x i h) n))

-- with an or, whatever the bit was
pub or_bit : (x i : ℕ) → bit_or x (2 ^ i) + x / 2 ^ i % 2 * 2 ^ i ≡ x + 2 ^ i
or_bit x i =
    let e : 2 ^ (1 + i) - 2 ^ i ≡ 2 ^ i = omega (arith, pow-add 2 1 i) in
    let a : bit_and x (2 ^ i) ≡ x / 2 ^ i % 2 * 2 ^ i = subst (λ (y : ℕ). bit_and x y ≡ x / 2 ^ i % 2 * 2 ^ i) e (and_high x 1 i) in
    subst (λ (y : ℕ). bit_or x (2 ^ i) + y ≡ x + 2 ^ i) a (or_add_and x (2 ^ i))
