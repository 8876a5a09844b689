-- The height of a built tree (document 01, "From key to slot": "H = 1 for n <= 4, else 1 + H(ceil(n/3)). H(16,384) = 9."): the
-- two sentences as equations, that more keys never make it less, and its value at the most keys. Assumes nothing.
use mathlib.Core.Path.{◌≡◌, refl}
use Prim.Native.Nat.{ℕ, zero, suc, ◌+◌, ◌<◌, ◌≤◌}
use native.Mathlib.Omega.{arith}
use borrow.Author.Tests.{leb-true, leb-false, le-leb, lt-leb}
use lib.Dec.{leb}
use Rattle.laws.proofs.Tests.{both}
use Rattle.model.specs.Height.{third, height_by, height}

-- fuel beyond n does not matter
pub height_enough : (f g n : ℕ) → n ≤ f → n ≤ g → height_by f n ≡ height_by g n
unfolding height_by
height_enough zero zero n a b = refl
height_enough zero (suc g) n a b = rw (le-leb n 4 (omega arith))
height_enough (suc f) zero n a b = rw (le-leb n 4 (omega arith))
height_enough (suc f) (suc g) n a b =
    both (leb n 4)
    (λ e. rw e)
    (λ e. let lt : 4 < n = leb-false n 4 e in rw (e, height_enough f g (third n) (omega arith) (omega arith)))

height_by_small : (f n : ℕ) → n ≤ 4 → height_by f n ≡ 1
unfolding height_by
height_by_small zero n h = refl
height_by_small (suc f) n h = rw (le-leb n 4 h)

pub height_small : (n : ℕ) → n ≤ 4 → height n ≡ 1
unfolding height
height_small n h = height_by_small n n h

pub height-step : (n : ℕ) → 4 < n → height n ≡ 1 + height (third n)
unfolding height height_by
height-step zero h = absurd (omega arith)
height-step (suc n) h = rw (lt-leb (suc n) 4 h, height_enough n (third (suc n)) (third (suc n)) (omega arith) (omega arith))

height_by_positive : (f n : ℕ) → 1 ≤ height_by f n
unfolding height_by
height_by_positive zero n = omega arith
height_by_positive (suc f) n = both (leb n 4) (λ e. rw e (omega arith)) (λ e. rw e (omega arith))

pub height_positive : (n : ℕ) → 1 ≤ height n
unfolding height
height_positive n = height_by_positive n n

height_by-rises : (f n m : ℕ) → n ≤ m → height_by f n ≤ height_by f m
unfolding height_by
height_by-rises zero n m h = omega arith
height_by-rises (suc f) n m h =
    both (leb m 4)
    (λ e. let le : m ≤ 4 = leb-true m 4 e in rw (e, le-leb n 4 (omega arith)) (omega arith))
    (λ e.
    both (leb n 4)
    (λ d. rw (e, d) (omega arith))
    (λ d. let ih : height_by f (third n) ≤ height_by f (third m) = height_by-rises f (third n) (third m) (omega arith) in rw (e, d) (omega arith)))

pub height-rises : (n m : ℕ) → n ≤ m → height n ≤ height m
unfolding height
height-rises n m h = rw (height_enough n m n (omega arith) h) (height_by-rises m n m h)

-- samples: the ends of the first heights, the most keys, and far beyond
height-0 : height 0 ≡ 1
unfolding height height_by
height-0 = refl

height-1 : height 1 ≡ 1
unfolding height height_by
height-1 = refl

height-4 : height 4 ≡ 1
unfolding height height_by
height-4 = refl

height-5 : height 5 ≡ 2
unfolding height height_by
height-5 = refl

height-12 : height 12 ≡ 2
unfolding height height_by
height-12 = refl

height_13 : height 13 ≡ 3
unfolding height height_by
height_13 = refl

-- "H(16,384) = 9"
pub height-most : height 16384 ≡ 9
unfolding height height_by
height-most = refl

height_65536 : height 65536 ≡ 10
unfolding height height_by
height_65536 = refl

pub height-within : (n : ℕ) → n ≤ 16384 → height n ≤ 9
height-within n h = rw height-most at (height-rises n 16384 h)
