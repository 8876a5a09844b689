-- Decimals: one digit more, how many there are, and that they read back as the number. Assumes nothing.
use mathlib.Core.List.{List, [], ◌∷◌, ◌++◌}
use mathlib.Core.Path.{◌≡◌, refl, sym, ap, ◌∙◌}
use Prim.Native.Nat.{ℕ, zero, suc, ◌+◌, ◌*◌, ◌-◌, ◌/◌, ◌%◌, ◌^◌, ◌<◌, ◌≤◌}
use native.Mathlib.Omega.{arith}
use lib.ListN.{length, length-append}
use borrow.Author.Tests.{lt-ltb, le-ltb}
use mathlib.Core.Logic.{⊎_elim}
use Rattle.laws.proofs.Tests.{le_or_lt}
use Rattle.lines.specs.Lines.{digit, digits, decimal}

digits-below : (f n : ℕ) → n < 10 → digits (suc f) n ≡ digit n ∷ []
unfolding digits
digits-below f n h = rw (lt-ltb n 10 h)

digits_above : (f n : ℕ) → 10 ≤ n → digits (suc f) n ≡ digits f (n / 10) ++ (digit (n % 10) ∷ [])
unfolding digits
digits_above f n h = rw (le-ltb n 10 h)

-- room for more digits than there are changes nothing
enough : (f g n : ℕ) → n < f → n < g → digits f n ≡ digits g n
enough zero g n h k = absurd (omega arith)
enough (suc f) zero n h k = absurd (omega arith)
enough (suc f) (suc g) n h k =
    ⊎_elim
    (λ (a : 10 ≤ n).
    let e : digits f (n / 10) ≡ digits g (n / 10) = enough f g (n / 10) (omega arith) (omega arith) in
    digits_above f n a ∙ ap (λ (l : List ℕ). l ++ (digit (n % 10) ∷ [])) e ∙ sym (digits_above g n a))
    (λ (b : n < 10). digits-below f n b ∙ sym (digits-below g n b))
    (le_or_lt 10 n)

pub decimal-below : (n : ℕ) → n < 10 → decimal n ≡ digit n ∷ []
unfolding decimal
decimal-below n h = digits-below n n h

pub decimal-above : (n : ℕ) → 10 ≤ n → decimal n ≡ decimal (n / 10) ++ (digit (n % 10) ∷ [])
unfolding decimal
decimal-above n h =
    digits_above n n h ∙ ap (λ (l : List ℕ). l ++ (digit (n % 10) ∷ [])) (enough n (suc (n / 10)) (n / 10) (omega arith) (omega arith))

-- one digit, and one digit more
pub decimal_one : (n : ℕ) → n < 10 → length (decimal n) ≡ 1
decimal_one n h = rw (decimal-below n h)

pub decimal_longer : (n : ℕ) → 10 ≤ n → length (decimal n) ≡ length (decimal (n / 10)) + 1
decimal_longer n h = rw (decimal-above n h, length-append (decimal (n / 10)) (digit (n % 10) ∷ []))

-- a number below 10 to the k has at most k digits
pub decimal-length : (k n : ℕ) → n < 10 ^ suc k → length (decimal n) ≤ suc k
decimal-length zero n h = rw (decimal-below n (omega arith)) (omega arith)
decimal-length (suc k) n h =
    ⊎_elim
    (λ (a : 10 ≤ n).
    let e : length (decimal (n / 10)) ≤ suc k = decimal-length k (n / 10) (omega arith) in
    rw (decimal-above n a, length-append (decimal (n / 10)) (digit (n % 10) ∷ [])) (omega arith))
    (λ (b : n < 10). rw (decimal-below n b) (omega arith))
    (le_or_lt 10 n)

-- a number of 64 bits
pub decimal_fits : (n : ℕ) → n < 2 ^ 64 → length (decimal n) ≤ 20
decimal_fits n h = decimal-length 19 n (omega arith)

-- the number that digits say, after v
abbrev said : ℕ → List ℕ → ℕ
said v [] = v
said v (d ∷ ds) = said (v * 10 + (d - 48)) ds

said_more : (v : ℕ) (a b : List ℕ) → said v (a ++ b) ≡ said (said v a) b
said_more v [] b = refl
said_more v (d ∷ a) b = said_more (v * 10 + (d - 48)) a b

reads_back : (f n : ℕ) → n < f → said 0 (digits f n) ≡ n
reads_back zero n h = absurd (omega arith)
reads_back (suc f) n h =
    ⊎_elim
    (λ (a : 10 ≤ n).
    let e : said 0 (digits f (n / 10)) ≡ n / 10 = reads_back f (n / 10) (omega arith) in
    rw (digits_above f n a, said_more 0 (digits f (n / 10)) (digit (n % 10) ∷ []), e) (omega arith))
    (λ (b : n < 10). rw (digits-below f n b) (omega arith))
    (le_or_lt 10 n)

pub decimal-reads_back : (n : ℕ) → said 0 (decimal n) ≡ n
unfolding decimal
decimal-reads_back n = reads_back (suc n) n (omega arith)
