-- One turn of each loop: what is left to do from the next place, or from the next word on, is what was left to do before. k
-- places are passed at once: one, or those of one word or of several. Assumes nothing.
use mathlib.Core.Bool.{Bool, true, false}
use mathlib.Core.List.{List}
use mathlib.Core.Logic.{⊎_elim}
use mathlib.Core.Path.{◌≡◌, refl, sym}
use Prim.Native.Nat.{ℕ, ◌+◌, ◌*◌, ◌-◌, ◌<◌, ◌≤◌, ◌/◌, ◌%◌, ◌^◌}
use native.Mathlib.Omega.{arith}
use lib.ListN.{length, get_or, set}
use Rattle.laws.proofs.Tests.{both, le_or_lt}
use Rattle.laws.specs.Pick.{pick}
use Rattle.marks.specs.Used.{used_at, mark_run, clear_run, set_place, set_run, free_run, full_run}
use Rattle.marks.proofs.Marks.{Words}
use Rattle.marks.proofs.Runs.{
  free_run_at,
  free_run_is,
  free_run_not,
  full_run_at,
  full_run_is,
  full_run_not,
  mark-word,
  clear-word,
  mark_run_split,
  clear_run_split,
  full-word-used,
  zero_word_unused,
  used-word-full,
}

-- each of the k places from p on is used, or each is unused
abbrev pub Each : List ℕ → ℕ → ℕ → Bool → Type 0
Each u p k b = (q : ℕ) → p ≤ q → q < p + k → used_at u q ≡ b

pub each_one : (u : List ℕ) (p : ℕ) {b : Bool} → used_at u p ≡ b → Each u p 1 b
each_one u p e q a l = let d : q ≡ p = omega arith in rw d e

pub full-word_each : (u : List ℕ) (p : ℕ) → p % 64 ≡ 0 → get_or u (p / 64) 0 ≡ 2 ^ 64 - 1 → Each u p 64 true
full-word_each u p z e q a l = let d : q / 64 ≡ p / 64 = omega arith in full-word-used u q (rw d e)

pub zero_word_each : (u : List ℕ) (p : ℕ) → p % 64 ≡ 0 → get_or u (p / 64) 0 ≡ 0 → Each u p 64 false
zero_word_each u p z e q a l = let d : q / 64 ≡ p / 64 = omega arith in zero_word_unused u q (rw d e)

-- each place of the words from k up to r is used
abbrev pub UsedWords : List ℕ → ℕ → ℕ → Type 0
UsedWords u k r = (q : ℕ) → k * 64 ≤ q → q < r * 64 → used_at u q ≡ true

pub used-words-next : (u : List ℕ) (k r w : ℕ) → UsedWords u k r → w ≡ r → get_or u w 0 ≡ 2 ^ 64 - 1 → UsedWords u k (r + 1)
used-words-next u k r w f s e q a l =
    ⊎_elim (λ m. let d : q / 64 ≡ w = omega arith in full-word-used u q (rw d e)) (λ m. f q a m) (le_or_lt (r * 64) q)

pub full-words_each : (u : List ℕ) (p r : ℕ) → p % 64 ≡ 0 → get_or u (p / 64) 0 ≡ 2 ^ 64 - 1 → UsedWords u (p / 64 + 1) r
    → Each u p (r * 64 - p) true
full-words_each u p r z e f q a l =
    ⊎_elim (λ m. f q (omega arith) (omega arith)) (λ m. full-word_each u p z e q a m) (le_or_lt (p + 64) q)

-- making the places from q up to e used, or unused
pub set-next : (b : Bool) (u : List ℕ) (q e : ℕ) → q < e → set_run b (set_place b u q) (q + 1) (e - (q + 1)) ≡ set_run b u q (e - q)
unfolding mark_run clear_run
set-next true u q e h = let d : e - q ≡ 1 + (e - (q + 1)) = omega arith in rw (d, mark_run_split u q 1 (e - (q + 1)))
set-next false u q e h = let d : e - q ≡ 1 + (e - (q + 1)) = omega arith in rw (d, clear_run_split u q 1 (e - (q + 1)))

pub set-next-word : (b : Bool) (u : List ℕ) (q e y : ℕ) → q % 64 ≡ 0 → 64 ≤ e - q → q / 64 < length u → Words u → y ≡ pick b (2 ^ 64 - 1) 0
    → set_run b (set u (q / 64) y) (q + 64) (e - (q + 64)) ≡ set_run b u q (e - q)
set-next-word true u q e y z h k w i =
    let d : e - q ≡ 64 + (e - (q + 64)) = omega arith in
    rw (i, d, mark_run_split u q 64 (e - (q + 64)), mark-word u q z k w)
set-next-word false u q e y z h k w i =
    let d : e - q ≡ 64 + (e - (q + 64)) = omega arith in
    rw (i, d, clear_run_split u q 64 (e - (q + 64)), clear-word u q z k w)

pub set-end : (b : Bool) (u : List ℕ) (q e : ℕ) → e ≤ q → u ≡ set_run b u q (e - q)
unfolding mark_run clear_run
set-end true u q e h = let d : e - q ≡ 0 = omega arith in rw d
set-end false u q e h = let d : e - q ≡ 0 = omega arith in rw d

-- two tests that hold together are the same
tests_agree : (b c : Bool) → (b ≡ true → c ≡ true) → (c ≡ true → b ≡ true) → b ≡ c
tests_agree true c f g = sym (f refl)
tests_agree false true f g = g refl
tests_agree false false f g = refl

-- are the places from q up to e all used
pub full-next : (u : List ℕ) (q e k : ℕ) → k ≤ e - q → Each u q k true → full_run u (q + k) (e - (q + k)) ≡ full_run u q (e - q)
full-next u q e k h f =
    tests_agree
    (full_run u (q + k) (e - (q + k)))
    (full_run u q (e - q))
    (λ v. full_run_is u q (e - q) (λ x a l. ⊎_elim (λ m. full_run_at u (q + k) (e - (q + k)) v x m (omega arith)) (λ m. f x a m) (le_or_lt (q + k) x)))
    (λ v. full_run_is u (q + k) (e - (q + k)) (λ x a l. full_run_at u q (e - q) v x (omega arith) (omega arith)))

pub full_not_word : (u : List ℕ) (q e : ℕ) → q % 64 ≡ 0 → 64 ≤ e - q → Words u
    → (get_or u (q / 64) 0 ≡ 2 ^ 64 - 1 → ⊥)
    → false ≡ full_run u q (e - q)
full_not_word u q e z h w n =
    both (full_run u q (e - q))
    (λ v. absurd (n (used-word-full u q z w (full_run_is u q 64 (λ x a l. full_run_at u q (e - q) v x a (omega arith))))))
    (λ v. sym v)

pub full_not_here : (u : List ℕ) (q e : ℕ) → q < e → used_at u q ≡ false → false ≡ full_run u q (e - q)
full_not_here u q e h t = sym (full_run_not u q (e - q) q (omega arith) (omega arith) t)

pub full-end : (u : List ℕ) (q e : ℕ) → e ≤ q → true ≡ full_run u q (e - q)
full-end u q e h = sym (full_run_is u q (e - q) (λ x a l. absurd (omega arith)))

-- all before i are used, and then all before i + k
pub used-next : (u : List ℕ) (from i k : ℕ) → ((j : ℕ) → j < i → used_at u (from + j) ≡ true) → Each u (from + i) k true
    → (j : ℕ) → j < i + k → used_at u (from + j) ≡ true
used-next u from i k g f j l = ⊎_elim (λ m. f (from + j) (omega arith) (omega arith)) (λ m. g j m) (le_or_lt i j)

-- g places from p on are unused, and then g + k
pub free_next : (u : List ℕ) (p g k : ℕ) → free_run u p g ≡ true → Each u (p + g) k false → free_run u p (g + k) ≡ true
free_next u p g k t f =
    free_run_is u p (g + k) (λ q a l. ⊎_elim (λ m. f q m (omega arith)) (λ m. free_run_at u p g t q a m) (le_or_lt (p + g) q))

-- no run of l starts where a place is used, nor so near before it that it would hold that place
pub starts_used : (u : List ℕ) (from l s : ℕ) → 1 ≤ l → ((j : ℕ) → j < s → used_at u (from + j) ≡ true)
    → (j : ℕ) → j < s → free_run u (from + j) l ≡ false
starts_used u from l s h f j a = free_run_not u (from + j) l (from + j) (omega arith) (omega arith) (f j a)

pub starts_next : (u : List ℕ) (from l s g k : ℕ) → g < l → 1 ≤ k → ((j : ℕ) → j < s → free_run u (from + j) l ≡ false)
    → Each u (from + s + g) k true
    → (j : ℕ) → j < s + g + k → free_run u (from + j) l ≡ false
starts_next u from l s g k h o e f j a =
    ⊎_elim
    (λ m.
    ⊎_elim
    (λ v. free_run_not u (from + j) l (from + s + g) (omega arith) (omega arith) (f (from + s + g) (omega arith) (omega arith)))
    (λ v. free_run_not u (from + j) l (from + j) (omega arith) (omega arith) (f (from + j) (omega arith) (omega arith)))
    (le_or_lt j (s + g)))
    (λ m. e j m)
    (le_or_lt s j)
