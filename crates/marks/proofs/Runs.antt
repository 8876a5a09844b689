-- Runs of places: what marking and clearing a run does to each place, that a run is unused or wholly used just when each of its
-- places is, and that 64 places from a word's start are one word. Marking and clearing are two cases of one law, over the step
-- made at each place. Assumes nothing.
use mathlib.Core.Bool.{Bool, true, false}
use mathlib.Core.List.{List}
use mathlib.Core.Logic.{◌⊎◌, inl, inr, ⊎_elim}
use mathlib.Core.Path.{◌≡◌, refl, sym, subst, ◌∙◌}
use Prim.Native.Nat.{ℕ, zero, suc, ◌+◌, ◌-◌, ◌<◌, ◌≤◌, ◌/◌, ◌%◌, ◌^◌}
use native.Mathlib.Nat.{zero-div, add-zero}
use native.Mathlib.Omega.{arith}
use borrow.Author.Tests.{eqb-true, eqb-false}
use lib.Dec.{eqb}
use lib.ListN.{length, get_or, set, length-set}
use lib.Seq.{get_or-set_same, get_or-set_other}
use Rattle.laws.proofs.Tests.{both, le_or_lt, true_not_false}
use Rattle.marks.specs.Used.{used_at, mark_at, clear_at, mark_run, clear_run, free_run, full_run}
use Rattle.marks.proofs.Marks.{
  Words,
  used_ext,
  used-one,
  one-used,
  zero_unused,
  past_unused,
  same-bit-used,
  store_words,
  mark-same,
  mark-other,
  mark-length,
  mark-words,
  clear-same,
  clear-other,
  clear-length,
  clear-words,
}
use Rattle.std.proofs.lemmas.Nat.Bits.{bit_at_ones, same_from_bits_below}

-- what making one place b does
pub record Step (step : List ℕ → ℕ → List ℕ) (b : Bool) : Type 0 where
  pub same : (u : List ℕ) (p : ℕ) → p / 64 < length u → used_at (step u p) p ≡ b
  pub other : (u : List ℕ) (p q : ℕ) → (q ≡ p → ⊥) → used_at (step u p) q ≡ used_at u q
  pub long : (u : List ℕ) (p : ℕ) → length (step u p) ≡ length u
  pub words : (u : List ℕ) (p : ℕ) → Words u → Words (step u p)

marking : Step mark_at true
marking = record { same = mark-same; other = mark-other; long = mark-length; words = mark-words }

clearing : Step clear_at false
clearing = record { same = λ u p h. clear-same u p; other = clear-other; long = clear-length; words = clear-words }

-- the step at each of n places
abbrev over : (List ℕ → ℕ → List ℕ) → List ℕ → ℕ → ℕ → List ℕ
over step u p zero = u
over step u p (suc n) = over step (step u p) (p + 1) n

module _ {step : List ℕ → ℕ → List ℕ} {b : Bool} (S : Step step b) where
  over_length : (u : List ℕ) (p n : ℕ) → length (over step u p n) ≡ length u
  over_length u p zero = refl
  over_length u p (suc n) = over_length (step u p) (p + 1) n ∙ S.long u p

  over_words : (u : List ℕ) (p n : ℕ) → Words u → Words (over step u p n)
  over_words u p zero w = w
  over_words u p (suc n) w = over_words (step u p) (p + 1) n (S.words u p w)

  over_out : (u : List ℕ) (p n q : ℕ) → (q < p) ⊎ (p + n ≤ q) → used_at (over step u p n) q ≡ used_at u q
  over_out u p zero q o = refl
  over_out u p (suc n) q o =
      over_out (step u p) (p + 1) n q (⊎_elim (λ a. inl (omega arith)) (λ a. inr (omega arith)) o)
      ∙ S.other u p q (⊎_elim (λ a e. omega arith) (λ a e. omega arith) o)

  over_in : (u : List ℕ) (p n q : ℕ) → p ≤ q → q < p + n → q / 64 < length u → used_at (over step u p n) q ≡ b
  over_in u p zero q a l h = absurd (omega arith)
  over_in u p (suc n) q a l h =
      both (eqb q p)
      (λ t.
      let d : q ≡ p = eqb-true _ _ t in
      over_out (step u p) (p + 1) n q (inl (omega arith)) ∙ rw d (S.same u p (omega arith)))
      (λ t.
      let d : q ≡ p → ⊥ = eqb-false _ _ t in
      over_in (step u p) (p + 1) n q (omega arith) (omega arith) (rw (S.long u p) h))

  over_split : (u : List ℕ) (p n m : ℕ) → over step u p (n + m) ≡ over step (over step u p n) (p + n) m
  over_split u p zero m = let e : zero + m ≡ m = omega arith in rw (e, add-zero)
  over_split u p (suc n) m =
      let e : suc n + m ≡ suc (n + m) = omega arith in
      let d : p + suc n ≡ p + 1 + n = omega arith in
      rw (e, d) (over_split (step u p) (p + 1) n m)

  -- 64 places from a word's start are that word, if each of the word's bits is b
  over_word : (y : ℕ) → y < 2 ^ 64 → ((v : List ℕ) (q : ℕ) → get_or v (q / 64) 0 ≡ y → used_at v q ≡ b)
      → (u : List ℕ) (p : ℕ) → p % 64 ≡ 0 → p / 64 < length u → Words u → over step u p 64 ≡ set u (p / 64) y
  over_word y f bits u p z h w =
      used_ext
      (over step u p 64)
      (set u (p / 64) y)
      (over_length u p 64 ∙ sym (length-set u (p / 64) y))
      (over_words u p 64 w)
      (store_words u (p / 64) y w f)
      (λ q.
      both (eqb (q / 64) (p / 64))
      (λ t.
      let d : q / 64 ≡ p / 64 = eqb-true _ _ t in
      over_in u p 64 q (omega arith) (omega arith) (omega arith) ∙ sym (bits (set u (p / 64) y) q (rw (d, get_or-set_same u (p / 64) y 0 h))))
      (λ t.
      let d : q / 64 ≡ p / 64 → ⊥ = eqb-false _ _ t in
      over_out u p 64 q (⊎_elim (λ a. inr (omega arith)) (λ a. inl a) (le_or_lt p q))
      ∙ sym (same-bit-used (set u (p / 64) y) u q (rw (get_or-set_other u (p / 64) (q / 64) y 0 d)))))

mark_over : (u : List ℕ) (p n : ℕ) → mark_run u p n ≡ over mark_at u p n
unfolding mark_run
mark_over u p zero = refl
mark_over u p (suc n) = mark_over (mark_at u p) (p + 1) n

clear_over : (u : List ℕ) (p n : ℕ) → clear_run u p n ≡ over clear_at u p n
unfolding clear_run
clear_over u p zero = refl
clear_over u p (suc n) = clear_over (clear_at u p) (p + 1) n

module _ (u : List ℕ) (p n : ℕ) where
  pub mark_run-length : length (mark_run u p n) ≡ length u
  mark_run-length = rw (mark_over u p n) (over_length marking u p n)

  pub clear_run-length : length (clear_run u p n) ≡ length u
  clear_run-length = rw (clear_over u p n) (over_length clearing u p n)

  pub mark_run-words : Words u → Words (mark_run u p n)
  mark_run-words w = rw (mark_over u p n) (over_words marking u p n w)

  pub clear_run-words : Words u → Words (clear_run u p n)
  clear_run-words w = rw (clear_over u p n) (over_words clearing u p n w)

  pub mark_run_in : (q : ℕ) → p ≤ q → q < p + n → q / 64 < length u → used_at (mark_run u p n) q ≡ true
  mark_run_in q a l h = rw (mark_over u p n) (over_in marking u p n q a l h)

  pub mark_run-out : (q : ℕ) → (q < p) ⊎ (p + n ≤ q) → used_at (mark_run u p n) q ≡ used_at u q
  mark_run-out q o = rw (mark_over u p n) (over_out marking u p n q o)

  pub clear_run_in : (q : ℕ) → p ≤ q → q < p + n → used_at (clear_run u p n) q ≡ false
  clear_run_in q a l =
      ⊎_elim
      (λ h. past_unused (clear_run u p n) q (rw clear_run-length h))
      (λ h. rw (clear_over u p n) (over_in clearing u p n q a l h))
      (le_or_lt (length u) (q / 64))

  pub clear_run-out : (q : ℕ) → (q < p) ⊎ (p + n ≤ q) → used_at (clear_run u p n) q ≡ used_at u q
  clear_run-out q o = rw (clear_over u p n) (over_out clearing u p n q o)

-- what holds at a place, and after it, holds from it on
pub here_or_after : (P : ℕ → Type 0) {a j : ℕ} → a ≤ j → P a → (a < j → P j) → P j
here_or_after P {a} {j} h x f =
    both (eqb a j) (λ t. subst P (eqb-true a j t) x) (λ t. let d : a ≡ j → ⊥ = eqb-false a j t in f (omega arith))

-- a run is unused just when each of its places is
pub free_run_at : (u : List ℕ) (p n : ℕ) → free_run u p n ≡ true → (q : ℕ) → p ≤ q → q < p + n → used_at u q ≡ false
unfolding free_run
free_run_at u p zero h q a l = absurd (omega arith)
free_run_at u p (suc n) h q a l =
    both (used_at u p)
    (λ e. absurd (true_not_false (sym (rw e at h))))
    (λ e. here_or_after (λ (x : ℕ). used_at u x ≡ false) a e (λ k. free_run_at u (p + 1) n (rw e at h) q (omega arith) (omega arith)))

pub free_run_is : (u : List ℕ) (p n : ℕ) → ((q : ℕ) → p ≤ q → q < p + n → used_at u q ≡ false) → free_run u p n ≡ true
unfolding free_run
free_run_is u p zero f = refl
free_run_is u p (suc n) f =
    let e : used_at u p ≡ false = f p (omega arith) (omega arith) in
    rw e (free_run_is u (p + 1) n (λ q a l. f q (omega arith) (omega arith)))

-- a run is wholly used just when each of its places is
pub full_run_at : (u : List ℕ) (p n : ℕ) → full_run u p n ≡ true → (q : ℕ) → p ≤ q → q < p + n → used_at u q ≡ true
unfolding full_run
full_run_at u p zero h q a l = absurd (omega arith)
full_run_at u p (suc n) h q a l =
    both (used_at u p)
    (λ e. here_or_after (λ (x : ℕ). used_at u x ≡ true) a e (λ k. full_run_at u (p + 1) n (rw e at h) q (omega arith) (omega arith)))
    (λ e. absurd (true_not_false (sym (rw e at h))))

pub full_run_is : (u : List ℕ) (p n : ℕ) → ((q : ℕ) → p ≤ q → q < p + n → used_at u q ≡ true) → full_run u p n ≡ true
unfolding full_run
full_run_is u p zero f = refl
full_run_is u p (suc n) f =
    let e : used_at u p ≡ true = f p (omega arith) (omega arith) in
    rw e (full_run_is u (p + 1) n (λ q a l. f q (omega arith) (omega arith)))

-- one place decides against a run
pub free_run_not : (u : List ℕ) (p n q : ℕ) → p ≤ q → q < p + n → used_at u q ≡ true → free_run u p n ≡ false
free_run_not u p n q a l e = both (free_run u p n) (λ h. absurd (true_not_false (sym e ∙ free_run_at u p n h q a l))) (λ h. h)

pub full_run_not : (u : List ℕ) (p n q : ℕ) → p ≤ q → q < p + n → used_at u q ≡ false → full_run u p n ≡ false
full_run_not u p n q a l e = both (full_run u p n) (λ h. absurd (true_not_false (sym (full_run_at u p n h q a l) ∙ e))) (λ h. h)

-- marks made and undone leave the map as it was
pub clear-mark_run : (u : List ℕ) (p n : ℕ) → free_run u p n ≡ true → Words u → clear_run (mark_run u p n) p n ≡ u
clear-mark_run u p n f w =
    used_ext
    (clear_run (mark_run u p n) p n)
    u
    (clear_run-length (mark_run u p n) p n ∙ mark_run-length u p n)
    (clear_run-words (mark_run u p n) p n (mark_run-words u p n w))
    w
    (λ q.
    ⊎_elim
    (λ a.
    ⊎_elim
    (λ l. clear_run-out (mark_run u p n) p n q (inr l) ∙ mark_run-out u p n q (inr l))
    (λ l. clear_run_in (mark_run u p n) p n q a l ∙ sym (free_run_at u p n f q a l))
    (le_or_lt (p + n) q))
    (λ a. clear_run-out (mark_run u p n) p n q (inl a) ∙ mark_run-out u p n q (inl a))
    (le_or_lt p q))

-- a word that is full, and one that is 0
pub full-word-used : (u : List ℕ) (q : ℕ) → get_or u (q / 64) 0 ≡ 2 ^ 64 - 1 → used_at u q ≡ true
full-word-used u q e = one-used u q (rw e (bit_at_ones 64 (q % 64) (omega arith)))

pub zero_word_unused : (u : List ℕ) (q : ℕ) → get_or u (q / 64) 0 ≡ 0 → used_at u q ≡ false
zero_word_unused u q e = zero_unused u q (rw (e, zero-div (2 ^ (q % 64))))

-- a word whose 64 places are used is full
pub used-word-full : (u : List ℕ) (p : ℕ) → p % 64 ≡ 0 → Words u → full_run u p 64 ≡ true → get_or u (p / 64) 0 ≡ 2 ^ 64 - 1
used-word-full u p z w f =
    same_from_bits_below 64 (get_or u (p / 64) 0) (2 ^ 64 - 1) (w (p / 64)) (omega arith) (λ j l.
    let a : (p + j) / 64 ≡ p / 64 = omega arith in
    let b : (p + j) % 64 ≡ j = omega arith in
    (rw (a, b) at (used-one u (p + j) (full_run_at u p 64 f (p + j) (omega arith) (omega arith)))) ∙ sym (bit_at_ones 64 j l))

-- a run of 64 places from a word's start is stored as one word
pub mark-word : (u : List ℕ) (p : ℕ) → p % 64 ≡ 0 → p / 64 < length u → Words u → mark_run u p 64 ≡ set u (p / 64) (2 ^ 64 - 1)
mark-word u p z h w = rw (mark_over u p 64) (over_word marking (2 ^ 64 - 1) (omega arith) full-word-used u p z h w)

pub clear-word : (u : List ℕ) (p : ℕ) → p % 64 ≡ 0 → p / 64 < length u → Words u → clear_run u p 64 ≡ set u (p / 64) 0
clear-word u p z h w = rw (clear_over u p 64) (over_word clearing 0 (omega arith) zero_word_unused u p z h w)

pub mark_run_split : (u : List ℕ) (p n m : ℕ) → mark_run u p (n + m) ≡ mark_run (mark_run u p n) (p + n) m
mark_run_split u p n m = rw (mark_over u p (n + m), mark_over u p n, mark_over (over mark_at u p n) (p + n) m) (over_split marking u p n m)

pub clear_run_split : (u : List ℕ) (p n m : ℕ) → clear_run u p (n + m) ≡ clear_run (clear_run u p n) (p + n) m
clear_run_split u p n m = rw (clear_over u p (n + m), clear_over u p n, clear_over (over clear_at u p n) (p + n) m) (over_split clearing u p n m)
