-- The first unused place and the lowest unused run: what each search finds, and that what it finds is determined by that.
-- Assumes nothing.
use mathlib.Core.Bool.{true, false}
use mathlib.Core.List.{List}
use mathlib.Core.Logic.{⊎_elim}
use mathlib.Core.Path.{◌≡◌, refl, sym, subst, ◌∙◌}
use Prim.Native.Nat.{ℕ, zero, suc, ◌+◌, ◌-◌, ◌<◌, ◌≤◌}
use native.Mathlib.Omega.{arith}
use Rattle.std.specs.Prelude.{Option, None, Some}
use Rattle.laws.proofs.Tests.{both, le_or_lt, true_not_false}
use Rattle.marks.specs.Used.{used_at, free_run, first_from, first_unused, lowest_from, lowest_run}
use Rattle.marks.proofs.Runs.{here_or_after, free_run_not}

-- of the f places from a on
first_from_at : (u : List ℕ) (from f a : ℕ)
    → (a ≤ first_from u from f a)
    × (first_from u from f a ≤ a + f)
    × ((j : ℕ) → a ≤ j → j < first_from u from f a → used_at u (from + j) ≡ true)
    × (first_from u from f a < a + f → used_at u (from + first_from u from f a) ≡ false)
unfolding first_from
first_from_at u from zero a = (omega arith, omega arith, (λ j h l. absurd (omega arith)), (λ l. absurd (omega arith)))
first_from_at u from (suc f) a =
    let ih = first_from_at u from f (a + 1) in
    both (used_at u (from + a))
    (λ e. rw e (
      omega (arith, ih.0),
      omega (arith, ih.1),
      (λ j h l. here_or_after (λ (x : ℕ). used_at u (from + x) ≡ true) h e (λ k. ih.2 j (omega arith) l)),
      (λ l. ih.3 (omega arith)),
    ))
    (λ e. rw e (omega arith, omega arith, (λ j h l. absurd (omega arith)), (λ l. e)))

-- all places before the first unused one are used, and it is not, if it is one of the n; this determines it
pub first_unused_at : (u : List ℕ) (from n s : ℕ) → first_unused u from n ≡ s
    → (s ≤ n) × ((j : ℕ) → j < s → used_at u (from + j) ≡ true) × (s < n → used_at u (from + s) ≡ false)
unfolding first_unused
first_unused_at u from n s e =
    let h = first_from_at u from n 0 in
    rw (sym e) (omega (arith, h.1), (λ j l. h.2 j (omega arith) l), (λ l. h.3 (omega arith)))

pub first_unused_is : (u : List ℕ) (from n s : ℕ) → s ≤ n → ((j : ℕ) → j < s → used_at u (from + j) ≡ true)
    → (s < n → used_at u (from + s) ≡ false)
    → first_unused u from n ≡ s
first_unused_is u from n s h f e =
    let r = first_unused_at u from n (first_unused u from n) refl in
    ⊎_elim
    (λ a.
    ⊎_elim
    (λ b. omega arith)
    (λ b. absurd (true_not_false (sym (r.1 s b) ∙ e (omega (arith, r.0)))))
    (le_or_lt (first_unused u from n) s))
    (λ a. absurd (true_not_false (sym (f (first_unused u from n) a) ∙ r.2 (omega arith))))
    (le_or_lt s (first_unused u from n))

-- of the f starts from a on
lowest_from_finds : (u : List ℕ) (from l f a s : ℕ) → lowest_from u from l f a ≡ Some s
    → (s < a + f) × (free_run u (from + s) l ≡ true) × ((j : ℕ) → a ≤ j → j < s → free_run u (from + j) l ≡ false)
unfolding lowest_from
lowest_from_finds u from l zero a s e = let z : ◌≡◌ {A = ℕ} 0 1 = cc in absurd (omega arith)
lowest_from_finds u from l (suc f) a s e =
    both (free_run u (from + a) l)
    (λ t.
    let d : Some a ≡ Some s = rw t at e in
    let q : a ≡ s = cc in
    (omega arith, subst (λ (x : ℕ). free_run u (from + x) l ≡ true) q t, (λ j h k. absurd (omega arith))))
    (λ t.
    let ih = lowest_from_finds u from l f (a + 1) s (rw t at e) in (
      omega (arith, ih.0),
      ih.1,
      (λ j h k. here_or_after (λ (x : ℕ). free_run u (from + x) l ≡ false) h t (λ m. ih.2 j (omega arith) k)),
    ))

lowest_from-none : (u : List ℕ) (from l f a : ℕ) → lowest_from u from l f a ≡ None
    → (j : ℕ) → a ≤ j → j < a + f → free_run u (from + j) l ≡ false
unfolding lowest_from
lowest_from-none u from l zero a e j h k = absurd (omega arith)
lowest_from-none u from l (suc f) a e j h k =
    both (free_run u (from + a) l)
    (λ t.
    let d : Some a ≡ None = rw t at e in
    let z : ◌≡◌ {A = ℕ} 0 1 = cc in
    absurd (omega arith))
    (λ t.
    here_or_after (λ (x : ℕ). free_run u (from + x) l ≡ false) h t (λ m.
    lowest_from-none u from l f (a + 1) (rw t at e) j (omega arith) (omega arith)))

module _ (u : List ℕ) (from n l : ℕ) where
  -- the run found is the lowest; none is found only where there is none
  pub lowest_run_finds : (s : ℕ) → lowest_run u from n l ≡ Some s
      → (s + l ≤ n) × (free_run u (from + s) l ≡ true) × ((j : ℕ) → j < s → free_run u (from + j) l ≡ false)
  unfolding lowest_run
  lowest_run_finds s e =
      let h = lowest_from_finds u from l (n + 1 - l) 0 s e in
      (omega (arith, h.0), h.1, (λ j k. h.2 j (omega arith) k))

  pub lowest_run-none : lowest_run u from n l ≡ None → (j : ℕ) → j + l ≤ n → free_run u (from + j) l ≡ false
  unfolding lowest_run
  lowest_run-none e j h = lowest_from-none u from l (n + 1 - l) 0 e j (omega arith) (omega arith)

  -- and this determines it
  here_of : (s : ℕ) → s + l ≤ n → free_run u (from + s) l ≡ true → ((j : ℕ) → j < s → free_run u (from + j) l ≡ false)
      → (w : Option ℕ) → lowest_run u from n l ≡ w → w ≡ Some s
  here_of s h e g (Some t) d =
      let r = lowest_run_finds t d in
      ⊎_elim
      (λ a.
      ⊎_elim
      (λ b. let q : t ≡ s = omega arith in rw q)
      (λ b. absurd (true_not_false (sym e ∙ r.2 s b)))
      (le_or_lt t s))
      (λ a. absurd (true_not_false (sym r.1 ∙ g t a)))
      (le_or_lt s t)
  here_of s h e g None d = absurd (true_not_false (sym e ∙ lowest_run-none d s h))

  nowhere_of : ((j : ℕ) → j + l ≤ n → free_run u (from + j) l ≡ false) → (w : Option ℕ) → lowest_run u from n l ≡ w → w ≡ None
  nowhere_of g (Some t) d = let r = lowest_run_finds t d in absurd (true_not_false (sym r.1 ∙ g t r.0))
  nowhere_of g None d = refl

  pub lowest_run_here : (s : ℕ) → s + l ≤ n → free_run u (from + s) l ≡ true → ((j : ℕ) → j < s → free_run u (from + j) l ≡ false)
      → lowest_run u from n l ≡ Some s
  lowest_run_here s h e g = here_of s h e g (lowest_run u from n l) refl

  pub lowest_run-nowhere : ((j : ℕ) → j + l ≤ n → free_run u (from + j) l ≡ false) → lowest_run u from n l ≡ None
  lowest_run-nowhere g = nowhere_of g (lowest_run u from n l) refl

  -- where every place is used there is no run
  pub lowest_run-full : 1 ≤ l → n ≤ first_unused u from n → lowest_run u from n l ≡ None
  lowest_run-full h e =
      let all = (first_unused_at u from n (first_unused u from n) refl).1 in
      lowest_run-nowhere (λ j k. free_run_not u (from + j) l (from + j) (omega arith) (omega arith) (all j (omega arith)))
