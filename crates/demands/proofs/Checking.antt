-- That memory says what a tree says, by computation: both are compared at the places below a bound, word by word, and say nothing past
-- it. Assumes nothing.
use mathlib.Core.Bool.{Bool, true, false, ◌&&◌}
use mathlib.Core.Logic.{⊎_elim}
use mathlib.Core.Path.{◌≡◌, refl, sym, subst, ap, ◌∙◌}
use native.Mathlib.Nat.{zero-div}
use native.Mathlib.Omega.{arith}
use Prim.Native.Nat.{ℕ, zero, suc, ◌+◌, ◌*◌, ◌-◌, ◌<◌, ◌≤◌, ◌/◌, ◌%◌, ◌^◌, max}
use lib.Dec.{eqb, ltb}
use lib.ListN.{length, get_or-eq_default}
use borrow.Author.Tests.{eqb-true, le-ltb}
use Rattle.laws.proofs.Tests.{both, and_both, le_or_lt}
use Rattle.laws.specs.Pick.{pick}
use Rattle.pool.specs.Memory.{Mem, record_words, slot_words}
use Rattle.demands.specs.Placed.{Branch, null, leaf, sub, Forest, nil, cons, len, Cell, empty, data1, child, node, cell_of, head_words, cell_words, Word, bit, in_node, in_slot, cell_w, at, in_b, in_f, view}
use Rattle.demands.proofs.Plugs.{at_other}
use Rattle.demands.proofs.Walking.{node-past, slot-past}

-- a test that holds for every number below n
abbrev all_below : (ℕ → Bool) → ℕ → Bool
all_below test zero = true
all_below test (suc n) = test n && all_below test n

all_at : (test : ℕ → Bool) (n : ℕ) → all_below test n ≡ true → (i : ℕ) → i < n → test i ≡ true
all_at test zero e i l = absurd (no l)
  where
    no : i < 0 → ⊥
    no h = omega arith
all_at test (suc n) e i l =
    let a = and_both (test n) _ e in
    ⊎_elim (λ h. let s : n ≡ i = omega arith in subst (λ (j : ℕ). test j ≡ true) s a.0) (λ h. all_at test n a.1 i h) (le_or_lt n i)

-- memory with R records says what the tree says: of one word of a place, of all words of a place, at every place below n
module _ (R : ℕ) (m : Mem) (t : Branch) where
  abbrev pub says : ℕ → Word → Bool
  says x w = eqb (view R m x w) (in_b R (cell_w w) x t)

  abbrev pub says_all : ℕ → Bool
  says_all x = says x bit && (all_below (λ i. says x (in_node i)) record_words && all_below (λ i. says x (in_slot i)) slot_words)

  abbrev pub says_below : ℕ → Bool
  says_below n = all_below says_all n

same_way : (b : Bool) → pick {A = ℕ} b 0 0 ≡ 0
same_way true = refl
same_way false = refl

pub at_zero : (a x : ℕ) → at a 0 x ≡ 0
unfolding at
at_zero a x = both (eqb x a) (λ e. rw e) (λ e. rw e)

-- past the last place of a tree
module _ (R : ℕ) where
  abbrev mutual
    pub end_of_b : Branch → ℕ
    end_of_b null = 0
    end_of_b (leaf k p) = 0
    end_of_b (sub h g) = max (h.at + 1) (end_of_f (R + h.start) g)

    pub end_of_f : ℕ → Forest → ℕ
    end_of_f a nil = 0
    end_of_f a (cons b f) = max (a + 1) (max (end_of_b b) (end_of_f (a + 1) f))

  module _ (φ : Cell → ℕ) (x : ℕ) where
    mutual
      past-b : (b : Branch) → end_of_b b ≤ x → in_b R φ x b ≡ 0
      past-b null l = refl
      past-b (leaf k p) l = refl
      past-b (sub h g) l = omega (arith, at_other h.at (φ (node h (len g))) x (λ e. omega arith), past-f (R + h.start) g (omega arith))

      past-f : (a : ℕ) (f : Forest) → end_of_f a f ≤ x → in_f R φ x a f ≡ 0
      past-f a nil l = refl
      past-f a (cons b f) l = omega (arith, at_other a (φ (cell_of b)) x (λ e. omega arith), past-b b (omega arith), past-f (a + 1) f (omega arith))

    -- of words that no cell has, a tree says nothing
    module _ (z : (c : Cell) → φ c ≡ 0) where
      mutual
        zero_b : (b : Branch) → in_b R φ x b ≡ 0
        zero_b null = refl
        zero_b (leaf k p) = refl
        zero_b (sub h g) = omega (arith, ap (λ (n : ℕ). at h.at n x) (z (node h (len g))) ∙ at_zero h.at x, zero_f (R + h.start) g)

        zero_f : (a : ℕ) (f : Forest) → in_f R φ x a f ≡ 0
        zero_f a nil = refl
        zero_f a (cons b f) = omega (arith, ap (λ (n : ℕ). at a n x) (z (cell_of b)) ∙ at_zero a x, zero_b b, zero_f (a + 1) f)

node-word-past : (i : ℕ) → 8 ≤ i → (c : Cell) → cell_w (in_node i) c ≡ 0
node-word-past i l empty = refl
node-word-past i l (data1 k p) = refl
node-word-past i l (child r) = refl
node-word-past i l (node h n) = let e : 7 ≤ i = omega arith in get_or-eq_default (head_words h n) 0 e

slot-word-past : (i : ℕ) → 2 ≤ i → (c : Cell) → cell_w (in_slot i) c ≡ 0
slot-word-past i l empty = refl
slot-word-past i l (data1 k p) = get_or-eq_default (cell_words (data1 k p)) 0 l
slot-word-past i l (child r) = let e : 1 ≤ i = omega arith in get_or-eq_default (cell_words (child r)) 0 e
slot-word-past i l (node h n) = refl

module _ (R : ℕ) (m : Mem) (t : Branch) where
  all_said : (x : ℕ) → says_all R m t x ≡ true → (w : Word) → view R m x w ≡ in_b R (cell_w w) x t
  all_said x e bit = eqb-true _ _ (and_both (says R m t x bit) _ e).0
  all_said x e (in_node i) =
      let a = (and_both _ (all_below (λ j. says R m t x (in_slot j)) slot_words) (and_both (says R m t x bit) _ e).1).0 in
      ⊎_elim (λ l. node-past R m x i l ∙ sym (zero_b R (cell_w (in_node i)) x (node-word-past i l) t)) (λ l. eqb-true _ _ (all_at (λ j. says R m t x (in_node j)) record_words a i l)) (le_or_lt 8 i)
  all_said x e (in_slot i) =
      let a = (and_both (all_below (λ j. says R m t x (in_node j)) record_words) _ (and_both (says R m t x bit) _ e).1).1 in
      ⊎_elim (λ l. slot-past R m x i l ∙ sym (zero_b R (cell_w (in_slot i)) x (slot-word-past i l) t)) (λ l. eqb-true _ _ (all_at (λ j. says R m t x (in_slot j)) slot_words a i l)) (le_or_lt 2 i)

  -- past n, memory says nothing either
  view-past : (n : ℕ) → R ≤ n → length m.slots ≤ (n - R) * 2 → length m.used * 64 ≤ n → (x : ℕ) → n ≤ x → (w : Word) → view R m x w ≡ 0
  unfolding view
  view-past n r s u x l bit = let e : length m.used ≤ x / 64 = omega arith in rw (get_or-eq_default m.used 0 e, zero-div (2 ^ (x % 64)))
  view-past n r s u x l (in_node i) = let e : R ≤ x = omega arith in rw (le-ltb x R e) (same_way (ltb i 8))
  view-past n r s u x l (in_slot i) =
      let e : length m.slots ≤ (x - R) * 2 + i = omega arith in
      let f : R ≤ x = omega arith in
      rw (le-ltb x R f, get_or-eq_default m.slots 0 e) (same_way (ltb i 2))

  pub image_checked : (n : ℕ) → says_below R m t n ≡ true → end_of_b R t ≤ n → R ≤ n → length m.slots ≤ (n - R) * 2 → length m.used * 64 ≤ n
      → (x : ℕ) (w : Word) → view R m x w ≡ in_b R (cell_w w) x t
  image_checked n e b r s u x w =
      ⊎_elim (λ l. view-past n r s u x l w ∙ sym (past-b R (cell_w w) x t (omega arith))) (λ l. all_said x (all_at (says_all R m t) n e x l) w) (le_or_lt n x)
