-- One place of the map: what marking and clearing it does to each place, to the map's length and to its words, and that a map
-- is known by its places. Rests on the laws of bits in Words. Assumes nothing.
use mathlib.Core.Bool.{true, false}
use mathlib.Core.List.{List}
use mathlib.Core.Logic.{⊎_elim}
use mathlib.Core.Path.{◌≡◌, refl, sym, ap, ◌∙◌}
use Prim.Native.Nat.{ℕ, ◌+◌, ◌*◌, ◌-◌, ◌<◌, ◌≤◌, ◌/◌, ◌%◌, ◌^◌}
use native.Mathlib.Nat.{zero-div}
use native.Mathlib.Omega.{arith}
use borrow.Author.Tests.{eq-eqb, ne_eqb, eqb-true, eqb-false}
use lib.Bits.{bit_and, bit_or}
use lib.Dec.{eqb}
use lib.ListN.{length, get_or, set, length-set, get_or-eq_default}
use lib.Seq.{get_or-set_same, get_or-set_other, set_out, set-get_or, ext_get_or}
use mir.Syntax.{w64}
use Rattle.std.proofs.lemmas.Nat.{and_le_l}
use Rattle.std.proofs.lemmas.Nat.Bits.{bit_at_clear_same, bit_at_clear_other, same_from_bits_below}
use Rattle.laws.proofs.Tests.{both, le_or_lt, true_not_false}
use Rattle.marks.specs.Used.{used_at, mark_at, clear_at}
use Rattle.marks.proofs.Words.{shl_one, set_same, set_other, set-fits, taken_same, taken_other, or_bit}

-- every word of the map is one of 64 bits
abbrev pub Words : List ℕ → Type 0
Words u = (i : ℕ) → get_or u i 0 < 2 ^ 64

abbrev pub bit_at : List ℕ → ℕ → ℕ
bit_at u p = get_or u (p / 64) 0 / 2 ^ (p % 64) % 2

pub used-one : (u : List ℕ) (p : ℕ) → used_at u p ≡ true → bit_at u p ≡ 1
unfolding used_at
used-one u p e = eqb-true _ _ e

pub unused_zero : (u : List ℕ) (p : ℕ) → used_at u p ≡ false → bit_at u p ≡ 0
unfolding used_at
unused_zero u p e = let n : bit_at u p ≡ 1 → ⊥ = eqb-false (bit_at u p) 1 e in omega arith

pub one-used : (u : List ℕ) (p : ℕ) → bit_at u p ≡ 1 → used_at u p ≡ true
unfolding used_at
one-used u p e = eq-eqb _ _ e

pub zero_unused : (u : List ℕ) (p : ℕ) → bit_at u p ≡ 0 → used_at u p ≡ false
unfolding used_at
zero_unused u p e = ne_eqb (bit_at u p) 1 (λ h. omega arith)

pub same-bit-used : (u v : List ℕ) (p : ℕ) → bit_at u p ≡ bit_at v p → used_at u p ≡ used_at v p
unfolding used_at
same-bit-used u v p e = ap (λ (x : ℕ). eqb x 1) e

pub same-used-bit : (u v : List ℕ) (p : ℕ) → used_at u p ≡ used_at v p → bit_at u p ≡ bit_at v p
same-used-bit u v p e =
    both (used_at u p)
    (λ a. used-one u p a ∙ sym (used-one v p (sym e ∙ a)))
    (λ a. unused_zero u p a ∙ sym (unused_zero v p (sym e ∙ a)))

-- past the end nothing is used
pub past_unused : (u : List ℕ) (p : ℕ) → length u ≤ p / 64 → used_at u p ≡ false
past_unused u p h = zero_unused u p (rw (get_or-eq_default u 0 h, zero-div (2 ^ (p % 64))))

pub used-within : (u : List ℕ) (p : ℕ) → used_at u p ≡ true → p / 64 < length u
used-within u p e = ⊎_elim (λ h. absurd (true_not_false (sym e ∙ past_unused u p h))) (λ h. h) (le_or_lt (length u) (p / 64))

-- a store at the word of p, seen from another place
store_other : (u : List ℕ) (p q y : ℕ) → (q ≡ p → ⊥)
    → ((j : ℕ) → (j ≡ p % 64 → ⊥) → y / 2 ^ j % 2 ≡ get_or u (p / 64) 0 / 2 ^ j % 2)
    → used_at (set u (p / 64) y) q ≡ used_at u q
store_other u p q y n f = ⊎_elim out within (le_or_lt (length u) (p / 64))
  where
    out : length u ≤ p / 64 → used_at (set u (p / 64) y) q ≡ used_at u q
    out h = rw (set_out u (p / 64) y h)

    within : p / 64 < length u → used_at (set u (p / 64) y) q ≡ used_at u q
    within h =
        both (eqb (q / 64) (p / 64))
        (λ e.
        let d : q / 64 ≡ p / 64 = eqb-true _ _ e in
        same-bit-used (set u (p / 64) y) u q (rw (d, get_or-set_same u (p / 64) y 0) (f (q % 64) (λ m. n (omega arith)))))
        (λ e. same-bit-used (set u (p / 64) y) u q (rw (get_or-set_other u (p / 64) (q / 64) y 0 (eqb-false _ _ e))))

pub store_words : (u : List ℕ) (i y : ℕ) → Words u → y < 2 ^ 64 → Words (set u i y)
store_words u i y w h j =
    both (eqb j i)
    (λ e.
    let d : j ≡ i = eqb-true _ _ e in
    ⊎_elim (λ o. rw (set_out u i y o) (w j)) (λ l. rw (d, get_or-set_same u i y 0 l) h) (le_or_lt (length u) i))
    (λ e. rw (get_or-set_other u i j y 0 (eqb-false _ _ e)) (w j))

module _ (u : List ℕ) (p : ℕ) where
  pub mark-same : p / 64 < length u → used_at (mark_at u p) p ≡ true
  unfolding mark_at
  mark-same h =
      both (used_at u p)
      (λ e. rw (e, e))
      (λ e. rw e (one-used _ _ (rw (get_or-set_same u (p / 64) _ 0 h) (set_same _ _ (unused_zero u p e)))))

  pub mark-other : (q : ℕ) → (q ≡ p → ⊥) → used_at (mark_at u p) q ≡ used_at u q
  unfolding mark_at
  mark-other q n = both (used_at u p) (λ e. rw e) (λ e. rw e (store_other u p q _ n (λ j m. set_other _ _ j (unused_zero u p e) m)))

  pub clear-same : used_at (clear_at u p) p ≡ false
  unfolding clear_at
  clear-same =
      both (used_at u p)
      (λ e. rw e (zero_unused _ _ (rw (get_or-set_same u (p / 64) _ 0 (used-within u p e)) (taken_same _ _ (used-one u p e)))))
      (λ e. rw (e, e))

  pub clear-other : (q : ℕ) → (q ≡ p → ⊥) → used_at (clear_at u p) q ≡ used_at u q
  unfolding clear_at
  clear-other q n = both (used_at u p) (λ e. rw e (store_other u p q _ n (λ j m. taken_other _ _ j (used-one u p e) m))) (λ e. rw e)

  pub mark-length : length (mark_at u p) ≡ length u
  unfolding mark_at
  mark-length = both (used_at u p) (λ e. rw e) (λ e. rw e (simp length-set))

  pub clear-length : length (clear_at u p) ≡ length u
  unfolding clear_at
  clear-length = both (used_at u p) (λ e. rw e (simp length-set)) (λ e. rw e)

  pub mark-words : Words u → Words (mark_at u p)
  unfolding mark_at
  mark-words w =
      both (used_at u p) (λ e. rw e w) (λ e. rw e (store_words u (p / 64) _ w (set-fits _ (p % 64) (w (p / 64)) (omega arith) (unused_zero u p e))))

  pub clear-words : Words u → Words (clear_at u p)
  unfolding clear_at
  clear-words w = both (used_at u p) (λ e. rw e (store_words u (p / 64) _ w (omega (arith, w (p / 64))))) (λ e. rw e w)

-- a map is known by its places
pub used_ext : (u v : List ℕ) → length u ≡ length v → Words u → Words v → ((p : ℕ) → used_at u p ≡ used_at v p) → u ≡ v
used_ext u v l a b f = ext_get_or 0 u v l (λ i h. same_from_bits_below 64 (get_or u i 0) (get_or v i 0) (a i) (b i) (bits i))
  where
    bits : (i j : ℕ) → j < 64 → get_or u i 0 / 2 ^ j % 2 ≡ get_or v i 0 / 2 ^ j % 2
    bits i j k =
        let q : (i * 64 + j) / 64 ≡ i = omega arith in
        let r : (i * 64 + j) % 64 ≡ j = omega arith in
        rw (q, r) at (same-used-bit u v (i * 64 + j) (f (i * 64 + j)))

-- a mark made and undone
pub clear-mark : (u : List ℕ) (p : ℕ) → used_at u p ≡ false → Words u → clear_at (mark_at u p) p ≡ u
clear-mark u p e w =
    used_ext
    (clear_at (mark_at u p) p)
    u
    (clear-length (mark_at u p) p ∙ mark-length u p)
    (clear-words (mark_at u p) p (mark-words u p w))
    w
    (λ q.
    both (eqb q p)
    (λ t. let d : q ≡ p = eqb-true _ _ t in rw d (clear-same (mark_at u p) p ∙ sym e))
    (λ t. clear-other (mark_at u p) p q (eqb-false _ _ t) ∙ mark-other u p q (eqb-false _ _ t)))

-- with an or, whether the place was used or not
mark_or : (u : List ℕ) (p : ℕ) → set u (p / 64) (bit_or (get_or u (p / 64) 0) (2 ^ (p % 64))) ≡ mark_at u p
unfolding mark_at
mark_or u p =
    let d = or_bit (get_or u (p / 64) 0) (p % 64) in
    both (used_at u p)
    (λ e.
    let o : bit_or (get_or u (p / 64) 0) (2 ^ (p % 64)) ≡ get_or u (p / 64) 0 = omega (arith, rw (used-one u p e) at d) in
    rw (e, o, set-get_or u (p / 64) 0))
    (λ e.
    let o : bit_or (get_or u (p / 64) 0) (2 ^ (p % 64)) ≡ get_or u (p / 64) 0 + 2 ^ (p % 64) = omega (arith, rw (unused_zero u p e) at d) in
    rw (e, o))

-- what the code stores
pub mark_stored : (u : List ℕ) (p : ℕ) → set u (p / 64) (bit_or (get_or u (p / 64) 0) (1 * 2 ^ (p % 64) % 2 ^ 64)) ≡ mark_at u p
mark_stored u p = rw (shl_one (p % 64) (omega arith)) (mark_or u p)

pub clear_stored : (u : List ℕ) (p : ℕ) → bit_at u p ≡ 1 → set u (p / 64) (get_or u (p / 64) 0 - 1 * 2 ^ (p % 64) % 2 ^ 64) ≡ clear_at u p
unfolding clear_at
clear_stored u p b = let e : used_at u p ≡ true = one-used u p b in rw (shl_one (p % 64) (omega arith), e)

pub clear_unset : (u : List ℕ) (p : ℕ) → bit_at u p ≡ 0 → u ≡ clear_at u p
unfolding clear_at
clear_unset u p b = let e : used_at u p ≡ false = zero_unused u p b in rw e

-- a word with its bit i taken away is known by its bits
without_bit : (x i y : ℕ) → i < 64 → x < 2 ^ 64 → y < 2 ^ 64 → y / 2 ^ i % 2 ≡ 0 → ((j : ℕ) → (j ≡ i → ⊥) → y / 2 ^ j % 2 ≡ x / 2 ^ j % 2)
    → bit_and x (2 ^ 64 - 1 - 1 * 2 ^ i % 2 ^ 64) ≡ y
without_bit x i y l a b none others =
    same_from_bits_below 64 (bit_and x (2 ^ 64 - 1 - 1 * 2 ^ i % 2 ^ 64)) y (omega (arith, and_le_l x (2 ^ 64 - 1 - 1 * 2 ^ i % 2 ^ 64))) b (λ j h.
    both (eqb j i)
    (λ t. let d : j ≡ i = eqb-true _ _ t in rw d (bit_at_clear_same w64 x i l ∙ sym none))
    (λ t. bit_at_clear_other w64 x i l j h (eqb-false _ _ t) ∙ sym (others j (eqb-false _ _ t))))

pub clear_by_and : (u : List ℕ) (p : ℕ) → get_or u (p / 64) 0 < 2 ^ 64
    → set u (p / 64) (bit_and (get_or u (p / 64) 0) (2 ^ 64 - 1 - 1 * 2 ^ (p % 64) % 2 ^ 64)) ≡ clear_at u p
unfolding clear_at
clear_by_and u p w =
    let l : p % 64 < 64 = omega arith in
    both (used_at u p)
    (λ e.
    let b = used-one u p e in
    rw (e, without_bit (get_or u (p / 64) 0) (p % 64) (get_or u (p / 64) 0 - 2 ^ (p % 64)) l w (omega arith) (taken_same _ _ b) (λ j n. taken_other _ _ j b n)))
    (λ e. rw (e, without_bit (get_or u (p / 64) 0) (p % 64) (get_or u (p / 64) 0) l w w (unused_zero u p e) (λ j n. refl), set-get_or u (p / 64) 0))
