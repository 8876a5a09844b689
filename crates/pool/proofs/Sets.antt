-- Stores of several words from a place on: what stands at each place afterwards, and that words of 64 bits stay such. Assumes
-- nothing.
use mathlib.Core.List.{List, [], ◌∷◌}
use mathlib.Core.Logic.{⊎_elim}
use mathlib.Core.Path.{◌≡◌, refl, ◌∙◌}
use Prim.Native.Nat.{ℕ, zero, suc, ◌+◌, ◌-◌, ◌^◌, ◌<◌, ◌≤◌}
use native.Mathlib.Omega.{arith}
use borrow.Rule.Slice.PartMut.{put_mid}
use lib.ListN.{length, get_or, set, take, drop, replicate, length-drop, length-replicate, length-set, get_or-eq_default}
use lib.Seq.{sets, sets-eq, length-take-le, get_or-set_same, get_or-set_other, set_out}
use Rattle.std.proofs.lemmas.List.{append_assoc, drop-drop}
use Rattle.laws.proofs.Tests.{le_or_lt}
use Rattle.marks.proofs.Marks.{store_words}

-- every word is one of 64 bits
abbrev pub Words : List ℕ → Type 0
Words u = (i : ℕ) → get_or u i 0 < 2 ^ 64

pub sets_before : (l : List ℕ) (i : ℕ) (vs : List ℕ) (j : ℕ) → j < i → get_or (sets l i vs) j 0 ≡ get_or l j 0
sets_before l i [] j h = refl
sets_before l i (a ∷ vs) j h =
    sets_before (set l i a) (suc i) vs j (omega arith) ∙ get_or-set_other l i j a 0 (λ e. omega arith)

pub sets_past : (l : List ℕ) (i : ℕ) (vs : List ℕ) (j : ℕ) → i + length vs ≤ j → get_or (sets l i vs) j 0 ≡ get_or l j 0
sets_past l i [] j h = refl
sets_past l i (a ∷ vs) j h =
    sets_past (set l i a) (suc i) vs j (omega arith) ∙ get_or-set_other l i j a 0 (λ e. omega arith)

pub sets_within : (l : List ℕ) (i : ℕ) (vs : List ℕ) (k : ℕ) → k < length vs → i + k < length l → get_or (sets l i vs) (i + k) 0 ≡ get_or vs k 0
sets_within l i [] k h f = absurd (omega arith)
sets_within l i (a ∷ vs) zero h f =
    let e : i + 0 ≡ i = omega arith in
    rw e (sets_before (set l i a) (suc i) vs i (omega arith) ∙ get_or-set_same l i a 0 (omega arith))
sets_within l i (a ∷ vs) (suc k) h f =
    let e : i + suc k ≡ suc i + k = omega arith in
    rw e (sets_within (set l i a) (suc i) vs k (omega arith) (simp length-set (omega arith)))

-- a zero stored is read, in the list or past its end
set_zero : (l : List ℕ) (i : ℕ) → get_or (set l i 0) i 0 ≡ 0
set_zero l i =
    ⊎_elim (λ h. rw (set_out l i 0 h) (get_or-eq_default l 0 h)) (λ h. get_or-set_same l i 0 0 h) (le_or_lt (length l) i)

pub sets_zeros : (l : List ℕ) (i n j : ℕ) → i ≤ j → j < i + n → get_or (sets l i (replicate n 0)) j 0 ≡ 0
sets_zeros l i zero j a b = absurd (omega arith)
sets_zeros l i (suc n) j a b =
    ⊎_elim
    (λ h. sets_zeros (set l i 0) (suc i) n j h (omega arith))
    (λ h.
    let e : j ≡ i = omega arith in
    rw e (sets_before (set l i 0) (suc i) (replicate n 0) i (omega arith) ∙ set_zero l i))
    (le_or_lt (suc i) j)

pub sets_words : (l : List ℕ) (i : ℕ) (vs : List ℕ) → Words l → Words vs → Words (sets l i vs)
sets_words l i [] w v = w
sets_words l i (a ∷ vs) w v = sets_words (set l i a) (suc i) vs (store_words l i a w (v 0)) (λ k. v (suc k))

pub zeros-words : (n : ℕ) → Words (replicate n 0)
zeros-words zero i = omega arith
zeros-words (suc n) zero = omega arith
zeros-words (suc n) (suc i) = zeros-words n i

-- eight stores one after the other
pub sets_eight : (l : List ℕ) (i a b c d e f g h : ℕ)
    → set (set (set (set (set (set (set (set l i a) (i + 1) b) (i + 2) c) (i + 3) d) (i + 4) e) (i + 5) f) (i + 6) g) (i + 7) h
    ≡ sets l i (a ∷ b ∷ c ∷ d ∷ e ∷ f ∷ g ∷ h ∷ [])
sets_eight l i a b c d e f g h =
    let p1 : i + 1 ≡ suc i = omega arith in
    let p2 : i + 2 ≡ suc (suc i) = omega arith in
    let p3 : i + 3 ≡ suc (suc (suc i)) = omega arith in
    let p4 : i + 4 ≡ suc (suc (suc (suc i))) = omega arith in
    let p5 : i + 5 ≡ suc (suc (suc (suc (suc i)))) = omega arith in
    let p6 : i + 6 ≡ suc (suc (suc (suc (suc (suc i))))) = omega arith in
    let p7 : i + 7 ≡ suc (suc (suc (suc (suc (suc (suc i)))))) = omega arith in
    rw (p1, p2, p3, p4, p5, p6, p7)

-- the k words from a on written as a part of the list
pub part_is : (l vs ws : List ℕ) (a k n : ℕ) → k ≡ n → length ws ≡ n → a + n ≤ length l → vs ≡ ws → put_mid a k l vs ≡ sets l a ws
part_is l vs ws a k n e f h w =
    let g : a + length ws ≡ a + k = omega arith in
    rw (w, sets-eq ws l a (omega arith), g, drop-drop k a l, append_assoc)

-- that part filled with zeros
pub part_filled : (l vs : List ℕ) (a k n : ℕ) → k ≡ n → a + n ≤ length l → vs ≡ replicate (length (take k (drop a l))) 0 → put_mid a k l vs ≡ sets l a (replicate n 0)
part_filled l vs a k n e h v =
    let d : length (drop a l) ≡ length l - a = length-drop a l in
    let c : length (take k (drop a l)) ≡ n = length-take-le k (drop a l) (omega arith) ∙ e in
    part_is l vs (replicate n 0) a k n e (length-replicate n 0) h (rw c at v)
