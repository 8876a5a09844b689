-- The group of a slot is a part of a rising list: slots do not fall along the keys, so keys that share a slot stand together,
-- after those of the slots before. So a build may hand a group on as a slice of its keys. Assumes nothing.
use mathlib.Core.List.{List, [], ◌∷◌}
use mathlib.Core.Logic.{⊎_elim}
use mathlib.Core.Path.{◌≡◌, refl, ap}
use Prim.Native.Nat.{ℕ, zero, suc, ◌+◌, ◌-◌, ◌<◌, ◌≤◌}
use native.Mathlib.Nat.{sub-zero, suc-sub-suc}
use native.Mathlib.Omega.{arith}
use borrow.Author.Tests.{eqb-true, lt-ltb, le-ltb, eq-eqb, ne_eqb}
use lib.Dec.{ltb, eqb}
use lib.ListN.{length, get_or, take, drop}
use Rattle.laws.specs.Keys.{Rising}
use Rattle.laws.proofs.Risings.{rising_tail, rising_part, rising_climbs}
use Rattle.laws.proofs.Tests.{both, le_or_lt}
use Rattle.model.specs.Choice.{count_at}
use Rattle.model.specs.Groups.{keys_to, count_before}
use Rattle.model.specs.Slots.{value_of, slot_of, InRange}
use Rattle.model.specs.declared.Model.{Model}
use Rattle.model.proofs.Slots.{slot-rises, slot_under}

-- the slot of a key
abbrev slot : Model → ℕ → ℕ
slot m k = slot_of m (value_of k)

-- a number is below another, or it, or above it
by_order : {A : Type 0} (a b : ℕ) → (a < b → A) → (a ≡ b → A) → (b < a → A) → A
by_order a b below same above = ⊎_elim (λ h. ⊎_elim (λ k. same (omega arith)) below (le_or_lt b a)) above (le_or_lt a b)

pub group_counted : (m : Model) (s : ℕ) (ks : List ℕ) → length (keys_to m s ks) ≡ count_at m s ks
unfolding keys_to count_at
group_counted m s [] = refl
group_counted m s (k ∷ ks) =
    both (eqb (slot m k) s) (λ e. rw e (ap suc (group_counted m s ks))) (λ e. rw e (group_counted m s ks))

pub before_more : (m : Model) (s : ℕ) (ks : List ℕ) → count_before m (s + 1) ks ≡ count_before m s ks + count_at m s ks
unfolding count_before count_at
before_more m s [] = omega arith
before_more m s (k ∷ ks) =
    let ih : count_before m (s + 1) ks ≡ count_before m s ks + count_at m s ks = before_more m s ks in
    by_order (slot m k) s
    (λ h. rw (lt-ltb (slot m k) (s + 1) (omega arith), lt-ltb (slot m k) s h, ne_eqb (slot m k) s (omega arith)) (omega arith))
    (λ h. rw (lt-ltb (slot m k) (s + 1) (omega arith), le-ltb (slot m k) s (omega arith), eq-eqb (slot m k) s h) (omega arith))
    (λ h. rw (le-ltb (slot m k) (s + 1) (omega arith), le-ltb (slot m k) s (omega arith), ne_eqb (slot m k) s (omega arith)) (omega arith))

pub before_within : (m : Model) (s : ℕ) (ks : List ℕ) → count_before m s ks ≤ length ks
unfolding count_before
before_within m s [] = omega arith
before_within m s (k ∷ ks) =
    let ih : count_before m s ks ≤ length ks = before_within m s ks in
    both (ltb (slot m k) s) (λ e. rw e (omega arith)) (λ e. rw e (omega arith))

pub before_all : (m : Model) → InRange m → (ks : List ℕ) → count_before m m.l ks ≡ length ks
unfolding count_before
before_all m r [] = refl
before_all m r (k ∷ ks) = rw (lt-ltb (slot m k) m.l (slot_under m r (value_of k))) (ap suc (before_all m r ks))

-- each of the keys goes to slot s
abbrev AllTo : Model → ℕ → List ℕ → Type 0
AllTo m s ks = (i : ℕ) → i < length ks → slot_of m (value_of (get_or ks i 0)) ≡ s

all_cons : (m : Model) (s k : ℕ) (ks : List ℕ) → slot m k ≡ s → AllTo m s ks → AllTo m s (k ∷ ks)
all_cons m s k ks e a zero h = e
all_cons m s k ks e a (suc i) h = a i (omega arith)

pub group_to : (m : Model) (s : ℕ) (ks : List ℕ) (i : ℕ) → i < length (keys_to m s ks) → slot_of m (value_of (get_or (keys_to m s ks) i 0)) ≡ s
unfolding keys_to
group_to m s [] = λ i h. absurd (omega arith)
group_to m s (k ∷ ks) =
    both (eqb (slot m k) s)
    (λ e. rw e (all_cons m s k (keys_to m s ks) (eqb-true (slot m k) s e) (group_to m s ks)))
    (λ e. rw e (group_to m s ks))

module _ (m : Model) (r : InRange m) where
  -- slots do not fall along the keys
  pub slots_rise : (ks : List ℕ) → Rising ks → (i j : ℕ) → i ≤ j → j < length ks → slot_of m (value_of (get_or ks i 0)) ≤ slot_of m (value_of (get_or ks j 0))
  slots_rise ks h i j le lt = slot-rises m r (value_of (get_or ks i 0)) (value_of (get_or ks j 0)) (rising_climbs ks h i j le lt)

  pub shared_together : (ks : List ℕ) → Rising ks → (i j k : ℕ) → i ≤ j → j ≤ k → k < length ks
      → slot_of m (value_of (get_or ks i 0)) ≡ slot_of m (value_of (get_or ks k 0)) → slot_of m (value_of (get_or ks j 0)) ≡ slot_of m (value_of (get_or ks i 0))
  shared_together ks h i j k a b lt e = omega (arith, slots_rise ks h i j a (omega arith), slots_rise ks h j k b lt)

  -- no key goes to a slot before the first key's
  none_before : (s k : ℕ) (ks : List ℕ) → Rising (k ∷ ks) → s ≤ slot m k → count_before m s ks ≡ 0
  unfolding count_before
  none_before s k [] h le = refl
  none_before s k (j ∷ ks) h le =
      let up : s ≤ slot m j = omega (arith, slots_rise (k ∷ j ∷ ks) h 0 1 (omega arith) (omega arith)) in
      rw (le-ltb (slot m j) s up) (none_before s j ks (rising_tail k (j ∷ ks) h) up)

  -- first the keys of the slots before, then the group, then those of the slots after
  pub group_part : (ks : List ℕ) → Rising ks → (s : ℕ) → keys_to m s ks ≡ take (count_before m (s + 1) ks - count_before m s ks) (drop (count_before m s ks) ks)
  unfolding keys_to count_before
  group_part [] h s = refl
  group_part (k ∷ ks) h s =
      let ih = group_part ks (rising_tail k ks h) s in
      by_order (slot m k) s
      (λ a. rw (lt-ltb (slot m k) (s + 1) (omega arith), lt-ltb (slot m k) s a, ne_eqb (slot m k) s (omega arith), suc-sub-suc) ih)
      (λ a.
      let z : count_before m s ks ≡ 0 = none_before s k ks h (omega arith) in
      rw (lt-ltb (slot m k) (s + 1) (omega arith), le-ltb (slot m k) s (omega arith), eq-eqb (slot m k) s a, z, sub-zero)
      (ap (λ (g : List ℕ). k ∷ g) (rw (z, sub-zero) at ih)))
      (λ a.
      let z : count_before m s ks ≡ 0 = none_before s k ks h (omega arith) in
      let y : count_before m (s + 1) ks ≡ 0 = none_before (s + 1) k ks h (omega arith) in
      rw (le-ltb (slot m k) (s + 1) (omega arith), le-ltb (slot m k) s (omega arith), ne_eqb (slot m k) s (omega arith), y, z) (rw (y, z) at ih))

  pub group_rising : (ks : List ℕ) → Rising ks → (s : ℕ) → Rising (keys_to m s ks)
  group_rising ks h s = rw (group_part ks h s) (rising_part ks (count_before m s ks) (count_before m (s + 1) ks) (before_within m (s + 1) ks) h)
