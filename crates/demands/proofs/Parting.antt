-- Keys parted by their slots: those of one slot are a part of the map in order, the parts one after the other are the map. Assumes
-- nothing.
use mathlib.Core.List.{List, [], ◌∷◌, ◌++◌}
use mathlib.Core.Logic.{⊎_elim}
use mathlib.Core.Path.{◌≡◌, refl, ap}
use native.Mathlib.Omega.{arith}
use Prim.Native.Nat.{ℕ, suc, zero-le, ◌+◌, ◌<◌, ◌≤◌}
use lib.Dec.{eqb, leb}
use lib.ListN.{length, get_or}
use borrow.Author.Tests.{eqb-true, eq-eqb, ne_eqb, le-leb, lt-leb}
use Rattle.build.specs.Building.{payloads_to}
use Rattle.laws.proofs.Risings.{rising_tail}
use Rattle.laws.proofs.Tests.{both, le_or_lt}
use Rattle.laws.specs.Keys.{key_bound, Rising}
use Rattle.laws.specs.Pick.{pick}
use Rattle.model.proofs.Slots.{slot-rises}
use Rattle.model.specs.Groups.{keys_to}
use Rattle.model.specs.Slots.{slot_of, InRange}
use Rattle.model.specs.declared.Model.{Model}
use Rattle.demands.specs.Map.{Map, EachKey, Rises, bulkload}
use Rattle.demands.proofs.Plugs.{all_map}

-- the elements whose slot is s, and those from slot s on
abbrev pub at_s : Model → ℕ → Map → Map
at_s md s [] = []
at_s md s (x ∷ l) = pick (eqb (slot_of md x.0) s) (x ∷ at_s md s l) (at_s md s l)

abbrev pub from_s : Model → ℕ → Map → Map
from_s md s [] = []
from_s md s (x ∷ l) = pick (leb s (slot_of md x.0)) (x ∷ from_s md s l) (from_s md s l)

module _ (md : Model) (s : ℕ) where
  pub at_each : (l : Map) → EachKey (λ k. slot_of md k ≡ s) (at_s md s l)
  at_each [] = tt
  at_each (x ∷ l) = both (eqb (slot_of md x.0) s) (λ e. rw e (eqb-true (slot_of md x.0) s e, at_each l)) (λ e. rw e (at_each l))

  pub at_all : (P : ℕ → Type 0) (l : Map) → EachKey P l → EachKey P (at_s md s l)
  at_all P [] h = tt
  at_all P (x ∷ l) h = both (eqb (slot_of md x.0) s) (λ e. rw e (h.0, at_all P l h.1)) (λ e. rw e (at_all P l h.1))

  -- none is left where every slot is below
  pub from_none : (l : Map) → EachKey (λ k. slot_of md k < s) l → from_s md s l ≡ []
  from_none [] h = refl
  from_none (x ∷ l) h = rw (lt-leb s (slot_of md x.0) h.0) (from_none l h.1)

  pub at_none_behind : (l : Map) → EachKey (λ k. s < slot_of md k) l → at_s md s l ≡ []
  at_none_behind [] h = refl
  at_none_behind (x ∷ l) h = rw (ne_eqb (slot_of md x.0) s (λ e. more h.0 e)) (at_none_behind l h.1)
    where
      more : s < slot_of md x.0 → slot_of md x.0 ≡ s → ⊥
      more a e = omega arith

pub from_all : (md : Model) (l : Map) → from_s md 0 l ≡ l
from_all md [] = refl
from_all md (x ∷ l) = rw (le-leb 0 (slot_of md x.0) zero-le) (ap (λ (r : Map). x ∷ r) (from_all md l))

module _ (md : Model) (range : InRange md) where
  -- slots do not fall along a rising map
  after : (x : ℕ) (l : Map) (s : ℕ) → EachKey (λ k. x < k) l → s ≤ slot_of md x → EachKey (λ k. s ≤ slot_of md k) l
  after x l s h g = all_map (λ k. x < k) (λ k. s ≤ slot_of md k) l (λ k e. omega (arith, slot-rises md range x k (omega arith))) h

  split_step : (s : ℕ) (x : ℕ × ℕ) (l : Map) → EachKey (λ k. x.0 < k) l → from_s md s l ≡ at_s md s l ++ from_s md (s + 1) l
      → from_s md s (x ∷ l) ≡ at_s md s (x ∷ l) ++ from_s md (s + 1) (x ∷ l)
  split_step s x l r ih = ⊎_elim (λ a. high a) (λ a. ⊎_elim (λ b. here (omega arith)) (λ b. low b) (le_or_lt s (slot_of md x.0))) (le_or_lt (s + 1) (slot_of md x.0))
    where
      less : slot_of md x.0 < s → slot_of md x.0 ≡ s → ⊥
      less a e = omega arith

      more : s + 1 ≤ slot_of md x.0 → slot_of md x.0 ≡ s → ⊥
      more a e = omega arith

      low : slot_of md x.0 < s → from_s md s (x ∷ l) ≡ at_s md s (x ∷ l) ++ from_s md (s + 1) (x ∷ l)
      low a =
          let b : slot_of md x.0 < s + 1 = omega arith in
          rw (lt-leb s (slot_of md x.0) a, ne_eqb (slot_of md x.0) s (less a), lt-leb (s + 1) (slot_of md x.0) b) ih

      here : slot_of md x.0 ≡ s → from_s md s (x ∷ l) ≡ at_s md s (x ∷ l) ++ from_s md (s + 1) (x ∷ l)
      here a =
          let b : s ≤ slot_of md x.0 = omega arith in
          let c : slot_of md x.0 < s + 1 = omega arith in
          rw (le-leb s (slot_of md x.0) b, eq-eqb (slot_of md x.0) s a, lt-leb (s + 1) (slot_of md x.0) c) (ap (λ (q : Map). x ∷ q) ih)

      high : s + 1 ≤ slot_of md x.0 → from_s md s (x ∷ l) ≡ at_s md s (x ∷ l) ++ from_s md (s + 1) (x ∷ l)
      high a =
          let b : s ≤ slot_of md x.0 = omega arith in
          let n : at_s md s l ≡ [] = at_none_behind md s l (all_map _ _ l (λ k e. omega arith) (after x.0 l (s + 1) r a)) in
          rw (le-leb s (slot_of md x.0) b, ne_eqb (slot_of md x.0) s (more a), le-leb (s + 1) (slot_of md x.0) a, n) (ap (λ (q : Map). x ∷ q) (rw n at ih))

  pub from_split : (s : ℕ) (l : Map) → Rises l → from_s md s l ≡ at_s md s l ++ from_s md (s + 1) l
  from_split s [] r = refl
  from_split s (x ∷ l) r = split_step s x l r.0 (from_split s l r.1)

-- the keys and payloads of a slot are the map's elements of that slot
pub group_is : (md : Model) (s : ℕ) (ks ps : List ℕ) → length ps ≡ length ks → bulkload (keys_to md s ks) (payloads_to md s ks ps) ≡ at_s md s (bulkload ks ps)
unfolding keys_to payloads_to
group_is md s [] ps e = refl
group_is md s (k ∷ ks) [] e = absurd (no e)
  where
    no : ◌≡◌ {A = ℕ} 0 (suc (length ks)) → ⊥
    no h = omega arith
group_is md s (k ∷ ks) (p ∷ ps) e =
    let ih = group_is md s ks ps (omega arith) in
    both (eqb (slot_of md k) s) (λ t. rw t (ap (λ (q : Map). (k, p) ∷ q) ih)) (λ t. rw t ih)

pub group_same : (md : Model) (s : ℕ) (ks ps : List ℕ) → length ps ≡ length ks → length (payloads_to md s ks ps) ≡ length (keys_to md s ks)
unfolding keys_to payloads_to
group_same md s [] ps e = refl
group_same md s (k ∷ ks) [] e = absurd (no e)
  where
    no : ◌≡◌ {A = ℕ} 0 (suc (length ks)) → ⊥
    no h = omega arith
group_same md s (k ∷ ks) (p ∷ ps) e =
    let ih = group_same md s ks ps (omega arith) in
    both (eqb (slot_of md k) s) (λ t. rw t (ap suc ih)) (λ t. rw t ih)

-- a rising list of keys is a rising map of keys
pub keys_below : (ks ps : List ℕ) → Rising ks → EachKey (λ k. k < key_bound) (bulkload ks ps)
keys_below [] ps r = tt
keys_below (k ∷ ks) [] r = tt
keys_below (k ∷ ks) (p ∷ ps) r = (r.below 0 (omega arith), keys_below ks ps (rising_tail k ks r))

head-least : (k : ℕ) (ks : List ℕ) → ((i : ℕ) → i < length ks → k < get_or ks i 0) → (ps : List ℕ) → EachKey (λ j. k < j) (bulkload ks ps)
head-least k [] h ps = tt
head-least k (j ∷ ks) h [] = tt
head-least k (j ∷ ks) h (p ∷ ps) = (h 0 (omega arith), head-least k ks (λ i l. h (suc i) (omega arith)) ps)

pub keys_rise : (ks ps : List ℕ) → Rising ks → Rises (bulkload ks ps)
keys_rise [] ps r = tt
keys_rise (k ∷ ks) [] r = tt
keys_rise (k ∷ ks) (p ∷ ps) r = (head-least k ks (λ i l. r.rises 0 (suc i) (omega arith) (omega arith)) ps, keys_rise ks ps (rising_tail k ks r))
