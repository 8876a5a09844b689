-- How many nodes and slots a build takes: at most as many nodes as keys, one node up to four keys, and 4 to 4,096 slots a node. So
-- the sums fit any machine's numbers, whatever the fuel. Assumes nothing.
use mathlib.Core.List.{List, [], ◌∷◌, ◌++◌}
use mathlib.Core.Logic.{⊎_elim}
use mathlib.Core.Path.{◌≡◌, refl}
use Prim.Native.Nat.{ℕ, zero, suc, ◌+◌, ◌-◌, ◌*◌, ◌<◌, ◌≤◌, min}
use native.Mathlib.Nat.{add-zero}
use native.Mathlib.Omega.{arith}
use borrow.Author.Tests.{le-ltb}
use lib.ListN.{length, get_or, length-append}
use Rattle.laws.proofs.Tests.{le_or_lt}
use Rattle.laws.specs.Keys.{Rising}
use Rattle.model.proofs.Groups.{group_counted, before_more, before_all, group_rising}
use Rattle.model.proofs.Least.{chosen-in_range}
use Rattle.model.proofs.Parting.{group_single, group_fewer}
use Rattle.model.specs.Choice.{count_at, model_of}
use Rattle.model.specs.Groups.{keys_to, count_before}
use Rattle.model.specs.Slots.{least_slots, most_slots, value_of, slot_of, InRange}
use Rattle.model.specs.declared.Model.{Model}
use Rattle.build.specs.Sizes.{of_group, sizes_under, sizes_of, total}

-- what holds of nothing, and of what several keys give, holds of what a group gives
pub of_group_in : {A : Type 0} (P : A → Type 0) (none : A) (S : List ℕ → A) (g : List ℕ) → P none → (2 ≤ length g → P (S g)) → P (of_group none S g)
of_group_in P none S [] p q = p
of_group_in P none S (k ∷ []) p q = p
of_group_in P none S (k ∷ j ∷ ks) p q = q (omega arith)

pub of_several : {A : Type 0} (none : A) (S : List ℕ → A) (g : List ℕ) → 2 ≤ length g → of_group none S g ≡ S g
of_several none S [] h = absurd (omega arith)
of_several none S (k ∷ []) h = absurd (omega arith)
of_several none S (k ∷ j ∷ ks) h = refl

pub of_few : {A : Type 0} (none : A) (S : List ℕ → A) (g : List ℕ) → length g ≤ 1 → of_group none S g ≡ none
of_few none S [] h = refl
of_few none S (k ∷ []) h = refl
of_few none S (k ∷ j ∷ ks) h = absurd (omega arith)

-- how many keys go to the n slots from s on
abbrev among : Model → List ℕ → ℕ → ℕ → ℕ
among m ks zero s = 0
among m ks (suc n) s = count_at m s ks + among m ks n (s + 1)

among_before : (m : Model) (ks : List ℕ) (n s : ℕ) → count_before m s ks + among m ks n s ≡ count_before m (s + n) ks
among_before m ks zero s = rw (add-zero s) (omega arith)
among_before m ks (suc n) s =
    let e : s + 1 + n ≡ s + suc n = omega arith in
    let ih = rw e at (among_before m ks n (s + 1)) in
    omega (arith, ih, before_more m s ks)

before_none : (m : Model) (ks : List ℕ) → count_before m 0 ks ≡ 0
unfolding count_before
before_none m [] = refl
before_none m (k ∷ ks) = rw (le-ltb (slot_of m (value_of k)) 0 (omega arith)) (before_none m ks)

among_all : (m : Model) → InRange m → (ks : List ℕ) → among m ks m.l 0 ≡ length ks
among_all m r ks =
    let e : 0 + m.l ≡ m.l = omega arith in
    let a = rw e at (among_before m ks m.l 0) in
    omega (arith, a, before_none m ks, before_all m r ks)

-- The children of one node: each has fewer nodes than keys, so all together have fewer nodes than there are keys, and fewer by two
-- where no slot gets all keys.
module _ (S : List ℕ → List ℕ) (m : Model) (ks : List ℕ) (small : (s : ℕ) → 2 ≤ length (keys_to m s ks) → length (S (keys_to m s ks)) < length (keys_to m s ks)) where
  group_fewer-nodes : (s : ℕ) → length (of_group [] S (keys_to m s ks)) + min 1 (count_at m s ks) ≤ count_at m s ks
  group_fewer-nodes s =
      let e : length (keys_to m s ks) ≡ count_at m s ks = group_counted m s ks in
      of_group_in
      (λ (l : List ℕ). length l + min 1 (count_at m s ks) ≤ count_at m s ks)
      []
      S
      (keys_to m s ks)
      (omega arith)
      (λ h. omega (arith, small s h))

  under_fewer : (n s : ℕ) → length (sizes_under S m n s ks) + min 1 (among m ks n s) ≤ among m ks n s
  unfolding sizes_under
  under_fewer zero s = omega arith
  under_fewer (suc n) s =
      rw (length-append (of_group [] S (keys_to m s ks)) (sizes_under S m n (s + 1) ks)) (omega (arith, group_fewer-nodes s, under_fewer n (s + 1)))

  under_parted : (most : ℕ) → ((s : ℕ) → count_at m s ks ≤ most) → (n s : ℕ) → most < among m ks n s
      → length (sizes_under S m n s ks) + 2 ≤ among m ks n s
  unfolding sizes_under
  under_parted most parted zero s h = absurd (omega arith)
  under_parted most parted (suc n) s h =
      rw (length-append (of_group [] S (keys_to m s ks)) (sizes_under S m n (s + 1) ks))
      (⊎_elim
      (λ z. omega (arith, group_fewer-nodes s, under_parted most parted n (s + 1) (omega arith)))
      (λ z. omega (arith, parted s, group_fewer-nodes s, under_fewer n (s + 1)))
      (le_or_lt (count_at m s ks) 0))

-- several keys have fewer nodes than keys
pub sizes-fewer : (d : ℕ) (ks : List ℕ) → Rising ks → 2 ≤ length ks → length (sizes_of d ks) < length ks
unfolding sizes_of
sizes-fewer zero ks r h = omega arith
sizes-fewer (suc d) ks r h =
    let m = model_of ks in
    let range = chosen-in_range ks r in
    let a : among m ks m.l 0 ≡ length ks = among_all m range ks in
    let f : length (sizes_under (sizes_of d) m m.l 0 ks) + 2 ≤ among m ks m.l 0 =
    under_parted
    (sizes_of d)
    m
    ks
    (λ s two. sizes-fewer d (keys_to m s ks) (group_rising m range ks r s) two)
    (length ks - 1)
    (λ s. omega (arith, group_fewer ks r h s))
    m.l
    0
    (omega arith)
    in
    omega arith

-- keys that stand alone have no child
under_none : (S : List ℕ → List ℕ) (m : Model) (ks : List ℕ) → ((s : ℕ) → count_at m s ks ≤ 1) → (n s : ℕ) → sizes_under S m n s ks ≡ []
unfolding sizes_under
under_none S m ks alone zero s = refl
under_none S m ks alone (suc n) s =
    rw (of_few [] S (keys_to m s ks) (rw (group_counted m s ks) (alone s))) (under_none S m ks alone n (s + 1))

-- up to four keys have one node
pub sizes_single : (d : ℕ) (ks : List ℕ) → Rising ks → length ks ≤ 4 → length (sizes_of d ks) ≤ 1
unfolding sizes_of
sizes_single zero ks r h = omega arith
sizes_single (suc d) ks r h = rw (under_none (sizes_of d) (model_of ks) ks (group_single ks r h) (model_of ks).l 0) (omega arith)

-- at most as many nodes as keys; a build over no keys has one node
pub sizes-few : (d : ℕ) (ks : List ℕ) → Rising ks → 1 ≤ length ks → length (sizes_of d ks) ≤ length ks
sizes-few d ks r h =
    ⊎_elim (λ two. omega (arith, sizes-fewer d ks r two)) (λ one. omega (arith, sizes_single d ks r (omega arith))) (le_or_lt 2 (length ks))

pub sizes-within : (d n : ℕ) (ks : List ℕ) → Rising ks → length ks ≤ n → 1 ≤ n → length (sizes_of d ks) ≤ n
sizes-within d n ks r h pos =
    ⊎_elim (λ some. omega (arith, sizes-few d ks r some)) (λ none. omega (arith, sizes_single d ks r (omega arith))) (le_or_lt 1 (length ks))

-- every size is one that a node may have
abbrev pub NodeSizes : List ℕ → Type 0
NodeSizes ls = (i : ℕ) → i < length ls → (least_slots ≤ get_or ls i 0) × (get_or ls i 0 ≤ most_slots)

node-sizes-cons : (l : ℕ) (ls : List ℕ) → least_slots ≤ l → l ≤ most_slots → NodeSizes ls → NodeSizes (l ∷ ls)
node-sizes-cons l ls a b f zero h = (a, b)
node-sizes-cons l ls a b f (suc i) h = f i (omega arith)

node-sizes-append : (xs ys : List ℕ) → NodeSizes xs → NodeSizes ys → NodeSizes (xs ++ ys)
node-sizes-append [] ys f g = g
node-sizes-append (x ∷ xs) ys f g =
    node-sizes-cons x (xs ++ ys) (f 0 (omega arith)).0 (f 0 (omega arith)).1
    (node-sizes-append xs ys (λ i h. f (suc i) (omega arith)) g)

under_slots : (S : List ℕ → List ℕ) (m : Model) (ks : List ℕ) → ((s : ℕ) → NodeSizes (S (keys_to m s ks))) → (n s : ℕ)
    → NodeSizes (sizes_under S m n s ks)
unfolding sizes_under
under_slots S m ks each zero s = λ i h. absurd (omega arith)
under_slots S m ks each (suc n) s =
    node-sizes-append
    (of_group [] S (keys_to m s ks))
    (sizes_under S m n (s + 1) ks)
    (of_group_in NodeSizes [] S (keys_to m s ks) (λ i h. absurd (omega arith)) (λ h. each s))
    (under_slots S m ks each n (s + 1))

-- "A node has 4 to 4,096 slots"
pub sizes-slots : (d : ℕ) (ks : List ℕ) → Rising ks → NodeSizes (sizes_of d ks)
unfolding sizes_of
sizes-slots zero ks r = λ i h. absurd (omega arith)
sizes-slots (suc d) ks r =
    let m = model_of ks in
    let range = chosen-in_range ks r in
    node-sizes-cons
    m.l
    (sizes_under (sizes_of d) m m.l 0 ks)
    range.least
    range.most
    (under_slots (sizes_of d) m ks (λ s. sizes-slots d (keys_to m s ks) (group_rising m range ks r s)) m.l 0)

pub total-append : (xs ys : List ℕ) → total (xs ++ ys) ≡ total xs + total ys
unfolding total
total-append [] ys = omega arith
total-append (x ∷ xs) ys = rw (total-append xs ys) (omega arith)

node-sizes-total : (ls : List ℕ) → NodeSizes ls → total ls ≤ most_slots * length ls
unfolding total
node-sizes-total [] f = omega arith
node-sizes-total (l ∷ ls) f = omega (arith, (f 0 (omega arith)).1, node-sizes-total ls (λ i h. f (suc i) (omega arith)))

pub sizes-total : (d : ℕ) (ks : List ℕ) → Rising ks → total (sizes_of d ks) ≤ most_slots * length (sizes_of d ks)
sizes-total d ks r = node-sizes-total (sizes_of d ks) (sizes-slots d ks r)
