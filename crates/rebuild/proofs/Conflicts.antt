-- The two-key node: two keys rise, the answer of each way of the code is the definition's, and where there is no room for the node nothing
-- was stored. Assumes nothing.
use Rattle.std.specs.Prelude.{None, Option, Some}
use mathlib.Core.Bool.{Bool, true, false}
use mathlib.Core.List.{List, [], ◌∷◌}
use mathlib.Core.Logic.{⊎_elim}
use mathlib.Core.Path.{◌≡◌, refl, ◌∙◌}
use Prim.Native.Nat.{ℕ, zero, suc, ◌+◌, ◌<◌, ◌≤◌}
use native.Mathlib.Omega.{arith}
use borrow.Author.Tests.{lt-ltb, le-ltb, ltb-true, ltb-false}
use lib.Dec.{ltb}
use lib.ListN.{length, get_or}
use Rattle.build.proofs.Heights.{child_lower}
use Rattle.build.specs.Building.{Out, out, and_then, Builder, lowest_record, lowest_slots, place_node, payloads_to, fill_slot, fill_slots, node_on, node_with, build}
use Rattle.build.specs.Releasing.{release}
use Rattle.laws.proofs.Tests.{both, le_or_lt}
use Rattle.laws.specs.Keys.{key_bound, Rising}
use Rattle.std.proofs.Common.{None, Option, Some}
use Rattle.model.proofs.Heights.{height_positive, height_small}
use Rattle.model.specs.Choice.{model_of}
use Rattle.model.specs.Groups.{keys_to}
use Rattle.model.specs.Height.{height}
use Rattle.pool.specs.Memory.{Mem, records_in}
use Rattle.pool.specs.declared.Node.{Node}
use Rattle.rebuild.specs.Pairs.{pair_of, pair_if, pair_gone, PairFits}
use Rattle.rebuild.proofs.Releases.{release_alone}
use Rattle.walk.specs.Walks.{longest_path}

pub two_rise : (a b : ℕ) → a < b → b < key_bound → Rising (a ∷ b ∷ [])
two_rise a b h k = record { below = under; rises = climb }
  where
    under : (i : ℕ) → i < 2 → get_or (a ∷ b ∷ []) i 0 < key_bound
    under zero e = omega arith
    under (suc zero) e = k
    under (suc (suc i)) e = absurd (omega arith)

    climb : (i j : ℕ) → i < j → j < 2 → get_or (a ∷ b ∷ []) i 0 < get_or (a ∷ b ∷ []) j 0
    climb zero zero e f = absurd (omega arith)
    climb zero (suc zero) e f = h
    climb zero (suc (suc j)) e f = absurd (omega arith)
    climb (suc i) zero e f = absurd (omega arith)
    climb (suc i) (suc zero) e f = absurd (omega arith)
    climb (suc i) (suc (suc j)) e f = absurd (omega arith)

-- the ways of the code
module _ (a p b q : ℕ) (m : Mem) where
  pub pair-none : (c : Bool) → c ≡ false → out (Some 0) m ≡ pair_if c a p b q m
  unfolding pair_if
  pair-none c e = rw e

  pub pair-first : (c : Bool) (o : Out) → c ≡ true → a < b → o ≡ build longest_path (a ∷ b ∷ []) (p ∷ q ∷ []) m → o ≡ pair_if c a p b q m
  unfolding pair_if pair_of
  pair-first c o e h f = rw (e, lt-ltb a b h) f

  pub pair-second : (c : Bool) (o : Out) → c ≡ true → b ≤ a → o ≡ build longest_path (b ∷ a ∷ []) (q ∷ p ∷ []) m → o ≡ pair_if c a p b q m
  unfolding pair_if pair_of
  pair-second c o e h f = rw (e, le-ltb a b h) f

pub pair_stays : (c : Bool) (r : ℕ) (m : Mem) → c ≡ false → m ≡ pair_gone c r m
unfolding pair_gone
pair_stays c r m e = rw e

pub pair_goes : (c : Bool) (r : ℕ) (m n : Mem) → c ≡ true → n ≡ release 1 m r → n ≡ pair_gone c r m
unfolding pair_gone
pair_goes c r m n e f = rw e (f ∙ release_alone r m)

-- slots with at most one key each need no child, so they always have room
module _ (B : Builder) (r : ℕ) (node : Node) (ks : List ℕ) (few : (s : ℕ) → length (keys_to node.model s ks) ≤ 1) where
  single_fills : (q : ℕ) (g ps : List ℕ) (m : Mem) → length g ≤ 1 → (fill_slot B r q g ps m).built ≡ Some r
  unfolding fill_slot
  single_fills q [] ps m h = refl
  single_fills q (k ∷ []) ps m h = refl
  single_fills q (k ∷ j ∷ g) ps m h = absurd (omega arith)

  then_fills : (o : Out) (f : ℕ → Mem → Out) → o.built ≡ Some r → ((n : Mem) → (f r n).built ≡ Some r) → (and_then o f).built ≡ Some r
  then_fills o f e g = rw e (g o.memory)

  singles_fill : (n s : ℕ) (ps : List ℕ) (m : Mem) → (fill_slots B r node n s ks ps m).built ≡ Some r
  unfolding fill_slots
  singles_fill zero s ps m = refl
  singles_fill (suc n) s ps m =
      then_fills (fill_slot B r (node.start + s) (keys_to node.model s ks) (payloads_to node.model s ks ps) m) _
      (single_fills (node.start + s) (keys_to node.model s ks) (payloads_to node.model s ks ps) m (few s))
      (λ n'. singles_fill n (s + 1) ps n')

at_not_none : (r : ℕ) (b : Option ℕ) → b ≡ Some r → b ≡ None → ⊥
at_not_none r b e f = let z : ◌≡◌ {A = ℕ} 0 1 = cc in omega arith

-- a node of a build one level high that finds no places stores nothing
module _ (d : ℕ) (ks : List ℕ) (rising : Rising ks) (low : height (length ks) ≤ 1) (ps : List ℕ) (m : Mem) where
  few : (s : ℕ) → length (keys_to (model_of ks) s ks) ≤ 1
  few s =
      ⊎_elim
      (λ (h : length (keys_to (model_of ks) s ks) ≤ 1). h)
      (λ (two : 1 < length (keys_to (model_of ks) s ks)). absurd (omega (arith, child_lower ks rising s two, height_positive (length (keys_to (model_of ks) s ks)))))
      (le_or_lt (length (keys_to (model_of ks) s ks)) 1)

  on_run : (r : ℕ) (w : Option ℕ) → (node_on (build d) r (model_of ks) w ks ps m).built ≡ None → (node_on (build d) r (model_of ks) w ks ps m).memory ≡ m
  unfolding node_on
  on_run r None e = refl
  on_run r (Some s) e =
      let node : Node = record { model = model_of ks; start = s } in
      absurd (at_not_none r _ (singles_fill (build d) r node ks few (model_of ks).l 0 ps (place_node m r node (length ks))) e)

  low-stores_nothing : (build (suc d) ks ps m).built ≡ None → (build (suc d) ks ps m).memory ≡ m
  unfolding build node_with
  low-stores_nothing e =
      both (ltb (lowest_record m) (records_in m.nodes))
      (λ t. rw t (on_run (lowest_record m) (lowest_slots m (model_of ks).l) (rw t at e)))
      (λ t. rw t)

two-low : height 2 ≤ 1
two-low = omega (arith, height_small 2 (omega arith))

-- two keys that differ, the second not above the first
pub parted : (a b : ℕ) → b ≤ a → (a ≡ b → ⊥) → b < a
parted a b h n = ⊎_elim (λ (le : a ≤ b). absurd (n (omega arith))) (λ (lt : b < a). lt) (le_or_lt a b)

-- where there is no room for the two-key node, the memory is as it was
pub pair-roomless : (c : Bool) (a p b q : ℕ) (m : Mem) → PairFits c a b → (pair_if c a p b q m).built ≡ None → (pair_if c a p b q m).memory ≡ m
unfolding pair_if pair_of
pair-roomless c a p b q m f e =
    both c
    (λ t.
    both (ltb a b)
    (λ l. rw (t, l) (low-stores_nothing 23 (a ∷ b ∷ []) (two_rise a b (ltb-true a b l) (f.second t)) two-low (p ∷ q ∷ []) m (rw (t, l) at e)))
    (λ l. rw (t, l) (low-stores_nothing 23 (b ∷ a ∷ []) (two_rise b a (parted a b (ltb-false a b l) (f.apart t)) (f.first t)) two-low (q ∷ p ∷ []) m (rw (t, l) at e))))
    (λ t. rw t)
