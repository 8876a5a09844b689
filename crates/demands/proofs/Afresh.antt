-- A tree built afresh over a map in memory whose unused places are zero, below some nodes of a path: the tree that document 01
-- describes, or none where it has no room or would be too deep. Assumes nothing.
use Rattle.std.specs.Prelude.{None}
use mathlib.Core.Bool.{Bool, true, false}
use mathlib.Core.List.{List, [], ◌∷◌}
use mathlib.Core.Path.{◌≡◌, refl, sym, subst, ap, ◌∙◌}
use native.Mathlib.Omega.{arith}
use Prim.Native.Nat.{ℕ, zero, suc, ◌+◌, ◌<◌, ◌≤◌}
use lib.Dec.{leb, ltb, eqb}
use lib.ListN.{length, get_or}
use borrow.Author.Tests.{ne_eqb, eqb-true, eqb-false, ltb-true, ltb-false, leb-true}
use Rattle.build.specs.Building.{Out, out, build}
use Rattle.build.specs.Sizes.{depth_of}
use Rattle.laws.proofs.Tests.{both, true_not_false}
use Rattle.laws.specs.Keys.{key_bound, Rising}
use Rattle.laws.specs.Pick.{pick}
use Rattle.pool.specs.Memory.{Mem}
use Rattle.rebuild.specs.Rebuilding.{afresh}
use Rattle.walk.specs.Walks.{longest_path}
use Rattle.demands.specs.Growing.{Grown, is, no_room, grow}
use Rattle.demands.specs.Map.{Map, EachKey, Rises, insert, member, bulkload, keys_of, payloads_of, size}
use Rattle.demands.specs.Placed.{Branch, null, leaf, sub, depth_b}
use Rattle.demands.specs.Settling.{within}
use Rattle.demands.proofs.Adding.{Fine}
use Rattle.demands.proofs.Depths.{DeepAs, grow-deep}
use Rattle.demands.proofs.Growing.{Agrees, grow_agrees}
use Rattle.demands.proofs.Plugs.{all_map}

-- a map and its lists
pub load_of : (l : Map) → bulkload (keys_of l) (payloads_of l) ≡ l
load_of [] = refl
load_of (x ∷ l) = ap (λ (r : Map). x ∷ r) (load_of l)

pub same-long : (l : Map) → length (payloads_of l) ≡ length (keys_of l)
same-long [] = refl
same-long (x ∷ l) = ap suc (same-long l)

key-at : (P : ℕ → Type 0) (l : Map) → EachKey P l → (i : ℕ) → i < length (keys_of l) → P (get_or (keys_of l) i 0)
key-at P [] h i b = absurd (no b)
  where
    no : i < 0 → ⊥
    no x = omega arith
key-at P (x ∷ l) h zero b = h.0
key-at P (x ∷ l) h (suc i) b = key-at P l h.1 i (omega arith)

keys-rising : (l : Map) → Rises l → (i j : ℕ) → i < j → j < length (keys_of l) → get_or (keys_of l) i 0 < get_or (keys_of l) j 0
keys-rising [] r i j a b = absurd (no b)
  where
    no : j < 0 → ⊥
    no x = omega arith
keys-rising (x ∷ l) r zero zero a b = absurd (no a)
  where
    no : 0 < 0 → ⊥
    no x = omega arith
keys-rising (x ∷ l) r zero (suc j) a b = key-at (λ y. x.0 < y) l r.0 j (omega arith)
keys-rising (x ∷ l) r (suc i) zero a b = absurd (no a)
  where
    no : suc i < 0 → ⊥
    no x = omega arith
keys-rising (x ∷ l) r (suc i) (suc j) a b = keys-rising l r.1 i j (omega arith) (omega arith)

pub rising_of : (l : Map) → Rises l → EachKey (λ k. k < key_bound) l → Rising (keys_of l)
rising_of l r b = record { below = λ i h. key-at (λ k. k < key_bound) l b i h; rises = λ i j a h. keys-rising l r i j a h }

-- a map with a key inserted
module _ (k p : ℕ) where
  pub insert_all : (P : ℕ → Type 0) → P k → (l : Map) → EachKey P l → EachKey P (insert k p l)
  insert_all P q [] a = (q, tt)
  insert_all P q (x ∷ l) a = both (ltb x.0 k) (λ e. rw e (a.0, insert_all P q l a.1)) (λ e. rw e (both (eqb x.0 k) (λ d. rw d (q, a.1)) (λ d. rw d (q, (a.0, a.1)))))

  pub insert-rises : (l : Map) → Rises l → Rises (insert k p l)
  insert-rises [] r = (tt, tt)
  insert-rises (x ∷ l) r = both (ltb x.0 k) (λ e. rw e (insert_all (λ y. x.0 < y) (ltb-true x.0 k e) l r.0, insert-rises l r.1))
      (λ e. rw e (both (eqb x.0 k) (λ d. let q : x.0 ≡ k = eqb-true x.0 k d in rw d (rw q at r.0, r.1))
      (λ d. let n : x.0 ≡ k → ⊥ = eqb-false x.0 k d in let z : k ≤ x.0 = ltb-false x.0 k e in
      rw d ((omega arith, all_map (λ y. x.0 < y) (λ y. k < y) l (λ y u. omega arith) r.0), r))))

  pub insert-size : (l : Map) → EachKey (λ x. x ≡ k → ⊥) l → size (insert k p l) ≡ suc (size l)
  insert-size [] n = refl
  insert-size (x ∷ l) n = both (ltb x.0 k) (λ e. rw e (ap suc (insert-size l n.1))) (λ e. rw (e, ne_eqb x.0 k n.0))

-- no key is k where k is not a member
pub not_member : (k : ℕ) (l : Map) → member k l ≡ false → EachKey (λ x. x ≡ k → ⊥) l
not_member k [] e = tt
not_member k (x ∷ l) e = both (eqb x.0 k) (λ t. absurd (held t)) (λ t. (eqb-false x.0 k t, not_member k l (rest t)))
  where
    held : eqb x.0 k ≡ true → ⊥
    held t = true_not_false (sym (ap (λ (b : Bool). pick b true (member k l)) t) ∙ e)

    rest : eqb x.0 k ≡ false → member k l ≡ false
    rest t = sym (ap (λ (b : Bool). pick b true (member k l)) t) ∙ e

-- the tree afresh over a map, below so many nodes
module _ (R S : ℕ) (m : Mem) (fine : Fine R S m) (l : Map) (r : Rises l) (b : EachKey (λ k. k < key_bound) l) (above : ℕ) where
  pub built_agrees : Agrees R S longest_path m l (grow longest_path R S m.used (keys_of l) (payloads_of l)) (build longest_path (keys_of l) (payloads_of l) m)
  built_agrees =
      subst (λ (x : Map). Agrees R S longest_path m x (grow longest_path R S m.used (keys_of l) (payloads_of l)) (build longest_path (keys_of l) (payloads_of l) m)) (load_of l)
      (grow_agrees R S longest_path m (keys_of l) (payloads_of l) fine (rising_of l r b) (same-long l))

  judge : (w : Grown) (x : Out) (d : ℕ) → DeepAs d w → Agrees R S longest_path m l w x → Agrees R S longest_path m l (within above w) (pick (leb (above + d) longest_path) x (out None m))
  judge (is null u) x d e a = absurd a
  judge (is (leaf k p) u) x d e a = absurd a
  judge (is (sub t g) u) x d e a = rw (← e) (both (leb (above + depth_b (sub t g)) longest_path) (λ q. rw q a) (λ q. rw q))
  judge no_room x d e a = both (leb (above + d) longest_path) (λ q. rw q a) (λ q. rw q)

  pub afresh_agrees : Agrees R S longest_path m l (within above (grow longest_path R S m.used (keys_of l) (payloads_of l))) (afresh above (keys_of l) (payloads_of l) m)
  unfolding afresh
  afresh_agrees = judge (grow longest_path R S m.used (keys_of l) (payloads_of l)) (build longest_path (keys_of l) (payloads_of l) m) (depth_of longest_path (keys_of l)) (grow-deep longest_path R S m.used (keys_of l) (payloads_of l)) built_agrees

grown_tree : Grown → Branch
grown_tree (is b u) = b
grown_tree no_room = null

is_room : Grown → Bool
is_room (is b u) = true
is_room no_room = false

tree_of : {b c : Branch} {u v : List ℕ} → is c v ≡ is b u → c ≡ b
unfolding grown_tree
tree_of e = ap grown_tree e

pub no_room_not : {b : Branch} {u : List ℕ} → no_room ≡ is b u → ⊥
unfolding is_room
no_room_not e = true_not_false (sym (ap is_room e))

-- a tree that passed is not too deep
pub within-deep : (above : ℕ) (w : Grown) (b : Branch) (u : List ℕ) → within above w ≡ is b u → above + depth_b b ≤ longest_path
within-deep above (is c v) b u e = both (leb (above + depth_b c) longest_path) (λ q. yes q) (λ q. absurd (no q))
  where
    yes : leb (above + depth_b c) longest_path ≡ true → above + depth_b b ≤ longest_path
    yes q = subst (λ (x : Branch). above + depth_b x ≤ longest_path) (tree_of (sym (ap (λ (i : Bool). pick i (is c v) no_room) q) ∙ e)) (leb-true _ _ q)

    no : leb (above + depth_b c) longest_path ≡ false → ⊥
    no q = no_room_not (sym (ap (λ (i : Bool). pick i (is c v) no_room) q) ∙ e)
within-deep above no_room b u e = absurd (no_room_not e)
