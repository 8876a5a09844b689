-- The live keys of a subtree that memory holds, with a new key among them: what a rebuild gathers is the map with the key inserted, and
-- it meets no broken rule. Assumes nothing.
use mathlib.Core.Bool.{true, ◌&&◌}
use mathlib.Core.List.{List, [], ◌∷◌, ◌++◌}
use mathlib.Core.Logic.{⊎_elim}
use mathlib.Core.Path.{◌≡◌, refl, sym, subst, subst⁻¹, ap, ◌∙◌}
use native.Mathlib.Omega.{arith}
use Prim.Native.Nat.{ℕ, zero, suc, zero-le, ◌+◌, ◌-◌, ◌<◌, ◌≤◌}
use lib.Dec.{leb}
use lib.ListN.{length, take}
use borrow.Author.Tests.{lt-leb, le-leb, lt-ltb, le-ltb, ne_eqb}
use Rattle.laws.proofs.Tests.{both, le_or_lt, and_true}
use Rattle.laws.specs.Keys.{key_bound}
use Rattle.listing.specs.Listing.{listing}
use Rattle.pool.specs.Memory.{Mem, records_in}
use Rattle.rebuild.specs.Rebuilding.{rebuild_rules, live_items, last_key, sound_below, lower_live, upper_live, payloads_in, keys_with, payloads_with}
use Rattle.walk.specs.Events.{events_of}
use Rattle.walk.specs.Walks.{longest_path}
use Rattle.walk.specs.declared.Item.{Item}
use Rattle.walk.specs.declared.Span.TheVariants.{Whole}
use Rattle.demands.specs.Map.{Map, EachKey, Rises, range, insert, size, keys_of, payloads_of}
use Rattle.demands.specs.Placed.{Head, Branch, null, leaf, sub, Forest, nil, cons, len, flat_b, flat_f, depth_b, OkB, OkF}
use Rattle.demands.proofs.Bands.{reads_all, all-least, size-keys}
use Rattle.demands.proofs.Listings.{taken_b, shows_node, whole-b, Lists, lists_shown}
use Rattle.demands.proofs.Nodes.{nodes-few}
use Rattle.demands.proofs.Plugs.{rises-b, all_map, all_app}
use Rattle.demands.proofs.Reading.{Holds}
use Rattle.demands.proofs.Sifting.{held_b, Allowed, nodes_b}
use Rattle.demands.proofs.Walking.{Sized, records-are}

pub take_whole : (n : ℕ) (l : List ℕ) → length l ≤ n → take n l ≡ l
take_whole zero [] h = refl
take_whole zero (x ∷ l) h = absurd (no h)
  where
    no : suc (length l) ≤ 0 → ⊥
    no h = omega arith
take_whole (suc n) [] h = refl
take_whole (suc n) (x ∷ l) h = ap (λ (r : List ℕ). x ∷ r) (take_whole n l (omega arith))

pub range_size : (u v : ℕ) (l : Map) → size (range u v l) ≤ size l
range_size u v [] = zero-le
range_size u v (x ∷ l) = both (leb u x.0 && leb x.0 v) (λ e. rw e (omega (arith, range_size u v l))) (λ e. rw e (omega (arith, range_size u v l)))

pub size-payloads : (l : Map) → length (payloads_of l) ≡ size l
size-payloads [] = refl
size-payloads (x ∷ l) = ap suc (size-payloads l)

keys-app : (a b : Map) → keys_of (a ++ b) ≡ keys_of a ++ keys_of b
keys-app [] b = refl
keys-app (x ∷ a) b = ap (λ (l : List ℕ). x.0 ∷ l) (keys-app a b)

payloads-app : (a b : Map) → payloads_of (a ++ b) ≡ payloads_of a ++ payloads_of b
payloads-app [] b = refl
payloads-app (x ∷ a) b = ap (λ (l : List ℕ). x.1 ∷ l) (payloads-app a b)

-- a range that takes all, and one that takes none
pub range_every : (u v : ℕ) (l : Map) → EachKey (λ x. (u ≤ x) × (x ≤ v)) l → range u v l ≡ l
range_every u v [] h = refl
range_every u v (x ∷ l) h = rw (and_true (le-leb u x.0 h.0.0) (le-leb x.0 v h.0.1)) (ap (λ (r : Map). x ∷ r) (range_every u v l h.1))

range_over : (v : ℕ) (l : Map) → EachKey (λ x. v < x) l → range 0 v l ≡ []
range_over v [] h = refl
range_over v (x ∷ l) h = rw (le-leb 0 x.0 zero-le, lt-leb x.0 v h.0) (range_over v l h.1)

-- the new key parts the map
module _ (k p : ℕ) where
  all_both : (l : Map) → EachKey (λ x. k < x) l → EachKey (λ x. x < key_bound) l → EachKey (λ x. (k ≤ x) × (x ≤ last_key)) l
  all_both [] a b = tt
  all_both (x ∷ l) a b = ((omega (arith, a.0), omega (arith, b.0)), all_both l a.1 b.1)

  insert-low : (x : ℕ × ℕ) (l : Map) → x.0 < k → insert k p l ≡ range 0 k l ++ ((k, p) ∷ range k last_key l) → insert k p (x ∷ l) ≡ range 0 k (x ∷ l) ++ ((k, p) ∷ range k last_key (x ∷ l))
  insert-low x l h ih =
      let le : x.0 ≤ k = omega arith in
      rw (lt-ltb x.0 k h, le-leb 0 x.0 zero-le, le-leb x.0 k le, lt-leb k x.0 h) (ap (λ (r : Map). x ∷ r) ih)

  insert-high : (x : ℕ × ℕ) (l : Map) → k < x.0 → EachKey (λ y. k < y) (x ∷ l) → EachKey (λ y. y < key_bound) (x ∷ l) → insert k p (x ∷ l) ≡ range 0 k (x ∷ l) ++ ((k, p) ∷ range k last_key (x ∷ l))
  insert-high x l h a b =
      let le : k ≤ x.0 = omega arith in
      let none : range 0 k (x ∷ l) ≡ [] = range_over k (x ∷ l) a in
      let all : range k last_key (x ∷ l) ≡ x ∷ l = range_every k last_key (x ∷ l) (all_both (x ∷ l) a b) in
      inserts ∙ sym (ap (λ (r : Map). r ++ ((k, p) ∷ range k last_key (x ∷ l))) none ∙ ap (λ (r : Map). (k, p) ∷ r) all)
    where
      other : x.0 ≡ k → ⊥
      other e = omega arith

      inserts : insert k p (x ∷ l) ≡ (k, p) ∷ x ∷ l
      inserts = let le : k ≤ x.0 = omega arith in rw (le-ltb x.0 k le, ne_eqb x.0 k other)

  pub insert-parts : (l : Map) → Rises l → EachKey (λ x. x ≡ k → ⊥) l → EachKey (λ x. x < key_bound) l → insert k p l ≡ range 0 k l ++ ((k, p) ∷ range k last_key l)
  insert-parts [] r n b = refl
  insert-parts (x ∷ l) r n b =
      ⊎_elim (λ h. insert-high x l (above h) (above h, all_map (λ y. x.0 < y) (λ y. k < y) l (λ y e. omega (arith, above h)) r.0) b)
      (λ h. insert-low x l h (insert-parts l r.1 n.1 b.1))
      (le_or_lt k x.0)
    where
      above : k ≤ x.0 → k < x.0
      above h = ⊎_elim (λ q. absurd (n.0 (omega arith))) (λ q. q) (le_or_lt x.0 k)

-- every key of a good tree is one
module _ (R S : ℕ) where
  mutual
    pub keys-b : (b : Branch) → OkB R S b → EachKey (λ k. k < key_bound) (flat_b b)
    keys-b null o = tt
    keys-b (leaf k p) o = (o, tt)
    keys-b (sub h g) o = keys-f g h.lo h.w (len g) 0 o.1

    pub keys-f : (f : Forest) (lo w l i : ℕ) → OkF R S lo w l i f → EachKey (λ k. k < key_bound) (flat_f f)
    keys-f nil lo w l i o = tt
    keys-f (cons b f) lo w l i o = all_app (λ k. k < key_bound) (flat_b b) (flat_f f) (keys-b b o.1) (keys-f f lo w l (i + 1) o.2)

-- a subtree that memory holds, and a new key
pub record LiveIn (R S : ℕ) (m : Mem) (capacity k above : ℕ) (t : Head) (g : Forest) : Type 0 where
  pub sized : Sized R S m
  pub okay : OkB R S (sub t g)
  pub holds : Holds R m (sub t g)
  pub deep : depth_b (sub t g) ≤ longest_path - above
  pub room : size (flat_f g) < capacity
  pub fresh : EachKey (λ x. x ≡ k → ⊥) (flat_f g)

module _ (R S : ℕ) (m : Mem) (capacity k above : ℕ) (t : Head) (g : Forest) (a : LiveIn R S m capacity k above t g) where
  allowed : Allowed (rebuild_rules (records_in m.nodes) capacity k) (nodes_b (sub t g)) (flat_f g)
  allowed = record {
    nodes = omega (arith, nodes-few R S m (sub t g) a.okay a.holds, records-are R S m a.sized);
    keys = λ e. omega (arith, a.room);
    fresh = λ e. a.fresh;
    least = all-least (flat_f g);
  }

  pub live-items : live_items capacity k above t.at m ≡ held_b Whole 0 (sub t g)
  unfolding live_items events_of
  live-items = reads_all R S m Whole (rebuild_rules (records_in m.nodes) capacity k) (longest_path - above) t g a.sized a.okay a.holds a.deep allowed

  live_lists : (u v room : ℕ) → Lists m room (range u v (flat_f g)) (listing u v room (live_items capacity k above t.at m))
  live_lists u v room =
      subst⁻¹ (λ (is : List Item). Lists m room (range u v (flat_f g)) (listing u v room is)) live-items
      (subst (λ (l : Map). Lists m room (range u v l) (listing u v room (held_b Whole 0 (sub t g)))) (whole-b R S (sub t g) a.okay)
      (lists_shown m u v (taken_b Whole (sub t g)) (held_b Whole 0 (sub t g)) (shows_node R m Whole t g 0 a.holds) room))

  pub sound-below : sound_below capacity k above t.at m ≡ true
  unfolding sound_below
  sound-below = (live_lists 0 last_key capacity).sound

  few : (u v : ℕ) → size (range u v (flat_f g)) ≤ capacity
  few u v = omega (arith, range_size u v (flat_f g), a.room)

  part_keys : (u v : ℕ) → (listing u v capacity (live_items capacity k above t.at m)).keys ≡ keys_of (range u v (flat_f g))
  part_keys u v = (live_lists u v capacity).keys ∙ take_whole capacity (keys_of (range u v (flat_f g))) (omega (arith, size-keys (range u v (flat_f g)), few u v))

  part_payloads : (u v : ℕ) → payloads_in m (listing u v capacity (live_items capacity k above t.at m)).places ≡ payloads_of (range u v (flat_f g))
  part_payloads u v = (live_lists u v capacity).payloads ∙ take_whole capacity (payloads_of (range u v (flat_f g))) (omega (arith, size-payloads (range u v (flat_f g)), few u v))

  parts : (p : ℕ) → insert k p (flat_f g) ≡ range 0 k (flat_f g) ++ ((k, p) ∷ range k last_key (flat_f g))
  parts p = insert-parts k p (flat_f g) (rises-b R S (sub t g) a.okay) a.fresh (keys-b R S (sub t g) a.okay)

  pub keys_gathered : (p : ℕ) → keys_with capacity k above t.at m ≡ keys_of (insert k p (flat_f g))
  unfolding keys_with lower_live upper_live
  keys_gathered p = rw (part_keys 0 k, part_keys k last_key) (sym (ap keys_of (parts p) ∙ keys-app (range 0 k (flat_f g)) ((k, p) ∷ range k last_key (flat_f g))))

  pub payloads_gathered : (p : ℕ) → payloads_with capacity k p above t.at m ≡ payloads_of (insert k p (flat_f g))
  unfolding payloads_with lower_live upper_live
  payloads_gathered p = rw (part_payloads 0 k, part_payloads k last_key) (sym (ap payloads_of (parts p) ∙ payloads-app (range 0 k (flat_f g)) ((k, p) ∷ range k last_key (flat_f g))))
