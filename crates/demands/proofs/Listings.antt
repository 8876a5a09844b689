-- What is listed of a tree that memory holds: the elements of the map between two keys, with their payloads, as many as fit. Assumes
-- nothing.
use mathlib.Core.Bool.{Bool, true, false, ◌&&◌}
use mathlib.Core.List.{List, [], ◌∷◌, ◌++◌, map}
use mathlib.Core.Logic.{⊎_elim}
use mathlib.Core.Path.{◌≡◌, refl, sym, subst, subst⁻¹, ap, ◌∙◌}
use native.Mathlib.Omega.{arith}
use Prim.Native.Nat.{ℕ, zero, suc, zero-le, ◌+◌, ◌<◌, ◌≤◌}
use lib.Dec.{ltb, leb}
use lib.ListN.{get_or, take}
use borrow.Author.Tests.{lt-leb, lt-ltb, le-ltb}
use Rattle.laws.proofs.Tests.{both, le_or_lt}
use Rattle.laws.specs.Pick.{pick}
use Rattle.listing.specs.Listing.{Listing, none, first, listing}
use Rattle.model.specs.Slots.{InRange}
use Rattle.pool.specs.Memory.{Mem, payload_word}
use Rattle.walk.specs.Events.{first_in, last_in, count_in}
use Rattle.walk.specs.declared.Item.{Item}
use Rattle.walk.specs.declared.Item.TheVariants.{Held, Broken, End}
use Rattle.walk.specs.declared.Span.{Span}
use Rattle.walk.specs.declared.Span.TheVariants.{Between, Whole}
use Rattle.demands.specs.Map.{Map, EachKey, range, size, keys_of, payloads_of}
use Rattle.demands.specs.Placed.{Head, Branch, null, leaf, sub, Forest, nil, cons, len, flat_b, flat_f, cell_of, Word, in_slot, cell_w, view, model_in, OkB, OkF}
use Rattle.demands.proofs.Holding.{HoldsF, run_holds, first_reads, branch-holds, rest-holds}
use Rattle.demands.proofs.Plugs.{slot_h, slot-order, all_map, from_f}
use Rattle.demands.proofs.Reading.{Holds}
use Rattle.demands.proofs.Sifting.{held_b, held_f}
use Rattle.demands.proofs.Walking.{view-slot}

-- the elements that a span takes
unfoldable mutual
  pub taken_b : Span → Branch → Map
  taken_b s null = []
  taken_b s (leaf k p) = (k, p) ∷ []
  taken_b s (sub h g) = taken_f s g (first_in s (model_in h.lo h.w (len g))) (count_in s (model_in h.lo h.w (len g)))

  pub taken_f : Span → Forest → ℕ → ℕ → Map
  taken_f s nil skip n = []
  taken_f s (cons b f) (suc skip) n = taken_f s f skip n
  taken_f s (cons b f) zero zero = []
  taken_f s (cons b f) zero (suc n) = taken_b s b ++ taken_f s f zero n

-- items show a map: the keys in order, the payloads in their slots
abbrev pub Shows : Mem → Map → List Item → Type 0
Shows m [] [] = Unit
Shows m [] (i ∷ is) = ⊥
Shows m (x ∷ l) [] = ⊥
Shows m (x ∷ l) (Held q k ∷ is) = (k ≡ x.0) × (get_or m.slots (payload_word q) 0 ≡ x.1) × Shows m l is
Shows m (x ∷ l) (Broken ∷ is) = ⊥
Shows m (x ∷ l) (End ∷ is) = ⊥

pub shows_app : (m : Mem) (l k : Map) (is js : List Item) → Shows m l is → Shows m k js → Shows m (l ++ k) (is ++ js)
shows_app m [] k [] js a b = b
shows_app m [] k (i ∷ is) js a b = absurd a
shows_app m (x ∷ l) k [] js a b = absurd a
shows_app m (x ∷ l) k (Held q j ∷ is) js a b = (a.0, a.1, shows_app m l k is js a.2 b)
shows_app m (x ∷ l) k (Broken ∷ is) js a b = absurd a
shows_app m (x ∷ l) k (End ∷ is) js a b = absurd a

module _ (R : ℕ) (m : Mem) (s : Span) where
  mutual
    unfolding taken_b held_b taken_f held_f

    pub shows_b : (b : Branch) (q : ℕ) → ((w : Word) → view R m (R + q) w ≡ cell_w w (cell_of b)) → Holds R m b → Shows m (taken_b s b) (held_b s q b)
    shows_b null q r k = tt
    shows_b (leaf j p) q r k = (refl, sym (view-slot R m q 1 (omega arith)) ∙ r (in_slot 1), tt)
    shows_b (sub h g) q r k = shows_f g h.start _ _ (run_holds R m h g k)

    pub shows_f : (f : Forest) (q skip n : ℕ) → HoldsF R m (R + q) f → Shows m (taken_f s f skip n) (held_f s q f skip n)
    shows_f nil q skip n k = tt
    shows_f (cons b f) q (suc skip) n k = let e : R + q + 1 ≡ R + (q + 1) = omega arith in shows_f f (q + 1) skip n (subst (λ (x : ℕ). HoldsF R m x f) e (rest-holds R m (R + q) b f k))
    shows_f (cons b f) q zero zero k = tt
    shows_f (cons b f) q zero (suc n) k =
        let e : R + q + 1 ≡ R + (q + 1) = omega arith in
        shows_app m (taken_b s b) (taken_f s f zero n) (held_b s q b) (held_f s (q + 1) f zero n) (shows_b b q (first_reads R m (R + q) b f k) (branch-holds R m (R + q) b f k))
        (shows_f f (q + 1) zero n (subst (λ (x : ℕ). HoldsF R m x f) e (rest-holds R m (R + q) b f k)))

  -- a node's own slot does not matter
  pub shows_node : (h : Head) (g : Forest) (q : ℕ) → Holds R m (sub h g) → Shows m (taken_b s (sub h g)) (held_b s q (sub h g))
  unfolding taken_b held_b
  shows_node h g q k = shows_f g h.start _ _ (run_holds R m h g k)

all_slots : (lo w l : ℕ) → InRange (model_in lo w l) → count_in Whole (model_in lo w l) ≡ l
unfolding count_in last_in first_in
all_slots lo w l r = omega (arith, r.least)

none_skipped : (g : Forest) (lo w l : ℕ) → taken_f Whole g (first_in Whole (model_in lo w l)) (len g) ≡ taken_f Whole g 0 (len g)
unfolding first_in
none_skipped g lo w l = refl

-- all slots
mutual
  unfolding taken_b taken_f

  pub whole-b : (R S : ℕ) (b : Branch) → OkB R S b → taken_b Whole b ≡ flat_b b
  whole-b R S null o = refl
  whole-b R S (leaf k p) o = refl
  whole-b R S (sub h g) o = ap (λ (n : ℕ). taken_f Whole g (first_in Whole (model_in h.lo h.w (len g))) n) (all_slots h.lo h.w (len g) o.0.range) ∙ none_skipped g h.lo h.w (len g) ∙ whole-f R S g h.lo h.w (len g) 0 o.1

  pub whole-f : (R S : ℕ) (f : Forest) (lo w l i : ℕ) → OkF R S lo w l i f → taken_f Whole f 0 (len f) ≡ flat_f f
  whole-f R S nil lo w l i o = refl
  whole-f R S (cons b f) lo w l i o = rw (whole-b R S b o.1, whole-f R S f lo w l (i + 1) o.2)

-- the range of a map, parted
pub range-app : (u v : ℕ) (a b : Map) → range u v (a ++ b) ≡ range u v a ++ range u v b
range-app u v [] b = refl
range-app u v (x ∷ a) b = both (leb u x.0 && leb x.0 v) (λ e. rw e (ap (λ (l : Map). x ∷ l) (range-app u v a b))) (λ e. rw e (range-app u v a b))

range-low : (u v : ℕ) (l : Map) → EachKey (λ k. k < u) l → range u v l ≡ []
range-low u v [] h = refl
range-low u v (x ∷ l) h = rw (lt-leb u x.0 h.0) (range-low u v l h.1)

range-high : (u v : ℕ) (l : Map) → EachKey (λ k. v < k) l → range u v l ≡ []
range-high u v [] h = refl
range-high u v (x ∷ l) h = rw (lt-leb x.0 v h.0, no (leb u x.0)) (range-high u v l h.1)
  where
    no : (b : Bool) → (b && false) ≡ false
    no true = refl
    no false = refl

starts : (u v : ℕ) (h : Head) (l : ℕ) → 1 ≤ first_in (Between u v) (model_in h.lo h.w l) → 0 + first_in (Between u v) (model_in h.lo h.w l) ≤ slot_h h l u
unfolding first_in
starts u v h l e = omega arith

ends : (u v : ℕ) (h : Head) (l : ℕ) → slot_h h l v + 1 ≤ 0 + first_in (Between u v) (model_in h.lo h.w l) + count_in (Between u v) (model_in h.lo h.w l)
unfolding first_in count_in last_in
ends u v h l = omega arith

-- a band's span takes every element of its range
module _ (R S u v : ℕ) where
  mutual
    unfolding taken_b taken_f

    pub range-b : (b : Branch) → OkB R S b → range u v (taken_b (Between u v) b) ≡ range u v (flat_b b)
    range-b null o = refl
    range-b (leaf k p) o = refl
    range-b (sub h g) o = range-f g h (len g) 0 (first_in (Between u v) (model_in h.lo h.w (len g))) (count_in (Between u v) (model_in h.lo h.w (len g))) o.0.range o.1 (starts u v h (len g)) (ends u v h (len g))

    pub range-f : (f : Forest) (h : Head) (l i skip n : ℕ) → InRange (model_in h.lo h.w l) → OkF R S h.lo h.w l i f → (1 ≤ skip → i + skip ≤ slot_h h l u) → slot_h h l v + 1 ≤ i + skip + n
        → range u v (taken_f (Between u v) f skip n) ≡ range u v (flat_f f)
    range-f nil h l i skip n r o a z = refl
    range-f (cons b f) h l i (suc skip) n r o a z =
        let low : range u v (flat_b b) ≡ [] = range-low u v (flat_b b) (all_map (λ k. slot_h h l k ≡ i) (λ k. k < u) (flat_b b) (λ k e. slot-order h.lo h.w l r k u (omega (arith, a (omega arith)))) o.0) in
        range-f f h l (i + 1) skip n r o.2 (λ q. omega (arith, a (omega arith))) (omega arith) ∙ sym (range-app u v (flat_b b) (flat_f f) ∙ ap (λ (x : Map). x ++ range u v (flat_f f)) low)
    range-f (cons b f) h l i zero zero r o a z = sym (range-high u v (flat_f (cons b f)) (all_map (λ k. i ≤ slot_h h l k) (λ k. v < k) (flat_f (cons b f)) (λ k e. slot-order h.lo h.w l r v k (omega arith)) (from_f R S h l i (cons b f) o)))
    range-f (cons b f) h l i zero (suc n) r o a z =
        range-app u v (taken_b (Between u v) b) (taken_f (Between u v) f zero n)
        ∙ ap (λ (x : Map). x ++ range u v (taken_f (Between u v) f zero n)) (range-b b o.1)
        ∙ ap (λ (x : Map). range u v (flat_b b) ++ x) (range-f f h l (i + 1) zero n r o.2 (λ q. absurd (omega arith)) (omega arith))
        ∙ sym (range-app u v (flat_b b) (flat_f f))

-- what is listed where the elements asked for are r
pub record Lists (m : Mem) (room : ℕ) (r : Map) (x : Listing) : Type 0 where
  pub sound : x.sound ≡ true
  pub keys : x.keys ≡ take room (keys_of r)
  pub payloads : map (λ (q : ℕ). get_or m.slots (payload_word q) 0) x.places ≡ take room (payloads_of r)
  pub more : x.more ≡ ltb room (size r)

take_none : (n : ℕ) → take {A = ℕ} n [] ≡ []
take_none zero = refl
take_none (suc n) = refl

lists-none : (m : Mem) (room : ℕ) → Lists m room [] (none false)
lists-none m room = record { sound = refl; keys = sym (take_none room); payloads = sym (take_none room); more = rw (le-ltb room 0 zero-le) }

shift : (a b : ℕ) → ltb a b ≡ ltb (suc a) (suc b)
shift a b = ⊎_elim (λ h. le-ltb a b h ∙ sym (le-ltb (suc a) (suc b) (omega arith))) (λ h. lt-ltb a b h ∙ sym (lt-ltb (suc a) (suc b) (omega arith))) (le_or_lt b a)

full-step : (m : Mem) (b : Bool) (x : ℕ × ℕ) (r : Map) (y : Listing) → Lists m 0 r y → Lists m 0 (pick b (x ∷ r) r) (pick b (none true) y)
full-step m true x r y l = record { sound = refl; keys = refl; payloads = refl; more = rw (lt-ltb 0 (suc (size r)) (omega arith)) }
full-step m false x r y l = l

room-step : (m : Mem) (b : Bool) (room q k : ℕ) (x : ℕ × ℕ) (r : Map) (y z : Listing) → k ≡ x.0 → get_or m.slots (payload_word q) 0 ≡ x.1 → Lists m room r y → Lists m (suc room) r z
    → Lists m (suc room) (pick b (x ∷ r) r) (pick b (first q k y) z)
room-step m true room q k x r y z e p l n = record {
  sound = l.sound;
  keys = ap (λ (i : ℕ). i ∷ y.keys) e ∙ ap (λ (i : List ℕ). x.0 ∷ i) l.keys;
  payloads = ap (λ (i : ℕ). i ∷ map (λ (q : ℕ). get_or m.slots (payload_word q) 0) y.places) p ∙ ap (λ (i : List ℕ). x.1 ∷ i) l.payloads;
  more = l.more ∙ shift room (size r);
}
room-step m false room q k x r y z e p l n = n

-- what is listed of items that show a map
module _ (m : Mem) (u v : ℕ) where
  list-step : (room q k : ℕ) (x : ℕ × ℕ) (l : Map) (is : List Item) → k ≡ x.0 → get_or m.slots (payload_word q) 0 ≡ x.1 → ((r : ℕ) → Lists m r (range u v l) (listing u v r is))
      → Lists m room (range u v (x ∷ l)) (listing u v room (Held q k ∷ is))
  unfolding listing
  list-step zero q k x l is e p ih =
      subst⁻¹ (λ (i : ℕ). Lists m zero (range u v (x ∷ l)) (pick (leb u i && leb i v) (none true) (listing u v zero is))) e (full-step m (leb u x.0 && leb x.0 v) x (range u v l) _ (ih zero))
  list-step (suc room) q k x l is e p ih =
      subst⁻¹ (λ (i : ℕ). Lists m (suc room) (range u v (x ∷ l)) (pick (leb u i && leb i v) (first q k (listing u v room is)) (listing u v (suc room) is))) e
      (room-step m (leb u x.0 && leb x.0 v) room q k x (range u v l) _ _ e p (ih room) (ih (suc room)))

  none-listed : (room : ℕ) → Lists m room [] (listing u v room [])
  unfolding listing
  none-listed room = lists-none m room

  pub lists_shown : (l : Map) (is : List Item) → Shows m l is → (room : ℕ) → Lists m room (range u v l) (listing u v room is)
  lists_shown [] [] s room = none-listed room
  lists_shown [] (i ∷ is) s room = absurd s
  lists_shown (x ∷ l) [] s room = absurd s
  lists_shown (x ∷ l) (Held q k ∷ is) s room = list-step room q k x l is s.0 s.1 (lists_shown l is s.2)
  lists_shown (x ∷ l) (Broken ∷ is) s room = absurd s
  lists_shown (x ∷ l) (End ∷ is) s room = absurd s
