-- What holds of every listing of a reading, on any memory: its keys rise and are keys, its slots are slots of the pool, one for each key;
-- and in a rebuild there are no more keys than the rules allow, the new key is none of them, and with room for so many none is left over.
-- Assumes nothing.
use mathlib.Core.Bool.{Bool, true, false, ◌&&◌, not}
use mathlib.Core.List.{List, [], ◌∷◌}
use mathlib.Core.Path.{◌≡◌, refl, ap}
use Prim.Native.Nat.{ℕ, zero, suc, ◌-◌, ◌<◌, ◌≤◌}
use native.Mathlib.Omega.{arith}
use borrow.Author.Tests.{leb-true, eqb-false, not-true}
use lib.Dec.{leb, eqb}
use lib.ListN.{length, get_or}
use Rattle.laws.proofs.Tests.{both, and_both}
use Rattle.laws.specs.Keys.{key_bound, Rising}
use Rattle.listing.specs.Listing.{Listing, listing, first}
use Rattle.listing.proofs.Elements.{AllSound, events_sound}
use Rattle.listing.proofs.Listings.{inside_is_listed, inside_without_room, outside_adds_nothing}
use Rattle.pool.specs.Memory.{Mem, slots_in}
use Rattle.walk.specs.Events.{events_of}
use Rattle.walk.specs.Items.{may_enter, may_hold, entered, holding, items}
use Rattle.walk.specs.Moves.{Sound}
use Rattle.walk.specs.declared.Event.{Event}
use Rattle.walk.specs.declared.Event.TheVariants.{Enter, Element, Damage, End}
use Rattle.walk.specs.declared.Item.{Item}
use Rattle.walk.specs.declared.Item.TheVariants.{Held}
use Rattle.walk.specs.declared.Rules.{Rules}
use Rattle.walk.specs.declared.Span.{Span}

-- what the rules of a reading make of a listing
pub record Ruled (m : Mem) (ru : Rules) (l : Listing) : Type 0 where
  pub rising : Rising l.keys
  pub least : (i : ℕ) → i < length l.keys → ru.least ≤ get_or l.keys i 0
  pub few : ru.rebuild ≡ true → length l.keys ≤ ru.keys
  pub new : ru.rebuild ≡ true → (i : ℕ) → i < length l.keys → get_or l.keys i 0 ≡ ru.fresh → ⊥
  pub paired : length l.places ≡ length l.keys
  pub within : (i : ℕ) → i < length l.places → get_or l.places i 0 < slots_in m.slots

-- what holds of a number and of all that follow it holds of all
pub each_of : (P : ℕ → Type 0) (x : ℕ) (xs : List ℕ) → P x → ((i : ℕ) → i < length xs → P (get_or xs i 0)) → (i : ℕ) → i < length (x ∷ xs) → P (get_or (x ∷ xs) i 0)
each_of P x xs p ps zero h = p
each_of P x xs p ps (suc i) h = ps i (omega arith)

-- a key below all of a rising list, in front of it
module _ (k : ℕ) (ks : List ℕ) (lower : (i : ℕ) → i < length ks → k < get_or ks i 0) (r : Rising ks) where
  first-rises : (i j : ℕ) → i < j → j < length (k ∷ ks) → get_or (k ∷ ks) i 0 < get_or (k ∷ ks) j 0
  first-rises i zero a h = absurd (omega arith)
  first-rises zero (suc j) a h = lower j (omega arith)
  first-rises (suc i) (suc j) a h = r.rises i j (omega arith) (omega arith)

  rising-first : k < key_bound → Rising (k ∷ ks)
  rising-first b = record { below = each_of (λ (x : ℕ). x < key_bound) k ks b r.below; rises = first-rises }

-- a key that may be read
module _ (ru : Rules) (k : ℕ) (e : may_hold ru k ≡ true) where
  held-rises : ru.least ≤ k
  unfolding may_hold
  held-rises = leb-true ru.least k (and_both (leb ru.least k) _ e).0

  module _ (r : ru.rebuild ≡ true) where
    held_allowed : (leb 1 ru.keys && not (eqb k ru.fresh)) ≡ true
    unfolding may_hold
    held_allowed = rw r at (and_both (leb ru.least k) _ e).1

    pub held_one : 1 ≤ ru.keys
    held_one = leb-true 1 ru.keys (and_both (leb 1 ru.keys) _ held_allowed).0

    pub held_not_new : k ≡ ru.fresh → ⊥
    held_not_new = eqb-false k ru.fresh (not-true (eqb k ru.fresh) (and_both (leb 1 ru.keys) _ held_allowed).1)

module _ (m : Mem) (ru : Rules) where
  -- nothing listed
  ruled_none : (sound : Bool) (more : Bool) → Ruled m ru (record { sound = sound; keys = []; places = []; more = more })
  ruled_none sound more =
      record {
        rising = record { below = λ i h. absurd (omega arith); rises = λ i j a h. absurd (omega arith) };
        least = λ i h. absurd (omega arith);
        few = λ e. omega arith;
        new = λ e i h. absurd (omega arith);
        paired = refl;
        within = λ i h. absurd (omega arith);
      }

  -- after a node that was entered
  ruled_entered : (l : Listing) → Ruled m (entered ru) l → Ruled m ru l
  ruled_entered l h = record { rising = h.rising; least = h.least; few = h.few; new = h.new; paired = h.paired; within = h.within }

  -- after a key that was read: not listed, or listed
  module _ (q k : ℕ) (may : may_hold ru k ≡ true) (l : Listing) (h : Ruled m (holding ru k) l) where
    above-least : (i : ℕ) → i < length l.keys → ru.least ≤ get_or l.keys i 0
    above-least i lt = omega (arith, held-rises ru k may, h.least i lt)

    ruled_outside : Ruled m ru l
    ruled_outside =
        record {
          rising = h.rising;
          least = above-least;
          few = λ r. omega (arith, h.few r);
          new = h.new;
          paired = h.paired;
          within = h.within;
        }

    ruled_first : Sound m q k → Ruled m ru (first q k l)
    ruled_first s =
        record {
          rising = rising-first k l.keys (λ i lt. omega (arith, h.least i lt)) h.rising s.key;
          least = each_of (λ (x : ℕ). ru.least ≤ x) k l.keys (held-rises ru k may) above-least;
          few = λ r. omega (arith, h.few r, held_one ru k may r);
          new = λ r. each_of (λ (x : ℕ). x ≡ ru.fresh → ⊥) k l.keys (held_not_new ru k may r) (h.new r);
          paired = ap suc h.paired;
          within = each_of (λ (x : ℕ). x < slots_in m.slots) q l.places s.slot h.within;
        }

module _ (m : Mem) (u v : ℕ) where
  ruled_held : (room : ℕ) (ru : Rules) (q k : ℕ) (is : List Item) → may_hold ru k ≡ true → Sound m q k
      → ((n : ℕ) → Ruled m (holding ru k) (listing u v n is)) → Ruled m ru (listing u v room (Held q k ∷ is))
  ruled_held zero ru q k is may s h =
      both (leb u k && leb k v)
      (λ t. rw (inside_without_room u v q k is t) (ruled_none m ru true true))
      (λ t. rw (outside_adds_nothing u v q k is t 0) (ruled_outside m ru q k may _ (h 0)))
  ruled_held (suc room) ru q k is may s h =
      both (leb u k && leb k v)
      (λ t. rw (inside_is_listed u v q k is t room) (ruled_first m ru q k may _ (h room) s))
      (λ t. rw (outside_adds_nothing u v q k is t (suc room)) (ruled_outside m ru q k may _ (h (suc room))))

  pub events_ruled : (room : ℕ) (ru : Rules) (es : List Event) → AllSound m es → Ruled m ru (listing u v room (items m ru es))
  unfolding listing items
  events_ruled room ru [] a = ruled_none m ru true false
  events_ruled room ru (Enter r n ∷ es) a =
      both (may_enter m ru n) (λ t. rw t (ruled_entered m ru _ (events_ruled room (entered ru) es a))) (λ t. rw t (ruled_none m ru false false))
  events_ruled room ru (Element q k ∷ es) a =
      both (may_hold ru k)
      (λ t. rw t (ruled_held room ru q k (items m (holding ru k) es) t a.0 (λ n. events_ruled n (holding ru k) es a.1)))
      (λ t. rw t (ruled_none m ru false false))
  events_ruled room ru (Damage c ∷ es) a = ruled_none m ru false false
  events_ruled room ru (End ∷ es) a = ruled_none m ru true false

  -- a listing of a tree
  pub listing_ruled : (room : ℕ) (ru : Rules) (s : Span) (above r : ℕ) → Ruled m ru (listing u v room (items m ru (events_of s m above r)))
  listing_ruled room ru s above r = events_ruled room ru (events_of s m above r) (events_sound m s above r)

-- in a rebuild whose room is for as many keys as its rules allow, none is left over
module _ (m : Mem) (u v : ℕ) where
  all_held : (room : ℕ) (ru : Rules) (q k : ℕ) (is : List Item) → may_hold ru k ≡ true → ru.rebuild ≡ true → ru.keys ≤ room
      → ((n : ℕ) → ru.keys - 1 ≤ n → (listing u v n is).more ≡ false) → (listing u v room (Held q k ∷ is)).more ≡ false
  all_held zero ru q k is may r fits h = absurd (omega (arith, held_one ru k may r))
  all_held (suc room) ru q k is may r fits h =
      both (leb u k && leb k v)
      (λ t. rw (inside_is_listed u v q k is t room) (h room (omega arith)))
      (λ t. rw (outside_adds_nothing u v q k is t (suc room)) (h (suc room) (omega arith)))

  pub none-left_over : (room : ℕ) (ru : Rules) (es : List Event) → ru.rebuild ≡ true → ru.keys ≤ room → (listing u v room (items m ru es)).more ≡ false
  unfolding listing items
  none-left_over room ru [] r fits = refl
  none-left_over room ru (Enter n x ∷ es) r fits =
      both (may_enter m ru x) (λ t. rw t (none-left_over room (entered ru) es r fits)) (λ t. rw t refl)
  none-left_over room ru (Element q k ∷ es) r fits =
      both (may_hold ru k)
      (λ t. rw t (all_held room ru q k (items m (holding ru k) es) t r fits (λ n h. none-left_over n (holding ru k) es r h)))
      (λ t. rw t refl)
  none-left_over room ru (Damage c ∷ es) r fits = refl
  none-left_over room ru (End ∷ es) r fits = refl
