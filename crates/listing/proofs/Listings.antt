-- A listing, item by item: what an element outside u to v adds, what one inside does with room and without; a listing fits its room, and
-- with room for just what it lists it lists the same. Assumes nothing.
use mathlib.Core.Bool.{true, false, ◌&&◌}
use mathlib.Core.List.{List, [], ◌∷◌}
use mathlib.Core.Path.{◌≡◌, refl, ap}
use Prim.Native.Nat.{ℕ, zero, suc, ◌+◌, ◌≤◌}
use native.Mathlib.Omega.{arith}
use borrow.Author.Tests.{le-leb, leb-true}
use lib.Dec.{leb}
use lib.ListN.{length}
use Rattle.laws.proofs.Tests.{both, and_both, and_true}
use Rattle.listing.specs.Listing.{listing, none, first}
use Rattle.walk.specs.declared.Item.{Item}
use Rattle.walk.specs.declared.Item.TheVariants.{Held, Broken, End}

-- one element in front
module _ (u v q k : ℕ) (is : List Item) where
  pub outside_adds_nothing : (leb u k && leb k v) ≡ false → (room : ℕ) → listing u v room (Held q k ∷ is) ≡ listing u v room is
  unfolding listing
  outside_adds_nothing e zero = rw e
  outside_adds_nothing e (suc room) = rw e

  pub inside_is_listed : (leb u k && leb k v) ≡ true → (room : ℕ) → listing u v (suc room) (Held q k ∷ is) ≡ first q k (listing u v room is)
  unfolding listing
  inside_is_listed e room = rw e

  pub inside_without_room : (leb u k && leb k v) ≡ true → listing u v 0 (Held q k ∷ is) ≡ none true
  unfolding listing
  inside_without_room e = rw e

pub between_inside : (u v k : ℕ) → (u ≤ k) × (k ≤ v) → (leb u k && leb k v) ≡ true
between_inside u v k h = and_true (le-leb u k h.0) (le-leb k v h.1)

pub inside_between : (u v k : ℕ) → (leb u k && leb k v) ≡ true → (u ≤ k) × (k ≤ v)
inside_between u v k e = let b = and_both (leb u k) _ e in (leb-true u k b.0, leb-true k v b.1)

module _ (u v : ℕ) where
  -- without room nothing is listed
  pub listing_without_room : (is : List Item) → ((listing u v 0 is).keys ≡ []) × ((listing u v 0 is).places ≡ [])
  unfolding listing
  listing_without_room [] = (refl, refl)
  listing_without_room (End ∷ is) = (refl, refl)
  listing_without_room (Broken ∷ is) = (refl, refl)
  listing_without_room (Held q k ∷ is) =
      both (leb u k && leb k v)
      (λ t. rw (inside_without_room u v q k is t) (refl, refl))
      (λ t. rw (outside_adds_nothing u v q k is t 0) (listing_without_room is))

  -- with room for just what another lists it lists the same
  pub relisted : (is : List Item) (room : ℕ) → ((listing u v (length (listing u v room is).keys) is).keys ≡ (listing u v room is).keys)
      × ((listing u v (length (listing u v room is).keys) is).places ≡ (listing u v room is).places)
  unfolding listing
  relisted [] room = (refl, refl)
  relisted (End ∷ is) room = (refl, refl)
  relisted (Broken ∷ is) room = (refl, refl)
  relisted (Held q k ∷ is) zero =
      both (leb u k && leb k v)
      (λ t. rw (inside_without_room u v q k is t) (listing_without_room (Held q k ∷ is)))
      (λ t. rw (outside_adds_nothing u v q k is t 0, outside_adds_nothing u v q k is t) (relisted is 0))
  relisted (Held q k ∷ is) (suc room) =
      both (leb u k && leb k v)
      (λ t.
      rw (inside_is_listed u v q k is t room, inside_is_listed u v q k is t (length (listing u v room is).keys))
      (ap (λ (l : List ℕ). k ∷ l) (relisted is room).0, ap (λ (l : List ℕ). q ∷ l) (relisted is room).1))
      (λ t. rw (outside_adds_nothing u v q k is t (suc room), outside_adds_nothing u v q k is t) (relisted is (suc room)))

  pub listing-fits : (is : List Item) (room : ℕ) → length (listing u v room is).keys ≤ room
  unfolding listing
  listing-fits [] room = omega arith
  listing-fits (End ∷ is) room = omega arith
  listing-fits (Broken ∷ is) room = omega arith
  listing-fits (Held q k ∷ is) zero =
      both (leb u k && leb k v)
      (λ t. rw (inside_without_room u v q k is t) (omega arith))
      (λ t. rw (outside_adds_nothing u v q k is t 0) (listing-fits is 0))
  listing-fits (Held q k ∷ is) (suc room) =
      both (leb u k && leb k v)
      (λ t. rw (inside_is_listed u v q k is t room) (omega (arith, listing-fits is room)))
      (λ t. rw (outside_adds_nothing u v q k is t (suc room)) (listing-fits is (suc room)))

  -- written from a place on, it stays within a list that has the room
  pub listing-within : (is : List Item) (at room len : ℕ) → at + room ≤ len → at + length (listing u v room is).keys ≤ len
  listing-within is at room len h = omega (arith, listing-fits is room)
