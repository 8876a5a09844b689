-- What a listing says of the reading that it lists: where a rebuild's listing has room for as many keys as its rules allow and is sound, no
-- rule was broken at all; and what holds of every element's slot holds of every place listed. Assumes nothing.
use mathlib.Core.Bool.{true, ◌&&◌}
use mathlib.Core.List.{List, [], ◌∷◌}
use mathlib.Core.Path.{◌≡◌, sym}
use Prim.Native.Nat.{ℕ, zero, suc, ◌-◌, ◌≤◌}
use native.Mathlib.Omega.{arith}
use lib.Dec.{leb}
use Rattle.laws.proofs.Tests.{both, true_not_false}
use Rattle.listing.specs.Listing.{listing}
use Rattle.listing.proofs.Keys.{held_one}
use Rattle.listing.proofs.Listings.{inside_is_listed, inside_without_room, outside_adds_nothing}
use Rattle.pool.specs.Memory.{Mem}
use Rattle.walk.proofs.Elements.{Each}
use Rattle.walk.proofs.Grown.{Unbroken}
use Rattle.walk.specs.Items.{may_enter, may_hold, entered, holding, items}
use Rattle.walk.specs.declared.Event.{Event}
use Rattle.walk.specs.declared.Event.TheVariants.{Enter, Element, Damage, End}
use Rattle.walk.specs.declared.Item.{Item}
use Rattle.walk.specs.declared.Item.TheVariants.{Held}
use Rattle.walk.specs.declared.Rules.{Rules}

-- what holds of each number of a list
abbrev pub All : (ℕ → Type 0) → List ℕ → Type 0
All P [] = Unit
All P (x ∷ xs) = P x × All P xs

module _ (m : Mem) (u v : ℕ) where
  held_unbroken : (room : ℕ) (ru : Rules) (q k : ℕ) (is : List Item) → may_hold ru k ≡ true → ru.rebuild ≡ true → ru.keys ≤ room
      → ((n : ℕ) → ru.keys - 1 ≤ n → (listing u v n is).sound ≡ true → Unbroken is) → (listing u v room (Held q k ∷ is)).sound ≡ true → Unbroken is
  held_unbroken zero ru q k is may r fits h e = absurd (omega (arith, held_one ru k may r))
  held_unbroken (suc room) ru q k is may r fits h e =
      both (leb u k && leb k v)
      (λ t. h room (omega arith) (rw (inside_is_listed u v q k is t room) at e))
      (λ t. h (suc room) (omega arith) (rw (outside_adds_nothing u v q k is t (suc room)) at e))

  pub sound_unbroken : (room : ℕ) (ru : Rules) (es : List Event) → ru.rebuild ≡ true → ru.keys ≤ room
      → (listing u v room (items m ru es)).sound ≡ true → Unbroken (items m ru es)
  unfolding listing items
  sound_unbroken room ru [] r fits e = tt
  sound_unbroken room ru (Enter x n ∷ es) r fits e =
      both (may_enter m ru n)
      (λ t. rw t (sound_unbroken room (entered ru) es r fits (rw t at e)))
      (λ t. absurd (true_not_false (sym (rw t at e))))
  sound_unbroken room ru (Element q k ∷ es) r fits e =
      both (may_hold ru k)
      (λ t. rw t (held_unbroken room ru q k (items m (holding ru k) es) t r fits (λ n h. sound_unbroken n (holding ru k) es r h) (rw t at e)))
      (λ t. absurd (true_not_false (sym (rw t at e))))
  sound_unbroken room ru (Damage c ∷ es) r fits e = absurd (true_not_false (sym e))
  sound_unbroken room ru (End ∷ es) r fits e = tt

  module _ (P : ℕ → Type 0) where
    held_all : (room q k : ℕ) (is : List Item) → P q → ((n : ℕ) → All P (listing u v n is).places) → All P (listing u v room (Held q k ∷ is)).places
    held_all zero q k is p h =
        both (leb u k && leb k v)
        (λ t. rw (inside_without_room u v q k is t) tt)
        (λ t. rw (outside_adds_nothing u v q k is t 0) (h 0))
    held_all (suc room) q k is p h =
        both (leb u k && leb k v)
        (λ t. rw (inside_is_listed u v q k is t room) (p, h room))
        (λ t. rw (outside_adds_nothing u v q k is t (suc room)) (h (suc room)))

    pub places-all : (room : ℕ) (ru : Rules) (es : List Event) → Each (λ (q k : ℕ). P q) es → All P (listing u v room (items m ru es)).places
    unfolding listing items
    places-all room ru [] a = tt
    places-all room ru (Enter r n ∷ es) a = both (may_enter m ru n) (λ t. rw t (places-all room (entered ru) es a)) (λ t. rw t tt)
    places-all room ru (Element q k ∷ es) a =
        both (may_hold ru k)
        (λ t. rw t (held_all room q k (items m (holding ru k) es) a.0 (λ n. places-all n (holding ru k) es a.1)))
        (λ t. rw t tt)
    places-all room ru (Damage c ∷ es) a = tt
    places-all room ru (End ∷ es) a = tt
