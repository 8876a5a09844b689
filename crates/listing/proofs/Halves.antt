-- The two halves of a rebuild's listing, up to the new key and from it on: each key lies where it is asked for, and together they are
-- no more than the rules allow. Assumes nothing.
use mathlib.Core.Bool.{true, false, ◌&&◌}
use mathlib.Core.List.{List, [], ◌∷◌}
use mathlib.Core.Logic.{⊎_elim}
use mathlib.Core.Path.{◌≡◌, ap}
use Prim.Native.Nat.{ℕ, zero, suc, ◌+◌, ◌-◌, ◌<◌, ◌≤◌}
use native.Mathlib.Omega.{arith}
use borrow.Author.Tests.{le-leb, lt-leb}
use lib.Dec.{leb}
use lib.ListN.{length, get_or}
use Rattle.laws.proofs.Tests.{both, le_or_lt}
use Rattle.listing.specs.Listing.{Listing, listing}
use Rattle.listing.proofs.Keys.{each_of, held_one, held_not_new}
use Rattle.listing.proofs.Listings.{inside_is_listed, inside_without_room, outside_adds_nothing, inside_between}
use Rattle.pool.specs.Memory.{Mem}
use Rattle.walk.specs.Items.{may_enter, may_hold, entered, holding, items}
use Rattle.walk.specs.declared.Event.{Event}
use Rattle.walk.specs.declared.Event.TheVariants.{Enter, Element, Damage, End}
use Rattle.walk.specs.declared.Item.{Item}
use Rattle.walk.specs.declared.Item.TheVariants.{Held, Broken, End as Over}
use Rattle.walk.specs.declared.Rules.{Rules}

-- every key listed lies between u and v
abbrev pub Between : ℕ → ℕ → List ℕ → Type 0
Between u v ks = (i : ℕ) → i < length ks → (u ≤ get_or ks i 0) × (get_or ks i 0 ≤ v)

module _ (u v : ℕ) where
  between_held : (room q k : ℕ) (is : List Item) → ((n : ℕ) → Between u v (listing u v n is).keys) → Between u v (listing u v room (Held q k ∷ is)).keys
  between_held zero q k is h =
      both (leb u k && leb k v)
      (λ t. rw (inside_without_room u v q k is t) (λ i lt. absurd (omega arith)))
      (λ t. rw (outside_adds_nothing u v q k is t 0) (h 0))
  between_held (suc room) q k is h =
      both (leb u k && leb k v)
      (λ t. rw (inside_is_listed u v q k is t room) (each_of (λ (x : ℕ). (u ≤ x) × (x ≤ v)) k (listing u v room is).keys (inside_between u v k t) (h room)))
      (λ t. rw (outside_adds_nothing u v q k is t (suc room)) (h (suc room)))

  pub listed_between : (room : ℕ) (is : List Item) → Between u v (listing u v room is).keys
  unfolding listing
  listed_between room [] = λ i lt. absurd (omega arith)
  listed_between room (Over ∷ is) = λ i lt. absurd (omega arith)
  listed_between room (Broken ∷ is) = λ i lt. absurd (omega arith)
  listed_between room (Held q k ∷ is) = between_held room q k is (λ n. listed_between n is)

  -- an item adds one key at most, and none if it lies elsewhere
  adds_one : (room q k : ℕ) (is : List Item) → (r : ℕ) × (length (listing u v room (Held q k ∷ is)).keys ≤ 1 + length (listing u v r is).keys)
  adds_one zero q k is =
      both (leb u k && leb k v)
      (λ t. (0, rw (inside_without_room u v q k is t) (omega arith)))
      (λ t. (0, rw (outside_adds_nothing u v q k is t 0) (omega arith)))
  adds_one (suc room) q k is =
      both (leb u k && leb k v)
      (λ t. (room, rw (inside_is_listed u v q k is t room) (omega arith)))
      (λ t. (suc room, rw (outside_adds_nothing u v q k is t (suc room)) (omega arith)))

  outside_adds_none : (room q k : ℕ) (is : List Item) → (leb u k && leb k v) ≡ false
      → length (listing u v room (Held q k ∷ is)).keys ≡ length (listing u v room is).keys
  outside_adds_none room q k is t = ap (λ (l : Listing). length l.keys) (outside_adds_nothing u v q k is t room)

module _ (m : Mem) (last : ℕ) where
  -- how many keys the two halves have
  abbrev halves : ℕ → ℕ → ℕ → List Item → ℕ
  halves k a b is = length (listing 0 k a is).keys + length (listing k last b is).keys

  module _ (k q j : ℕ) (is : List Item) (new : j ≡ k → ⊥) where
    lower : j ≤ k → j < k
    lower le = ⊎_elim (λ (ge : k ≤ j). absurd (new (omega arith))) (λ (lt : j < k). lt) (le_or_lt k j)

    halves_held : (a b most : ℕ) → 1 ≤ most → ((c d : ℕ) → halves k c d is ≤ most - 1) → halves k a b (Held q j ∷ is) ≤ most
    halves_held a b most one h =
        ⊎_elim
        (λ (le : j ≤ k).
        let f : (leb k j && leb j last) ≡ false = rw (lt-leb k j (lower le)) in
        let o = adds_one 0 k a q j is in
        omega (arith, one, o.1, outside_adds_none k last b q j is f, h o.0 b))
        (λ (lt : k < j).
        let f : (leb 0 j && leb j k) ≡ false = rw (le-leb 0 j (omega arith), lt-leb j k lt) in
        let o = adds_one k last b q j is in
        omega (arith, one, o.1, outside_adds_none 0 k a q j is f, h a o.0))
        (le_or_lt j k)

  -- "more keys than the capacity": both halves together have no more than the rules allow
  pub halves_few : (ru : Rules) → ru.rebuild ≡ true → (a b : ℕ) (es : List Event) → halves ru.fresh a b (items m ru es) ≤ ru.keys
  unfolding listing items
  halves_few ru r a b [] = omega arith
  halves_few ru r a b (Enter n x ∷ es) = both (may_enter m ru x) (λ t. rw t (halves_few (entered ru) r a b es)) (λ t. rw t (omega arith))
  halves_few ru r a b (Element q k ∷ es) =
      both (may_hold ru k)
      (λ t. rw t (halves_held ru.fresh q k (items m (holding ru k) es) (held_not_new ru k t r) a b ru.keys (held_one ru k t r) (λ c d. halves_few (holding ru k) r c d es)))
      (λ t. rw t (omega arith))
  halves_few ru r a b (Damage c ∷ es) = omega arith
  halves_few ru r a b (End ∷ es) = omega arith
