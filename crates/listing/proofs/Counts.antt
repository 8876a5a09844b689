-- The first reading, element by element: how many are listed, and whether more remain. Assumes nothing.
use mathlib.Core.Bool.{true, false}
use mathlib.Core.List.{List, ◌∷◌}
use mathlib.Core.Path.{◌≡◌, sym, ap, ◌∙◌}
use Prim.Native.Nat.{ℕ, suc, ◌+◌, ◌-◌, ◌<◌, ◌≤◌}
use native.Mathlib.Nat.{add-zero}
use native.Mathlib.Omega.{arith}
use lib.ListN.{length}
use Rattle.laws.proofs.Tests.{both}
use Rattle.listing.specs.Listing.{Listing, listing, first, left, Inside, Lands, count_from}
use Rattle.std.specs.Prelude.{Result, Ok, Err}
use Rattle.laws.specs.declared.Refusal.{Refusal}
use Rattle.laws.specs.declared.Refusal.TheVariants.{Damage}
use Rattle.listing.specs.declared.Listed.{Listed}
use Rattle.listing.proofs.Landings.{rest, left-held, left-broken, left_end, held-inside}
use Rattle.listing.proofs.Listings.{inside_is_listed, inside_without_room, listing-fits}
use Rattle.pool.specs.Memory.{Mem}
use Rattle.walk.specs.Moves.{Holds}
use Rattle.walk.specs.declared.Item.{Item}
use Rattle.walk.specs.declared.Item.TheVariants.{Held, Broken, End}
use Rattle.walk.specs.declared.Next.{Next}
use Rattle.walk.specs.declared.Span.{Span}

-- n elements were counted, and x is the next; with what is left the count is `whole`
pub record Counting (s : Span) (m : Mem) (above u v room : ℕ) (whole : Result Listed Refusal) (n : ℕ) (x : Next) (rs js : List ℕ) : Type 0 where
  pub fits : n ≤ room
  pub stands : Holds s m above x.item x.cursor
  pub within : Inside u v x.item
  pub counts : count_from n (listing u v (room - n) (left s m above x rs js)) ≡ whole

-- one more in front
count-one : (n q k : ℕ) (l : Listing) → count_from n (first q k l) ≡ count_from (n + 1) l
unfolding count_from
count-one n q k l =
    let e : n + suc (length l.keys) ≡ n + 1 + length l.keys = omega arith in
    rw e

module _ (s : Span) (m : Mem) (above u v room : ℕ) where
  -- none is counted yet
  pub counting_first : (is : List Item) (x : Next) (rs js : List ℕ) → Lands s m above u v is x rs js
      → Counting s m above u v room (count_from 0 (listing u v room (left s m above x rs js))) 0 x rs js
  counting_first is x rs js l =
      let z : room - 0 ≡ room = omega arith in
      record { fits = omega arith; stands = l.stands; within = l.within; counts = rw z }

  module _ (whole : Result Listed Refusal) (n : ℕ) (x : Next) (rs js : List ℕ) (c : Counting s m above u v room whole n x rs js) where
    -- an element between u and v
    module _ (q k : ℕ) (e : x.item ≡ Held q k) where
      at_element : count_from n (listing u v (room - n) (Held q k ∷ rest s m above x rs js)) ≡ whole
      at_element = ap (λ (is : List Item). count_from n (listing u v (room - n) is)) (sym (left-held s m above x rs js q k e)) ∙ c.counts

      pub counting_full : room ≤ n → Ok (record { count = n; more = true }) ≡ whole
      unfolding count_from
      counting_full h =
          let z : room - n ≡ 0 = omega arith in
          rw (z, inside_without_room u v q k (rest s m above x rs js) (held-inside u v x q k e c.within), add-zero n) at at_element

      pub counting_next : n < room → (y : Next) (rs' js' : List ℕ) → Lands s m above u v (rest s m above x rs js) y rs' js'
          → Counting s m above u v room whole (n + 1) y rs' js'
      counting_next h y rs' js' l =
          let z : room - n ≡ suc (room - (n + 1)) = omega arith in
          let t = inside_is_listed u v q k (rest s m above x rs js) (held-inside u v x q k e c.within) (room - (n + 1)) in
          record {
            fits = omega arith;
            stands = l.stands;
            within = l.within;
            counts = ap (count_from (n + 1)) (l.lists (room - (n + 1))) ∙ sym (count-one n q k _) ∙ ap (count_from n) (sym t) ∙ rw z at at_element;
          }

      pub counting_less : (y : Next) (rs' js' : List ℕ) → Lands s m above u v (rest s m above x rs js) y rs' js'
          → length (left s m above y rs' js') < length (left s m above x rs js)
      counting_less y rs' js' l = omega (arith, l.fewer, ap length (left-held s m above x rs js q k e))

    pub counting_broken : x.item ≡ Broken → Err Damage ≡ whole
    unfolding listing count_from
    counting_broken e = rw (left-broken s m above x rs js e) at c.counts

    pub counting_end : x.item ≡ End → Ok (record { count = n; more = false }) ≡ whole
    unfolding listing count_from
    counting_end e = rw (left_end s m above x rs js e, add-zero n) at c.counts

-- what was counted, of the listing
module _ (l : Listing) where
  pub counted_done : (x : Listed) → Ok x ≡ count_from 0 l → (l.sound ≡ true) × (x.count ≡ length l.keys) × (x.more ≡ l.more)
  unfolding count_from
  counted_done x e =
      both l.sound
      (λ t.
      let s : Ok x ≡ Ok (record { count = 0 + length l.keys; more = l.more }) = rw t at e in
      let o : x ≡ record { count = 0 + length l.keys; more = l.more } = cc in
      let a : x.count ≡ 0 + length l.keys = ap (λ (y : Listed). y.count) o in
      let b : x.more ≡ l.more = ap (λ (y : Listed). y.more) o in
      (t, omega (arith, a), b))
      (λ t. let s : Ok x ≡ Err Damage = rw t at e in absurd (let z : ◌≡◌ {A = ℕ} 0 1 = cc in omega arith))

  pub counted_damage : (r : Refusal) → Err r ≡ count_from 0 l → (l.sound ≡ false) × (r ≡ Damage)
  unfolding count_from
  counted_damage r e =
      both l.sound
      (λ t. let s : Err r ≡ Ok (record { count = 0 + length l.keys; more = l.more }) = rw t at e in absurd (let z : ◌≡◌ {A = ℕ} 0 1 = cc in omega arith))
      (λ t. let s : Err r ≡ Err Damage = rw t at e in (t, cc))

-- what was counted fits the room
pub counted_fits : (u v room : ℕ) (is : List Item) (x : Listed) → Ok x ≡ count_from 0 (listing u v room is) → x.count ≤ room
counted_fits u v room is x e = omega (arith, (counted_done (listing u v room is) x e).1, listing-fits u v is room)
