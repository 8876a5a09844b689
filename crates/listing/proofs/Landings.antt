-- From item to item: what is left after an item is what the code reads on from, and an element outside u to v leaves the listing as it
-- was. Assumes nothing.
use mathlib.Core.Bool.{true, false, ◌&&◌}
use mathlib.Core.List.{List, [], ◌∷◌}
use mathlib.Core.Path.{◌≡◌, refl, sym, ap, subst, ◌∙◌}
use Prim.Native.Nat.{ℕ, ◌<◌, ◌≤◌}
use native.Mathlib.Omega.{arith}
use lib.Dec.{leb}
use lib.ListN.{length}
use Rattle.listing.specs.Listing.{listing, left, Inside, Lands}
use Rattle.listing.proofs.Listings.{outside_adds_nothing, between_inside, inside_between}
use Rattle.pool.specs.Memory.{Mem}
use Rattle.walk.specs.Cursors.{remains}
use Rattle.walk.specs.Items.{items}
use Rattle.walk.specs.Moves.{below, met, Holds, Standing, Finds, Sound}
use Rattle.walk.specs.declared.Event.{Event}
use Rattle.walk.specs.declared.Item.{Item}
use Rattle.walk.specs.declared.Item.TheVariants.{Held, Broken, End}
use Rattle.walk.specs.declared.Next.{Next}
use Rattle.walk.specs.declared.Rules.{Rules}
use Rattle.walk.specs.declared.Span.{Span}

-- an element met between u and v
pub held-inside : (u v : ℕ) (x : Next) (q k : ℕ) → x.item ≡ Held q k → Inside u v x.item → (leb u k && leb k v) ≡ true
held-inside u v x q k e b = between_inside u v k (subst (Inside u v) e b)

module _ (s : Span) (m : Mem) (above : ℕ) where
  -- what is left after an item
  abbrev pub rest : Next → List ℕ → List ℕ → List Item
  rest x rs js = items m x.rules (remains s m (below above x.cursor) x.cursor rs js)

  module _ (x : Next) (rs js : List ℕ) where
    pub left-held : (q k : ℕ) → x.item ≡ Held q k → left s m above x rs js ≡ Held q k ∷ rest x rs js
    unfolding left met
    left-held q k e = rw e

    pub left-broken : x.item ≡ Broken → left s m above x rs js ≡ Broken ∷ []
    unfolding left met
    left-broken e = rw e

    pub left_end : x.item ≡ End → left s m above x rs js ≡ []
    unfolding left met
    left_end e = rw e

    pub left-found : (ru : Rules) (es : List Event) → Finds s m above ru es x rs js → left s m above x rs js ≡ items m ru es
    unfolding left
    left-found ru es f = f.tells

  -- an element met
  module _ (x : Next) (q k : ℕ) (e : x.item ≡ Held q k) (st : Holds s m above x.item x.cursor) where
    pub held-stands : Standing s m above x.cursor
    held-stands = (subst (λ (i : Item). Holds s m above i x.cursor) e st).0

    pub held-sound : Sound m q k
    held-sound = (subst (λ (i : Item). Holds s m above i x.cursor) e st).1

-- the reading has come to x, and lists from there what the items `is` list
pub record Reached (s : Span) (m : Mem) (above u v : ℕ) (is : List Item) (x : Next) (rs js : List ℕ) : Type 0 where
  pub lists : (room : ℕ) → listing u v room (left s m above x rs js) ≡ listing u v room is
  pub fewer : length (left s m above x rs js) ≤ length is
  pub stands : Holds s m above x.item x.cursor

-- one item on, from an element
module _ (s : Span) (m : Mem) (above : ℕ) (x : Next) (rs js : List ℕ) (q k : ℕ) (e : x.item ≡ Held q k) where
  module _ (y : Next) (rs' js' : List ℕ) (f : Finds s m above x.rules (remains s m (below above x.cursor) x.cursor rs js) y rs' js') where
    one_on : left s m above x rs js ≡ Held q k ∷ left s m above y rs' js'
    one_on = left-held s m above x rs js q k e ∙ ap (λ (is : List Item). Held q k ∷ is) (sym (left-found s m above y rs' js' _ _ f))

    pub one_shorter : length (left s m above y rs' js') < length (left s m above x rs js)
    one_shorter = omega (arith, ap length one_on)

    pub reached_next : (u v : ℕ) (is : List Item) → (leb u k && leb k v) ≡ false → Reached s m above u v is x rs js → Reached s m above u v is y rs' js'
    reached_next u v is out r =
        record {
          lists = λ room. sym (ap (listing u v room) one_on ∙ outside_adds_nothing u v q k _ out room) ∙ r.lists room;
          fewer = omega (arith, one_shorter, r.fewer);
          stands = f.stands;
        }

module _ (s : Span) (m : Mem) (above u v : ℕ) (x : Next) (rs js : List ℕ) where
  pub reached_first : Holds s m above x.item x.cursor → Reached s m above u v (left s m above x rs js) x rs js
  reached_first st = record { lists = λ room. refl; fewer = omega arith; stands = st }

  -- the reading stops: at an element between u and v, at a broken rule, at the end
  module _ (is : List Item) (r : Reached s m above u v is x rs js) where
    lands_at : Inside u v x.item → Lands s m above u v is x rs js
    lands_at t = record { lists = r.lists; fewer = r.fewer; stands = r.stands; within = t }

    pub lands_in : (q k : ℕ) → x.item ≡ Held q k → (leb u k && leb k v) ≡ true → Lands s m above u v is x rs js
    lands_in q k e t = lands_at (subst (Inside u v) (sym e) (inside_between u v k t))

    pub lands_broken : x.item ≡ Broken → Lands s m above u v is x rs js
    lands_broken e = lands_at (subst (Inside u v) (sym e) tt)

    pub lands_end : x.item ≡ End → Lands s m above u v is x rs js
    lands_end e = lands_at (subst (Inside u v) (sym e) tt)

-- the same of the items of what was left
pub lands_of : {s : Span} {m : Mem} {above u v : ℕ} {is is' : List Item} {x : Next} {rs js : List ℕ} → is ≡ is' → Lands s m above u v is x rs js → Lands s m above u v is' x rs js
lands_of {s} {m} {above} {u} {v} e l =
    record {
      lists = λ room. l.lists room ∙ ap (listing u v room) e;
      fewer = rw (← e) l.fewer;
      stands = l.stands;
      within = l.within;
    }
