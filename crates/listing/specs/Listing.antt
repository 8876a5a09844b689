-- What is listed of the elements that a reading meets (document 01, "The calls": "elements with u <= key <= v in key order .. as many as
-- fit, and says how many and whether more remain"), for bands and rebuilds; and how the code makes it in two readings: what is left to
-- read from an item on, the next item between u and v, and what the first reading counts. Definitions only.
use Rattle.std.specs.Prelude.{Bool, true, false, ◌&&◌, List, [], ◌∷◌, ◌≡◌, ℕ, zero, suc, ◌+◌, ◌≤◌, leb, length, Result, Ok, Err}
use Rattle.laws.specs.Pick.{pick}
use Rattle.laws.specs.declared.Refusal.{Refusal}
use Rattle.laws.specs.declared.Refusal.TheVariants.{Damage}
use Rattle.listing.specs.declared.Listed.{Listed}
use Rattle.pool.specs.Memory.{Mem}
use Rattle.walk.specs.Cursors.{remains}
use Rattle.walk.specs.Items.{items}
use Rattle.walk.specs.Moves.{below, met, Holds}
use Rattle.walk.specs.declared.Item.{Item}
use Rattle.walk.specs.declared.Item.TheVariants.{Held, Broken, End}
use Rattle.walk.specs.declared.Next.{Next}
use Rattle.walk.specs.declared.Span.{Span}

-- what is listed: keys and their slots, whether more remain; or damage was met
pub record Listing : Type 0 where
  pub sound : Bool
  pub keys : List ℕ
  pub places : List ℕ
  pub more : Bool

abbrev pub none : Bool → Listing
none more = record { sound = true; keys = []; places = []; more = more }

abbrev pub spoilt : Listing
spoilt = record { sound = false; keys = []; places = []; more = false }

abbrev pub first : ℕ → ℕ → Listing → Listing
first q k l = record { sound = l.sound; keys = k ∷ l.keys; places = q ∷ l.places; more = l.more }

-- with so much room left
unfoldable pub listing : ℕ → ℕ → ℕ → List Item → Listing
listing u v room [] = none false
listing u v room (End ∷ is) = none false
listing u v room (Broken ∷ is) = spoilt
listing u v zero (Held q k ∷ is) = pick (leb u k && leb k v) (none true) (listing u v zero is)
listing u v (suc room) (Held q k ∷ is) = pick (leb u k && leb k v) (first q k (listing u v room is)) (listing u v (suc room) is)

-- an item and all that is left to read after it, `above` nodes lying above the reading
unfoldable pub left : Span → Mem → ℕ → Next → List ℕ → List ℕ → List Item
left s m above x rs js = met x.item (items m x.rules (remains s m (below above x.cursor) x.cursor rs js))

-- an element that is met lies between u and v
abbrev pub Inside : ℕ → ℕ → Item → Type 0
Inside u v (Held q k) = (u ≤ k) × (k ≤ v)
Inside u v Broken = Unit
Inside u v End = Unit

-- on to the next element between u and v, where the items `is` were left: it lists what they list
pub record Lands (s : Span) (m : Mem) (above u v : ℕ) (is : List Item) (to : Next) (rs js : List ℕ) : Type 0 where
  pub lists : (room : ℕ) → listing u v room (left s m above to rs js) ≡ listing u v room is
  pub fewer : length (left s m above to rs js) ≤ length is
  pub stands : Holds s m above to.item to.cursor
  pub within : Inside u v to.item

-- what the first reading finds: damage, or how many are listed after the n before, and whether more remain
unfoldable pub count_from : ℕ → Listing → Result Listed Refusal
count_from n l = pick l.sound (Ok (record { count = n + length l.keys; more = l.more })) (Err Damage)
