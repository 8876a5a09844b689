-- Reading a tree in slot order: what a band or a rebuild meets, one thing after the other, on every memory. In each node it
-- takes the slots from a first to a last: those of u and v in a band, all in a rebuild. Definitions only.
use Rattle.std.specs.Prelude.{List, [], ◌∷◌, ◌++◌, ℕ, zero, suc, ◌+◌, ◌-◌, Err, Ok, Result}
use Rattle.model.specs.Slots.{value_of, slot_of}
use Rattle.model.specs.declared.Model.{Model}
use Rattle.pool.specs.Memory.{Mem}
use Rattle.pool.specs.Reading.{node_at, slot_at}
use Rattle.pool.specs.declared.Node.{Node}
use Rattle.pool.specs.declared.Slot.{Slot}
use Rattle.pool.specs.declared.Slot.TheVariants.{Null, Data, Child}
use Rattle.walk.specs.Walks.{longest_path}
use Rattle.walk.specs.declared.Event.{Event}
use Rattle.walk.specs.declared.Event.TheVariants.{Enter, Element, Damage}
use Rattle.walk.specs.declared.Span.{Span}
use Rattle.walk.specs.declared.Span.TheVariants.{Between, Whole}
use Rattle.pool.specs.declared.Rule.{Rule}
use Rattle.pool.specs.declared.Rule.TheVariants.{PathTooLong}

-- the first and the last slot that a reading takes in a node
unfoldable pub first_in : Span → Model → ℕ
first_in (Between u v) m = slot_of m (value_of u)
first_in Whole m = 0

unfoldable pub last_in : Span → Model → ℕ
last_in (Between u v) m = slot_of m (value_of v)
last_in Whole m = m.l - 1

-- how many slots that is
unfoldable pub count_in : Span → Model → ℕ
count_in s m = last_in s m + 1 - first_in s m

-- what one slot adds: nothing, an element with its slot, all below a child, or a broken rule
unfoldable pub in_slot : (ℕ → List Event) → ℕ → Result Slot Rule → List Event
in_slot below q (Ok Null) = []
in_slot below q (Ok (Data k)) = Element q k ∷ []
in_slot below q (Ok (Child c)) = below c
in_slot below q (Err c) = Damage c ∷ []

-- n slots of a node, from slot j on
unfoldable pub in_slots : (ℕ → List Event) → Mem → Node → ℕ → ℕ → List Event
in_slots below m node zero j = []
in_slots below m node (suc n) j = in_slot below (node.start + j) (slot_at m.slots node j) ++ in_slots below m node n (j + 1)

-- a record met: a broken rule, or the node and then its slots
unfoldable pub in_record : Span → (ℕ → List Event) → Mem → ℕ → Result Node Rule → List Event
in_record s below m r (Ok n) = Enter r n ∷ in_slots below m n (count_in s n.model) (first_in s n.model)
in_record s below m r (Err c) = Damage c ∷ []

-- a record at a place past the longest path: its own rules come first
unfoldable pub too_long : Result Node Rule → List Event
too_long (Ok n) = Damage PathTooLong ∷ []
too_long (Err c) = Damage c ∷ []

-- the tree below record r, with d nodes left on the path
unfoldable pub events_at : Span → Mem → ℕ → ℕ → List Event
events_at s m zero r = too_long (node_at m r)
events_at s m (suc d) r = in_record s (events_at s m d) m r (node_at m r)

-- the tree below record r, whose path has `above` nodes before it
unfoldable pub events_of : Span → Mem → ℕ → ℕ → List Event
events_of s m above r = events_at s m (longest_path - above) r
