-- A reading as the code makes it, one step after the other: what a cursor has still to meet. The cursor holds the node it reads;
-- the nodes above it within the reading stand in two lent lists, record and next slot of each. Definitions only.
use Rattle.std.specs.Prelude.{List, [], ◌∷◌, ◌++◌, ℕ, zero, suc, ◌+◌, ◌-◌, get_or, Err, Ok, Result}
use Rattle.pool.specs.Memory.{Mem}
use Rattle.pool.specs.Reading.{node_at}
use Rattle.walk.specs.Events.{last_in, in_slots, events_at}
use Rattle.walk.specs.declared.Cursor.{Cursor}
use Rattle.walk.specs.declared.Event.{Event}
use Rattle.walk.specs.declared.Event.TheVariants.{Enter, Element, Damage, End}
use Rattle.walk.specs.declared.Span.{Span}
use Rattle.pool.specs.declared.Node.{Node}
use Rattle.pool.specs.declared.Rule.{Rule}

-- what a node above has still to give: its slots from j on, with d nodes left on the path below it
unfoldable pub frame_rest : Span → Mem → ℕ → Result Node Rule → ℕ → List Event
frame_rest s m d (Ok n) j = in_slots (events_at s m d) m n (last_in s n.model + 1 - j) j
frame_rest s m d (Err c) j = Damage c ∷ []

-- the n nodes above, the nearest first; the nearest has d nodes left below it
unfoldable pub above : Span → Mem → List ℕ → List ℕ → ℕ → ℕ → List Event
above s m rs js zero d = []
above s m rs js (suc n) d = frame_rest s m d (node_at m (get_or rs n 0)) (get_or js n 0) ++ above s m rs js n (d + 1)

-- all that a cursor has still to meet; d nodes are left on the path below its node
unfoldable pub remains : Span → Mem → ℕ → Cursor → List ℕ → List ℕ → List Event
remains s m d c rs js = in_slots (events_at s m d) m c.node (c.end - c.at) c.at ++ above s m rs js c.depth (d + 1)

-- a step's event in front of what is left after it; the end leaves nothing
unfoldable pub told : Event → List Event → List Event
told (Enter r n) es = Enter r n ∷ es
told (Element q k) es = Element q k ∷ es
told (Damage c) es = Damage c ∷ es
told End es = []
