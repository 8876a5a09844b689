-- What the cursor's functions promise and ask, in the code's own way: which keys a span may have, where a cursor may stand, and what
-- one step tells of what was left. The events and items themselves are those of Events, Cursors and Items. Definitions only.
use Rattle.std.specs.Prelude.{List, [], ◌∷◌, ◌≡◌, ℕ, ◌+◌, ◌-◌, ◌<◌, ◌≤◌, get_or, Ok}
use Rattle.laws.specs.Keys.{key_bound}
use Rattle.pool.specs.Memory.{Mem, kind_word, kind_unit, slots_in}
use Rattle.pool.specs.Reading.{node_at}
use Rattle.pool.specs.declared.Node.{Node}
use Rattle.walk.specs.Cursors.{remains, told}
use Rattle.walk.specs.Events.{last_in, in_slots}
use Rattle.walk.specs.Items.{items}
use Rattle.walk.specs.Walks.{longest_path}
use Rattle.walk.specs.declared.Cursor.{Cursor}
use Rattle.walk.specs.declared.Event.{Event}
use Rattle.walk.specs.declared.Event.TheVariants.{Enter, Element, Damage, End}
use Rattle.walk.specs.declared.Item.{Item}
use Rattle.walk.specs.declared.Item.TheVariants.{Held, Broken, End as ItemEnd}
use Rattle.walk.specs.declared.Moved.{Moved}
use Rattle.walk.specs.declared.Next.{Next}
use Rattle.walk.specs.declared.Rules.{Rules}
use Rattle.walk.specs.declared.Span.{Span}
use Rattle.walk.specs.declared.Span.TheVariants.{Between, Whole}

-- the keys of a span are keys
abbrev pub SpanFits : Span → Type 0
SpanFits (Between u v) = (u < key_bound) × (v < key_bound)
SpanFits Whole = Unit

-- how many nodes are left on the path below a cursor's node, `above` nodes lying above the reading
abbrev pub below : ℕ → Cursor → ℕ
below above c = longest_path - (above + c.depth + 1)

-- a cursor stands in the node that its record holds, ends past the span's last slot, and is not too deep
pub record Standing (s : Span) (m : Mem) (above : ℕ) (c : Cursor) : Type 0 where
  pub reads : node_at m c.record ≡ Ok c.node
  pub ends : c.end ≡ last_in s c.node.model + 1
  pub deep : above + c.depth + 1 ≤ longest_path

-- an element's slot is one of the pool's, and its key is one
pub record Sound (m : Mem) (q k : ℕ) : Type 0 where
  pub slot : q < slots_in m.slots
  pub key : k < key_bound

-- what holds after a step: the cursor stands in the node met, or past the element met
abbrev pub Stands : Span → Mem → ℕ → Event → Cursor → Type 0
Stands s m above (Enter r n) c = Standing s m above c × (c.node ≡ n)
Stands s m above (Element q k) c = Standing s m above c × Sound m q k
Stands s m above (Damage b) c = Unit
Stands s m above End c = Unit

-- a step, where es was left: its event and what is left after it are es
pub record Moves (s : Span) (m : Mem) (above : ℕ) (es : List Event) (to : Moved) (rs js : List ℕ) : Type 0 where
  pub tells : told to.event (remains s m (below above to.cursor) to.cursor rs js) ≡ es
  pub stands : Stands s m above to.event to.cursor

-- the NULL slots from `at` to r add nothing, and r is no NULL slot or the end
pub record Skipped (ss : List ℕ) (start at end r : ℕ) : Type 0 where
  pub same : (deeper : ℕ → List Event) (m : Mem) (n : Node) → m.slots ≡ ss → n.start ≡ start → in_slots deeper m n (end - at) at ≡ in_slots deeper m n (end - r) r
  pub stops : r < end → kind_unit ≤ get_or ss (kind_word (start + r)) 0

-- an item in front of what is left after it; a broken rule and the end leave nothing
unfoldable pub met : Item → List Item → List Item
met (Held q k) is = Held q k ∷ is
met Broken is = Broken ∷ []
met ItemEnd is = []

-- what holds after an item: the cursor stands past the element met
abbrev pub Holds : Span → Mem → ℕ → Item → Cursor → Type 0
Holds s m above (Held q k) c = Standing s m above c × Sound m q k
Holds s m above Broken c = Unit
Holds s m above ItemEnd c = Unit

-- an item, where es was left to read under the rules ru: it and the items after it are those of es
pub record Finds (s : Span) (m : Mem) (above : ℕ) (ru : Rules) (es : List Event) (to : Next) (rs js : List ℕ) : Type 0 where
  pub tells : met to.item (items m to.rules (remains s m (below above to.cursor) to.cursor rs js)) ≡ items m ru es
  pub stands : Holds s m above to.item to.cursor
