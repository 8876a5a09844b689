-- The rules of a whole reading (document 01: "in a band or rebuild also keys not rising, or more nodes read than records exist; in a
-- rebuild more keys than the capacity (new one included), the new key met elsewhere, or a run not wholly marked used"), in one
-- definition with two uses: what is left of the events of a reading under them. Definitions only.
use Rattle.std.specs.Prelude.{Bool, true, ◌&&◌, not, List, [], ◌∷◌, ℕ, ◌+◌, ◌-◌, leb, eqb}
use Rattle.laws.specs.Pick.{pick}
use Rattle.marks.specs.Used.{full_run}
use Rattle.pool.specs.Memory.{Mem, slot_place}
use Rattle.pool.specs.declared.Node.{Node}
use Rattle.walk.specs.declared.Event.{Event}
use Rattle.walk.specs.declared.Event.TheVariants.{Enter, Element, Damage, End}
use Rattle.walk.specs.declared.Item.{Item}
use Rattle.walk.specs.declared.Item.TheVariants.{Held, Broken}
use Rattle.walk.specs.declared.Rules.{Rules}

-- may this node be entered: one node more may be read, and in a rebuild its run is wholly marked
unfoldable pub may_enter : Mem → Rules → Node → Bool
may_enter m ru n = leb 1 ru.nodes && pick ru.rebuild (full_run m.used (slot_place m.nodes n.start) n.model.l) true

-- may this key be read: it rises, and in a rebuild one key more may be read and it is not the new one
unfoldable pub may_hold : Rules → ℕ → Bool
may_hold ru k = leb ru.least k && pick ru.rebuild (leb 1 ru.keys && not (eqb k ru.fresh)) true

-- the rules after a node, and after a key
abbrev pub entered : Rules → Rules
entered ru = record { nodes = ru.nodes - 1; keys = ru.keys; least = ru.least; rebuild = ru.rebuild; fresh = ru.fresh }

abbrev pub holding : Rules → ℕ → Rules
holding ru k = record { nodes = ru.nodes; keys = ru.keys - 1; least = k + 1; rebuild = ru.rebuild; fresh = ru.fresh }

-- the elements that a reading meets, up to the first broken rule
unfoldable pub items : Mem → Rules → List Event → List Item
items m ru [] = []
items m ru (Enter r n ∷ es) = pick (may_enter m ru n) (items m (entered ru) es) (Broken ∷ [])
items m ru (Element q k ∷ es) = pick (may_hold ru k) (Held q k ∷ items m (holding ru k) es) (Broken ∷ [])
items m ru (Damage c ∷ es) = Broken ∷ []
items m ru (End ∷ es) = []
