-- The placed tree that document 01 describes over rising keys ("From key to slot", "Where nodes go"), without memory: only the map of
-- used places is looked at. "A node takes the lowest unused record and the lowest start at which L consecutive slots are unused. Parent
-- before children, children in slot order, each child with its whole subtree before the next child." Definitions only.
use Rattle.std.specs.Prelude.{None, Option, Some, List, [], ◌∷◌, ℕ, zero, suc, ◌+◌, ltb, length, get_or}
use Rattle.build.specs.Building.{payloads_to}
use Rattle.laws.specs.Pick.{pick}
use Rattle.marks.specs.Used.{mark_at, mark_run, first_unused, lowest_run}
use Rattle.model.specs.Choice.{model_of}
use Rattle.model.specs.Groups.{keys_to}
use Rattle.model.specs.declared.Model.{Model}
use Rattle.demands.specs.Placed.{Head, Branch, null, leaf, sub, Forest, nil, cons}

-- a tree with the map of used places after it, or no room
pub data Grown : Type 0 where
  is : Branch → List ℕ → Grown
  no_room : Grown

-- the slots of a node, likewise
pub data Row : Type 0 where
  are : Forest → List ℕ → Row
  no_room_row : Row

-- a new node's head: "elements = n, built = n, conflicts = 0"
abbrev pub fresh_head : ℕ → Model → ℕ → ℕ → Head
fresh_head r md s n = record { at = r; lo = md.lo; w = md.w; start = s; elements = n; built = n; conflicts = 0 }

abbrev pub row_after : Branch → Row → Row
row_after b (are g u) = are (cons b g) u
row_after b no_room_row = no_room_row

-- the first slot, then the rest
abbrev pub then_row : Grown → (List ℕ → Row) → Row
then_row (is b u) rest = row_after b (rest u)
then_row no_room rest = no_room_row

abbrev pub node_over : Head → Row → Grown
node_over h (are g u) = is (sub h g) u
node_over h no_room_row = no_room

-- grows a node over keys with their payloads, on a map of used places
abbrev pub Grower : Type 0
Grower = List ℕ → List ℕ → List ℕ → Grown

-- "One key at a slot makes it DATA, none NULL. More than one makes it NODE, whose child is built over just those keys"
unfoldable pub grow_slot : Grower → List ℕ → List ℕ → List ℕ → Grown
grow_slot G u [] ps = is null u
grow_slot G u (k ∷ []) ps = is (leaf k (get_or ps 0 0)) u
grow_slot G u (k ∷ j ∷ ks) ps = G u (k ∷ j ∷ ks) ps

-- n slots of a node, from slot s on
unfoldable pub grow_slots : Grower → Model → ℕ → ℕ → List ℕ → List ℕ → List ℕ → Row
grow_slots G md zero s u ks ps = are nil u
grow_slots G md (suc n) s u ks ps = then_row (grow_slot G u (keys_to md s ks) (payloads_to md s ks ps)) (λ u'. grow_slots G md n (s + 1) u' ks ps)

-- a node on the run found, at record r
unfoldable pub grow_on : Grower → ℕ → ℕ → Model → Option ℕ → Grower
grow_on G R r md None u ks ps = no_room
grow_on G R r md (Some s) u ks ps =
    node_over (fresh_head r md s (length ks)) (grow_slots G md md.l 0 (mark_run (mark_at u r) (R + s) md.l) ks ps)

-- a node over the keys, in R records and S slots; its children by G
unfoldable pub grow_with : Grower → ℕ → ℕ → Grower
grow_with G R S u ks ps =
    pick (ltb (first_unused u 0 R) R) (grow_on G R (first_unused u 0 R) (model_of ks) (lowest_run u R S (model_of ks).l) u ks ps) no_room

-- a tree of at most `depth` levels
unfoldable pub grow : ℕ → ℕ → ℕ → Grower
grow zero R S u ks ps = no_room
grow (suc depth) R S u ks ps = grow_with (grow depth R S) R S u ks ps
