-- What becomes of nodes that a reading met (document 01, "Insert": the old nodes "are released and zeroed"): each of them loses its run and its
-- record to zeros, and their marks. Definitions only.
use Rattle.std.specs.Prelude.{List, [], ◌∷◌, ℕ, Err, Ok, Result}
use Rattle.build.specs.Releasing.{drop_node}
use Rattle.pool.specs.Memory.{Mem}
use Rattle.pool.specs.declared.Node.{Node}
use Rattle.walk.specs.Events.{events_of}
use Rattle.walk.specs.declared.Event.{Event}
use Rattle.walk.specs.declared.Event.TheVariants.{Enter, Element, Damage, End}
use Rattle.walk.specs.declared.Span.TheVariants.{Whole}
use Rattle.pool.specs.declared.Rule.{Rule}

-- a node and the record that it was read from
pub record Met : Type 0 where
  pub at : ℕ
  pub node : Node

abbrev pub met_at : ℕ → Node → Met
met_at r n = record { at = r; node = n }

-- the nodes that a reading entered
unfoldable pub nodes_met : List Event → List Met
nodes_met [] = []
nodes_met (Enter r n ∷ es) = met_at r n ∷ nodes_met es
nodes_met (Element q k ∷ es) = nodes_met es
nodes_met (Damage c ∷ es) = nodes_met es
nodes_met (End ∷ es) = nodes_met es

-- the nodes of the subtree at record top, whose path has `above` nodes before it
unfoldable pub nodes_below : ℕ → ℕ → Mem → List Met
nodes_below above top m = nodes_met (events_of Whole m above top)

-- the node of record r by itself, if the record is good
unfoldable pub node_alone : ℕ → Result Node Rule → List Met
node_alone r (Ok n) = met_at r n ∷ []
node_alone r (Err c) = []

-- the memory without them
unfoldable pub zeroed : List Met → Mem → Mem
zeroed [] m = m
zeroed (x ∷ xs) m = drop_node (zeroed xs m) x.at x.node
