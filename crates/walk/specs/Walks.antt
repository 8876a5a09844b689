-- Following one key from the root (document 01, "The calls": "Lookup follows slots from the root"): the nodes on its path, and
-- what stands at the end, on every memory. Definitions only.
use Rattle.std.specs.Prelude.{List, [], ◌∷◌, ◌++◌, ℕ, zero, suc, ◌+◌, length, replicate, Err, Ok, Result}
use Rattle.std.proofs.lemmas.List.Edits.{sets}
use Rattle.model.specs.Slots.{value_of, slot_of}
use Rattle.pool.specs.Memory.{Mem}
use Rattle.pool.specs.Reading.{node_at, slot_at}
use Rattle.pool.specs.declared.Node.{Node}
use Rattle.pool.specs.declared.Slot.{Slot}
use Rattle.pool.specs.declared.Slot.TheVariants.{Null, Data, Child}
use Rattle.walk.specs.declared.End.{End}
use Rattle.walk.specs.declared.End.TheVariants.{Empty, Key, Damage}
use Rattle.walk.specs.declared.Followed.{Followed}
use Rattle.walk.specs.declared.Path.{Path}
use Rattle.walk.specs.declared.Step.{Step}
use Rattle.walk.specs.declared.Step.TheVariants.{Down, Stop}
use Rattle.walk.specs.declared.Traced.{Traced}
use Rattle.pool.specs.declared.Rule.{Rule}
use Rattle.pool.specs.declared.Rule.TheVariants.{PathTooLong}

-- "A path has at most 24 nodes, the root being the first"
abbrev pub longest_path : ℕ
longest_path = 24

-- what slot q says to a walk: go down, or stop
unfoldable pub step_in : ℕ → Result Slot Rule → Step
step_in q (Ok Null) = Stop (Empty q)
step_in q (Ok (Data k)) = Stop (Key q k)
step_in q (Ok (Child c)) = Down c
step_in q (Err c) = Stop (Damage c)

-- the slot of a key in a node, among all slots
unfoldable pub key_slot : Node → ℕ → ℕ
key_slot n k = n.start + slot_of n.model (value_of k)

-- one node of the walk: the key's slot in it
unfoldable pub step_good : List ℕ → Node → ℕ → Step
step_good ss n k = step_in (key_slot n k) (slot_at ss n (slot_of n.model (value_of k)))

unfoldable pub step_at : Mem → ℕ → Result Node Rule → Step
step_at m k (Ok n) = step_good m.slots n k
step_at m k (Err c) = Stop (Damage c)

unfoldable pub step_of : Mem → ℕ → ℕ → Step
step_of m r k = step_at m k (node_at m r)

-- a walk's end, and the nodes on the way, the root first
pub record Walk : Type 0 where
  pub end : End
  pub path : List ℕ

abbrev pub walk : End → List ℕ → Walk
walk e p = record { end = e; path = p }

unfoldable pub after : Step → List ℕ → (ℕ → Walk) → Walk
after (Down c) p go = go c
after (Stop e) p go = walk e p

-- the path as the code holds it: the node numbers in an array of 24, the rest of it 0, and how many there are
unfoldable pub path_of : List ℕ → Path
path_of p = record { nodes = sets (replicate longest_path 0) 0 p; len = length p }

-- from record r on, after the nodes of p, with f nodes left
unfoldable pub walk_from : Mem → ℕ → ℕ → ℕ → List ℕ → Walk
walk_from m k zero r p = walk (Damage PathTooLong) p
walk_from m k (suc f) r p = after (step_of m r k) (p ++ (r ∷ [])) (λ c. walk_from m k f c (p ++ (r ∷ [])))

unfoldable pub walk_of : Mem → ℕ → ℕ → Walk
walk_of m root k = walk_from m k longest_path root []

-- what the code's two walks give: the end with how many nodes were visited, and the end with the path
unfoldable pub follow_of : Mem → ℕ → ℕ → Followed
follow_of m root k = record { end = (walk_of m root k).end; visits = length (walk_of m root k).path }

unfoldable pub trace_of : Mem → ℕ → ℕ → Traced
trace_of m root k = record { end = (walk_of m root k).end; path = path_of (walk_of m root k).path }
