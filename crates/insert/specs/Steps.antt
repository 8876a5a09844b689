-- What the steps of an insert may assume: of the handle, the key and the lent memory, once the refusals before it are past; of the end
-- of the key's path; and of the places where a tidying stores. Definitions only.
use Rattle.std.specs.Prelude.{Bool, ◌≡◌, ℕ, ◌^◌, ◌<◌, ◌≤◌, length, get_or, Ok}
use Rattle.counters.specs.Counters.{OnPath}
use Rattle.laws.specs.Keys.{key_bound}
use Rattle.model.specs.Choice.{most_keys}
use Rattle.pool.specs.Memory.{Mem, slots_in}
use Rattle.pool.specs.Reading.{node_in, node_at}
use Rattle.rebuild.specs.Judging.{Pooled}
use Rattle.rebuild.specs.Pairs.{PairFits}
use Rattle.rebuild.specs.Rebuilding.{Scratch}
use Rattle.store.specs.declared.Handle.{Handle}
use Rattle.walk.specs.Walks.{longest_path}
use Rattle.walk.specs.declared.Path.{Path}

-- the sizes are right, the key is one, and there is space for one more
pub record Ready (h : Handle) (k : ℕ) (m : Mem) (s : Scratch) : Type 0 where
  pub least : 1 ≤ h.capacity
  pub most : h.capacity ≤ most_keys
  pub space : h.count < h.capacity
  pub pools : Pooled m
  pub keys : h.capacity ≤ length s.keys
  pub payloads : length s.payloads ≡ length s.keys
  pub places : length s.places ≡ length s.keys
  pub is_key : k < key_bound

-- the array of a path is as long as its type says, and the path is no longer
pub record Sized (path : Path) : Type 0 where
  pub array : length path.nodes ≡ longest_path
  pub short : path.len ≤ longest_path

-- every node of the path was read as a good one
abbrev pub GoodPath : Mem → Path → Type 0
GoodPath m path = (i : ℕ) → i < path.len → node_at m (get_or path.nodes i 0) ≡ Ok (node_in m.nodes (get_or path.nodes i 0))

-- the end of the path of key k: slot q, and in a conflict another key
pub record Ends (k q : ℕ) (conflict : Bool) (other : ℕ) (path : Path) (m : Mem) : Type 0 where
  pub slot : q < slots_in m.slots
  pub pair : PairFits conflict k other
  pub sized : Sized path
  pub on : OnPath m.nodes path
  pub good : GoodPath m path

-- where the stores of an insert go: slot q, the two-key node c, the slot above
pub record Stores (q c i above : ℕ) (path : Path) (m : Mem) : Type 0 where
  pub slot : q < slots_in m.slots
  pub pair : c < 2 ^ 48
  pub above-slot : 1 ≤ i → above < slots_in m.slots
  pub sized : Sized path
  pub on : OnPath m.nodes path
  pub within : i ≤ path.len
