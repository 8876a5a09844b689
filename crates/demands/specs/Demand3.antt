-- Demand 3: "From an accepted load, after any sequence of calls, refusals among it: reading in slot order gives exactly the map, rising,
-- each once; no call answers damage; every used node is reached by one path; no two runs overlap; no path passes 24 nodes; a lookup visits
-- exactly its key's path; after a load or whole rebuild paths are at most H(n)." Statements only; the proofs are proofs/Demand3.
use Rattle.std.specs.Prelude.{Bool, List, [], ◌∷◌, ◌⊎◌, ◌≡◌, ℕ, zero, suc, ◌+◌, ◌<◌, ◌≤◌, eqb, length}
use Rattle.insert.specs.Inserting.{Insert, tidied, whole_tree}
use Rattle.laws.specs.Answers.{Answer, done, damage}
use Rattle.laws.specs.Keys.{key_bound}
use Rattle.laws.specs.Pick.{pick}
use Rattle.marks.specs.Used.{used_at}
use Rattle.model.specs.Height.{height}
use Rattle.pool.specs.Memory.{Mem}
use Rattle.rebuild.specs.Rebuilding.{Scratch}
use Rattle.store.specs.Calls.{Call}
use Rattle.store.specs.declared.Handle.{Handle}
use Rattle.walk.specs.Walks.{longest_path, walk_of}
use Rattle.demands.specs.Demand2.{found_as}
use Rattle.demands.specs.Map.{Map, Rises, lookup, insert, delete, update, bulkload, size}
use Rattle.demands.specs.Paths.{path_b}
use Rattle.demands.specs.Placed.{Head, Branch, null, leaf, sub, Forest, nil, cons, len, flat_f, depth_b, Good}
use Rattle.demands.specs.Stores.{Store}

-- a call with its arguments; outputs and scratch are any lists
pub data Ask : Type 0 where
  loads : (capacity : ℕ) → (keys payloads : List ℕ) → Ask
  looks : (key : ℕ) → Ask
  lists : (u v : ℕ) → (keys payloads : List ℕ) → Ask
  inserts : (key payload : ℕ) → Scratch → Ask
  replaces : (key payload : ℕ) → Ask
  deletes : (key : ℕ) → Ask

-- what a sequence of calls has come to: the handle and the pools that the last call left, and the map along it
pub record State : Type 0 where
  pub handle : Handle
  pub memory : Mem
  pub map : Map

abbrev pub state : Handle → Mem → Map → State
state h m l = record { handle = h; memory = m; map = l }

-- where the call was done: what the map becomes; else it stays
abbrev pub when_done : {A : Type 0} → Answer ℕ → A → A → A
when_done a x y = pick (eqb a.number 0) x y

abbrev pub after_call : Map → Map → Call → State
after_call new old c = state c.handle c.memory (when_done c.answer new old)

abbrev pub after_insert : Map → Map → Insert → State
after_insert new old x = state x.handle x.memory (when_done x.answer new old)

-- "A call that makes a handle by a load gives zeros for it when refused; the handle and map before it stand, and the next call receives
-- that handle"
abbrev pub after_load : Handle → Map → Map → Call → State
after_load h new old c = state (when_done c.answer c.handle h) c.memory (when_done c.answer new old)

-- one call, on what the one before left
unfoldable pub after : Store → State → Ask → State
after x s (loads c ks ps) = after_load s.handle (bulkload ks ps) s.map (x.load c ks ps s.memory)
after x s (looks k) = s
after x s (lists u v ks ps) = s
after x s (inserts k p z) = after_insert (insert k p s.map) s.map (x.insert s.handle k p s.memory z)
after x s (replaces k p) = after_call (update k p s.map) s.map (x.replace s.handle k p s.memory)
after x s (deletes k) = after_call (delete k s.map) s.map (x.delete s.handle k s.memory)

-- any sequence of calls
unfoldable pub after_all : Store → State → List Ask → State
after_all x s [] = s
after_all x s (a ∷ asks) = after_all x (after x s a) asks

-- a load of c, ks, ps into m that was accepted
abbrev pub Accepted : Store → ℕ → List ℕ → List ℕ → Mem → Type 0
Accepted x c ks ps m = (x.load c ks ps m).answer.number ≡ 0

abbrev pub loaded_state : Store → ℕ → List ℕ → List ℕ → Mem → State
loaded_state x c ks ps m = state (x.load c ks ps m).handle (x.load c ks ps m).memory (bulkload ks ps)

-- how many nodes of a tree have record r, and how many of their runs take slot q
abbrev pub covers : ℕ → ℕ → ℕ → ℕ
covers q start zero = 0
covers q start (suc n) = pick (eqb q start) 1 0 + covers q (start + 1) n

unfoldable mutual
  pub nodes_at : ℕ → Branch → ℕ
  nodes_at r null = 0
  nodes_at r (leaf k p) = 0
  nodes_at r (sub h g) = pick (eqb r h.at) 1 0 + nodes_in r g

  pub nodes_in : ℕ → Forest → ℕ
  nodes_in r nil = 0
  nodes_in r (cons b f) = nodes_at r b + nodes_in r f

unfoldable mutual
  pub runs_at : ℕ → Branch → ℕ
  runs_at q null = 0
  runs_at q (leaf k p) = 0
  runs_at q (sub h g) = covers q h.start (len g) + runs_in q g

  pub runs_in : ℕ → Forest → ℕ
  runs_in q nil = 0
  runs_in q (cons b f) = runs_at q b + runs_in q f

abbrev pub one : Bool → ℕ
one b = pick b 1 0

-- What holds after every sequence: memory holds a tree, and
pub record Stands (x : Store) (s : State) (t : Head) (g : Forest) : Type 0 where
  pub good : Good s.handle s.memory t g
  -- "reading in slot order gives exactly the map, rising, each once"
  pub reads : flat_f g ≡ s.map
  pub rises : Rises s.map
  -- "every used node is reached by one path", and what is reached is used: a node of the tree for each used record, none for another
  pub nodes : (r : ℕ) → r < s.handle.records → nodes_at r (sub t g) ≡ one (used_at s.memory.used r)
  -- "no two runs overlap": a used slot lies in one run, an unused one in none
  pub runs : (q : ℕ) → q < s.handle.slots → runs_at q (sub t g) ≡ one (used_at s.memory.used (s.handle.records + q))
  -- "no path passes 24 nodes"
  pub short : (k : ℕ) → length (path_b k (sub t g)) ≤ longest_path
  pub deep : depth_b (sub t g) ≤ longest_path
  -- "a lookup visits exactly its key's path": the nodes of the path in their order, and as many in the answer
  pub follows : (k : ℕ) → (walk_of s.memory s.handle.root k).path ≡ path_b k (sub t g)
  pub visits : (k : ℕ) → k < key_bound → x.look s.handle k s.memory ≡ found_as (length (path_b k (sub t g))) (lookup k s.map)

-- "no call answers damage"
pub record NoDamage (x : Store) (s : State) : Type 0 where
  pub look : (k : ℕ) → (x.look s.handle k s.memory).number ≡ damage → ⊥
  pub list : (u v : ℕ) (ks ps : List ℕ) → (x.list s.handle u v s.memory ks ps).answer.number ≡ damage → ⊥
  pub insert : (k p : ℕ) (z : Scratch) → (x.insert s.handle k p s.memory z).answer.number ≡ damage → ⊥
  pub replace : (k p : ℕ) → (x.replace s.handle k p s.memory).answer.number ≡ damage → ⊥
  pub delete : (k : ℕ) → (x.delete s.handle k s.memory).answer.number ≡ damage → ⊥

-- a tree that holds in a state, of some height
pub record Tree (x : Store) (s : State) : Type 0 where
  pub head : Head
  pub slots : Forest
  pub stands : Stands x s head slots

-- "just after a load, a whole rebuild for depth, or a tidying of the root, paths have at most H(n) nodes for the n keys": the tree is low
pub record Low (x : Store) (s : State) : Type 0 where
  pub tree : Tree x s
  pub low : depth_b (sub tree.head tree.slots) ≤ height (size s.map)

-- an insert that rebuilt the whole tree, or tidied its root: the answer says 3, or 1 with another root than before
abbrev pub RebuiltWhole : Store → State → ℕ → ℕ → Scratch → Type 0
RebuiltWhole x s k p z =
    (c : ℕ) × (((x.insert s.handle k p s.memory z).answer ≡ done (c ∷ whole_tree ∷ []))
    ⊎ (((x.insert s.handle k p s.memory z).answer ≡ done (c ∷ tidied ∷ [])) × ((x.insert s.handle k p s.memory z).handle.root ≡ s.handle.root → ⊥)))

pub record Demand3 (x : Store) : Type 0 where
  -- after every sequence
  pub stands : (c : ℕ) (ks ps : List ℕ) (m : Mem) → Accepted x c ks ps m → (asks : List Ask) → Tree x (after_all x (loaded_state x c ks ps m) asks)
  pub no_damage : (c : ℕ) (ks ps : List ℕ) (m : Mem) → Accepted x c ks ps m → (asks : List Ask) → NoDamage x (after_all x (loaded_state x c ks ps m) asks)
  -- "after a load or whole rebuild paths are at most H(n)"
  pub low_load : (c : ℕ) (ks ps : List ℕ) (m : Mem) → Accepted x c ks ps m → Low x (loaded_state x c ks ps m)
  pub low-rebuild : (c : ℕ) (ks ps : List ℕ) (m : Mem) → Accepted x c ks ps m → (asks : List Ask) (k p : ℕ) (z : Scratch)
      → RebuiltWhole x (after_all x (loaded_state x c ks ps m) asks) k p z → Low x (after x (after_all x (loaded_state x c ks ps m) asks) (inserts k p z))
