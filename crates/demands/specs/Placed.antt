-- Placed trees, and what it means that memory holds one: `Good`. A placed tree is a tree of document 01 with the record and the run that
-- each of its nodes has. Memory is seen place by place and word by word, and so is the tree: at every place it says the sum of what its
-- nodes and slots say there. That both say the same everywhere is one equation, and from it follows that no two nodes share a record,
-- that no two runs overlap, that just the places of the tree are marked used, and that all else is zero. Definitions only.
use Rattle.std.specs.Prelude.{true, List, [], ◌∷◌, ◌++◌, ◌≡◌, ℕ, suc, ◌+◌, ◌-◌, ◌*◌, ◌/◌, ◌%◌, ◌^◌, ◌<◌, ◌≤◌, max, ltb, eqb, get_or}
use Rattle.laws.specs.Keys.{key_bound}
use Rattle.laws.specs.Pick.{pick}
use Rattle.model.specs.Slots.{value_of, slot_of, InRange}
use Rattle.model.specs.declared.Model.{Model}
use Rattle.pool.specs.Memory.{Mem, record_words, slot_words, kind_unit, data_kind, node_kind}
use Rattle.store.specs.Handles.{handle_fits}
use Rattle.store.specs.declared.Handle.{Handle}
use Rattle.walk.specs.Walks.{longest_path}
use Rattle.demands.specs.Map.{Map, EachKey, size}

-- a node's record number, model (L is the number of its slots), run and counters
pub record Head : Type 0 where
  pub at : ℕ
  pub lo : ℕ
  pub w : ℕ
  pub start : ℕ
  pub elements : ℕ
  pub built : ℕ
  pub conflicts : ℕ

-- what a slot holds: NULL, DATA with its key and payload, NODE with the child; a node's slots in order
mutual
  pub data Branch : Type 0 where
    null : Branch
    leaf : ℕ → ℕ → Branch
    sub : Head → Forest → Branch

  pub data Forest : Type 0 where
    nil : Forest
    cons : Branch → Forest → Forest

abbrev pub len : Forest → ℕ
len nil = 0
len (cons b f) = suc (len f)

-- reading in slot order: "every sounding that went in"
abbrev mutual
  pub flat_b : Branch → Map
  flat_b null = []
  flat_b (leaf k p) = (k, p) ∷ []
  flat_b (sub h g) = flat_f g

  pub flat_f : Forest → Map
  flat_f nil = []
  flat_f (cons b f) = flat_b b ++ flat_f f

-- nodes on the longest path
abbrev mutual
  pub depth_b : Branch → ℕ
  depth_b null = 0
  depth_b (leaf k p) = 0
  depth_b (sub h g) = suc (depth_f g)

  pub depth_f : Forest → ℕ
  depth_f nil = 0
  depth_f (cons b f) = max (depth_b b) (depth_f f)

-- what stands at one place of memory: a slot, or a node's record; L is given beside the head
pub data Cell : Type 0 where
  empty : Cell
  data1 : ℕ → ℕ → Cell
  child : ℕ → Cell
  node : Head → ℕ → Cell

abbrev pub cell_of : Branch → Cell
cell_of null = empty
cell_of (leaf k p) = data1 k p
cell_of (sub h g) = child h.at

-- the words of a place (docs/MEMORY.md): its used bit, the words of a record, the words of a slot
pub data Word : Type 0 where
  bit : Word
  in_node : ℕ → Word
  in_slot : ℕ → Word

abbrev pub head_words : Head → ℕ → List ℕ
head_words h l = h.lo ∷ h.w ∷ l ∷ h.start ∷ h.elements ∷ h.built ∷ h.conflicts ∷ []

abbrev pub cell_words : Cell → List ℕ
cell_words empty = []
cell_words (data1 k p) = (data_kind * kind_unit + k) ∷ p ∷ []
cell_words (child r) = (node_kind * kind_unit + r) ∷ []
cell_words (node h l) = []

-- what a cell says of a word of its place; words that are not listed are 0
abbrev pub cell_w : Word → Cell → ℕ
cell_w bit c = 1
cell_w (in_node i) empty = 0
cell_w (in_node i) (data1 k p) = 0
cell_w (in_node i) (child r) = 0
cell_w (in_node i) (node h l) = get_or (head_words h l) i 0
cell_w (in_slot i) c = get_or (cell_words c) i 0

-- v at place a, nothing elsewhere
unfoldable pub at : ℕ → ℕ → ℕ → ℕ
at a v x = pick (eqb x a) v 0

-- what a tree says at place x: the sum over its cells, φ being what a cell says. Records are the places below R, slots those from R on
abbrev mutual
  pub in_b : ℕ → (Cell → ℕ) → ℕ → Branch → ℕ
  in_b R φ x null = 0
  in_b R φ x (leaf k p) = 0
  in_b R φ x (sub h g) = at h.at (φ (node h (len g))) x + in_f R φ x (R + h.start) g

  pub in_f : ℕ → (Cell → ℕ) → ℕ → ℕ → Forest → ℕ
  in_f R φ x a nil = 0
  in_f R φ x a (cons b f) = at a (φ (cell_of b)) x + (in_b R φ x b + in_f R φ x (a + 1) f)

-- what memory with R records says at place x
unfoldable pub view : ℕ → Mem → ℕ → Word → ℕ
view R m x bit = get_or m.used (x / 64) 0 / 2 ^ (x % 64) % 2
view R m x (in_node i) = pick (ltb i record_words) (pick (ltb x R) (get_or m.nodes (x * record_words + i) 0) 0) 0
view R m x (in_slot i) = pick (ltb i slot_words) (pick (ltb x R) 0 (get_or m.slots ((x - R) * slot_words + i) 0)) 0

abbrev pub model_in : ℕ → ℕ → ℕ → Model
model_in lo w l = record { lo = lo; w = w; l = l }

-- a node of R records and S slots: its record is one of them, its run lies among the slots, its model is in range
pub record HeadOk (R S : ℕ) (h : Head) (l : ℕ) : Type 0 where
  pub inside : h.at < R
  pub range : InRange (model_in h.lo h.w l)
  pub run : h.start + l ≤ S

-- the slot of a key in a node
abbrev pub slot_in : ℕ → ℕ → ℕ → ℕ → ℕ
slot_in lo w l k = slot_of (model_in lo w l) (value_of k)

-- every key belongs: it is a key, and in each node above it stands below the slot that the model gives it
abbrev mutual
  pub OkB : ℕ → ℕ → Branch → Type 0
  OkB R S null = Unit
  OkB R S (leaf k p) = k < key_bound
  OkB R S (sub h g) = HeadOk R S h (len g) × OkF R S h.lo h.w (len g) 0 g

  pub OkF : ℕ → ℕ → ℕ → ℕ → ℕ → ℕ → Forest → Type 0
  OkF R S lo w l i nil = Unit
  OkF R S lo w l i (cons b f) = EachKey (λ k. slot_in lo w l k ≡ i) (flat_b b) × OkB R S b × OkF R S lo w l (i + 1) f

-- every word of the map of used places is one of 64 bits
abbrev pub Words : List ℕ → Type 0
Words u = (i : ℕ) → get_or u i 0 < 2 ^ 64

-- the handle and the memory hold the tree whose root is t, with the slots g
pub record Good (h : Handle) (m : Mem) (t : Head) (g : Forest) : Type 0 where
  pub fits : handle_fits h m ≡ true
  pub root : h.root ≡ t.at
  pub count : h.count ≡ size (flat_f g)
  pub image : (x : ℕ) (w : Word) → view h.records m x w ≡ in_b h.records (cell_w w) x (sub t g)
  pub okay : OkB h.records h.slots (sub t g)
  pub deep : depth_b (sub t g) ≤ longest_path
  pub words : Words m.used

-- the same of a branch, which has to be a node
abbrev pub Holds : Handle → Mem → Branch → Type 0
Holds h m null = ⊥
Holds h m (leaf k p) = ⊥
Holds h m (sub t g) = Good h m t g

-- a place in a tree: the frames from the root down to it, each a node with its slots to the left and right
pub record Frame : Type 0 where
  pub head : Head
  pub left : Forest
  pub right : Forest

abbrev pub app : Forest → Forest → Forest
app nil g = g
app (cons b f) g = cons b (app f g)

abbrev pub plug : List Frame → Branch → Branch
plug [] b = b
plug (f ∷ c) b = sub f.head (app f.left (cons (plug c b) f.right))

abbrev pub width : Frame → ℕ
width f = len f.left + suc (len f.right)

-- the frames lie on the path of key k
abbrev pub Follows : ℕ → List Frame → Type 0
Follows k [] = Unit
Follows k (f ∷ c) = (slot_in f.head.lo f.head.w (width f) k ≡ len f.left) × Follows k c

-- the elements to the left of a place, and to the right of it
abbrev pub pre_c : List Frame → Map
pre_c [] = []
pre_c (f ∷ c) = flat_f f.left ++ pre_c c

abbrev pub post_c : List Frame → Map
post_c [] = []
post_c (f ∷ c) = post_c c ++ flat_f f.right
