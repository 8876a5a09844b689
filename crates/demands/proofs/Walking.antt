-- Following a key in memory that holds a tree: the walk of the calls goes along the key's frames and ends at its branch, and a lookup
-- answers as the map does, after as many nodes as there are frames. Assumes nothing.
use Rattle.std.specs.Prelude.{Ok, Result}
use mathlib.Core.Bool.{true}
use mathlib.Core.List.{List, [], ◌∷◌, ◌++◌, append_assoc}
use mathlib.Core.Path.{◌≡◌, refl, sym, ap, ◌∙◌}
use native.Mathlib.Nat.{add-zero}
use native.Mathlib.Omega.{arith}
use Prim.Native.Nat.{ℕ, zero, suc, ◌+◌, ◌*◌, ◌-◌, ◌<◌, ◌≤◌, ◌/◌, ◌%◌, ◌^◌}
use lib.ListN.{length, get_or}
use borrow.Author.Tests.{eq-eqb, lt-ltb, le-ltb}
use Rattle.marks.specs.Used.{used_at}
use Rattle.model.specs.Slots.{slot_of}
use Rattle.pool.proofs.Nodes.{GoodNode, good-reads}
use Rattle.pool.specs.Memory.{Mem, records_in, slots_in, record_words, slot_words}
use Rattle.pool.specs.Reading.{node_in, node_at, slot_says, slot_at}
use Rattle.pool.specs.declared.Node.{Node}
use Rattle.pool.specs.declared.Slot.{Slot}
use Rattle.pool.specs.declared.Slot.TheVariants.{Null, Data, Child}
use Rattle.store.specs.Handles.{map_words}
use Rattle.walk.specs.Walks.{longest_path, step_in, key_slot, step_good, step_at, step_of, walk, after, walk_from, walk_of}
use Rattle.walk.specs.declared.End.{End as WalkEnd}
use Rattle.walk.specs.declared.End.TheVariants.{Empty, Key}
use Rattle.walk.specs.declared.Step.TheVariants.{Down, Stop}
use Rattle.demands.specs.Map.{EachKey}
use Rattle.demands.specs.Placed.{Head, Branch, null, leaf, sub, len, flat_b, depth_b, node, cell_of, Word, bit, in_node, in_slot, cell_w, in_b, view, HeadOk, model_in, OkB, Frame, plug, width, Follows, Words}
use Rattle.demands.proofs.Plugs.{FrameOk, frame_of, slot_h, End, deep_in}
use Rattle.demands.proofs.Reading.{Holds, holds-below, read_head, read_spot}
use Rattle.pool.specs.declared.Rule.{Rule}

-- the pools have R records and S slots
pub record Sized (R S : ℕ) (m : Mem) : Type 0 where
  pub nodes : length m.nodes ≡ R * record_words
  pub slots : length m.slots ≡ S * slot_words
  pub used : length m.used ≡ map_words R S
  pub few : R ≤ 2 ^ 20

-- memory holds a tree, whoever's handle names it: Good without the handle
pub record Kept (R S : ℕ) (m : Mem) (t : Branch) : Type 0 where
  pub image : (x : ℕ) (w : Word) → view R m x w ≡ in_b R (cell_w w) x t
  pub okay : OkB R S t
  pub deep : depth_b t ≤ longest_path
  pub sized : Sized R S m
  pub words : Words m.used

pub holds-all : (R S : ℕ) (m : Mem) (t : Branch) → Kept R S m t → Holds R m t
holds-all R S m t g x h w = g.image x w

-- one word seen
pub view-node : (R : ℕ) (m : Mem) (r i : ℕ) → r < R → i < 8 → view R m r (in_node i) ≡ get_or m.nodes (r * 8 + i) 0
unfolding view
view-node R m r i h g = rw (lt-ltb r R h, lt-ltb i 8 g)

pub view-slot : (R : ℕ) (m : Mem) (q i : ℕ) → i < 2 → view R m (R + q) (in_slot i) ≡ get_or m.slots (q * 2 + i) 0
unfolding view
view-slot R m q i g =
    let h : R ≤ R + q = omega arith in
    let e : R + q - R ≡ q = omega arith in
    rw (le-ltb (R + q) R h, e, lt-ltb i 2 g)

pub node-past : (R : ℕ) (m : Mem) (x i : ℕ) → 8 ≤ i → view R m x (in_node i) ≡ 0
unfolding view
node-past R m x i h = rw (le-ltb i 8 h)

pub slot-past : (R : ℕ) (m : Mem) (x i : ℕ) → 2 ≤ i → view R m x (in_slot i) ≡ 0
unfolding view
slot-past R m x i h = rw (le-ltb i 2 h)

pub view-bit : (R : ℕ) (m : Mem) (x : ℕ) → view R m x bit ≡ 1 → used_at m.used x ≡ true
unfolding view used_at
view-bit R m x e = eq-eqb _ _ e

-- the node of a frame
abbrev pub node_of : Head → ℕ → Node
node_of h l = record { model = model_in h.lo h.w l; start = h.start }

-- what a slot that holds a branch says
abbrev pub slot_to : Branch → Result Slot Rule
slot_to null = Ok Null
slot_to (leaf d p) = Ok (Data d)
slot_to (sub h g) = Ok (Child h.at)

data-kind : (k : ℕ) → k < 2 ^ 48 → ((2 ^ 48 + k) / 2 ^ 48 ≡ 1) × ((2 ^ 48 + k) % 2 ^ 48 ≡ k)
data-kind k h = (omega arith, omega arith)

child_kind : (k : ℕ) → k < 2 ^ 48 → ((2 * 2 ^ 48 + k) / 2 ^ 48 ≡ 2) × ((2 * 2 ^ 48 + k) % 2 ^ 48 ≡ k)
child_kind k h = (omega arith, omega arith)

-- a branch whose keys belong in slot j of a node
pub branch-says : (R S : ℕ) (h : Head) (l j : ℕ) (b : Branch) → OkB R S b → EachKey (λ k. slot_h h l k ≡ j) (flat_b b) → R ≤ 2 ^ 20
    → slot_says (node_of h l) j (cell_w (in_slot 0) (cell_of b)) ≡ slot_to b
unfolding slot_says
branch-says R S h l j null o e f = refl
branch-says R S h l j (leaf d p) o e f =
    let q = data-kind d o in
    let s : slot_of (model_in h.lo h.w l) d ≡ j = e.0 in
    rw (q.0, q.1, s) (simp eq-eqb)
branch-says R S h l j (sub t g) o e f =
    let q = child_kind t.at (omega (arith, o.0.inside)) in
    rw (q.0, q.1)

-- a node's record and its slots
module _ (R S : ℕ) (m : Mem) (s : Sized R S m) where
  pub records-are : records_in m.nodes ≡ R
  records-are = omega (arith, s.nodes)

  pub slots-are : slots_in m.slots ≡ S
  slots-are = omega (arith, s.slots)

  -- memory reads a head
  module _ (h : Head) (l : ℕ) (ok : HeadOk R S h l) (reads : (w : Word) → view R m h.at w ≡ cell_w w (node h l)) where
    word_at : (i : ℕ) → i < 8 → get_or m.nodes (h.at * 8 + i) 0 ≡ cell_w (in_node i) (node h l)
    word_at i b = sym (view-node R m h.at i ok.inside b) ∙ reads (in_node i)

    pub node_of-node_in : node_of h l ≡ node_in m.nodes h.at
    unfolding node_in
    node_of-node_in =
        let e0 : get_or m.nodes (h.at * 8) 0 ≡ h.lo = rw add-zero at (word_at 0 (omega arith)) in
        rw (e0, word_at 1 (omega arith), word_at 2 (omega arith), word_at 3 (omega arith))

    pub node-good : GoodNode m h.at (node_of h l)
    node-good = record {
      inside = omega (arith, records-are, ok.inside);
      marked = view-bit R m h.at (reads bit);
      is = node_of-node_in;
      fits = omega (arith, slots-are, ok.run);
      range = ok.range;
    }

    pub node-reads : node_at m h.at ≡ Ok (node_of h l)
    node-reads = good-reads m h.at (node_of h l) node-good

  -- memory reads a slot
  module _ (h : Head) (l j : ℕ) (b : Branch) (o : OkB R S b) (e : EachKey (λ k. slot_h h l k ≡ j) (flat_b b)) (reads : (w : Word) → view R m (R + (h.start + j)) w ≡ cell_w w (cell_of b)) where
    pub slot-word : (i : ℕ) → i < 2 → get_or m.slots ((h.start + j) * 2 + i) 0 ≡ cell_w (in_slot i) (cell_of b)
    slot-word i c = sym (view-slot R m (h.start + j) i c) ∙ reads (in_slot i)

    pub slot-reads : slot_at m.slots (node_of h l) j ≡ slot_to b
    unfolding slot_at
    slot-reads =
        let w : get_or m.slots ((h.start + j) * 2) 0 ≡ cell_w (in_slot 0) (cell_of b) = rw add-zero at (slot-word 0 (omega arith)) in
        rw w (branch-says R S h l j b o e s.few)

-- the slot that a way ends at, the records on it
abbrev pub place_of : Frame → List Frame → ℕ
place_of f [] = f.head.start + len f.left
place_of f (g ∷ c) = place_of g c

abbrev pub records_on : List Frame → List ℕ
records_on [] = []
records_on (f ∷ c) = f.head.at ∷ records_on c

pub records-length : (c : List Frame) → length (records_on c) ≡ length c
records-length [] = refl
records-length (f ∷ c) = ap suc (records-length c)

-- the end of a walk, and a step to it
abbrev pub end_to : ℕ → (b : Branch) → End b → WalkEnd
end_to q null e = Empty q
end_to q (leaf d p) e = Key q d
end_to q (sub h g) e = absurd e

step_end : (q : ℕ) (b : Branch) (e : End b) → step_in q (slot_to b) ≡ Stop (end_to q b e)
unfolding step_in
step_end q null e = refl
step_end q (leaf d p) e = refl
step_end q (sub h g) e = absurd e

step_down : (j : ℕ) (g : Frame) (c : List Frame) (b : Branch) → step_in j (slot_to (plug (g ∷ c) b)) ≡ Down g.head.at
unfolding step_in
step_down j g c b = refl

module _ (R S : ℕ) (m : Mem) (s : Sized R S m) where
  -- one step
  module _ (f : Frame) (b : Branch) (h : Holds R m (plug (f ∷ []) b)) (o : FrameOk R S f b) (k : ℕ) (on : slot_h f.head (width f) k ≡ len f.left) where
    pub step-reads : step_of m f.head.at k ≡ step_in (f.head.start + len f.left) (slot_to b)
    unfolding step_of step_at step_good key_slot
    step-reads =
        rw (node-reads R S m s f.head (width f) o.head_ok (read_head R m f b h), on, slot-reads R S m s f.head (width f) (len f.left) b o.below o.keys (read_spot R m f b h))

  module _ (k : ℕ) (b : Branch) (e : End b) where
    pub walk_way : (c : List Frame) (f : Frame) (n : ℕ) (p : List ℕ) → Holds R m (plug (f ∷ c) b) → OkB R S (plug (f ∷ c) b) → Follows k (f ∷ c) → length c < n
        → walk_from m k n f.head.at p ≡ walk (end_to (place_of f c) b e) (p ++ records_on (f ∷ c))
    unfolding walk_from after
    walk_way c f zero p h o w l = absurd (no l)
      where
        no : length c < 0 → ⊥
        no x = omega arith
    walk_way [] f (suc n) p h o w l = rw (step-reads f b h (frame_of R S f b o) k w.0, step_end (f.head.start + len f.left) b e)
    walk_way (g ∷ c) f (suc n) p h o w l =
        let q = frame_of R S f (plug (g ∷ c) b) o in
        let t : step_in (f.head.start + len f.left) (slot_to (plug (g ∷ c) b)) ≡ Down g.head.at = step_down (f.head.start + len f.left) g c b in
        rw (step-reads f (plug (g ∷ c) b) h q k w.0, t)
        (walk_way c g n (p ++ (f.head.at ∷ [])) (holds-below R m f (plug (g ∷ c) b) h) q.below w.1 (omega arith)
        ∙ ap (walk (end_to (place_of g c) b e)) (append_assoc p (f.head.at ∷ []) (records_on (g ∷ c))))

-- the slot at the end of a way
pub end-slot : (R S : ℕ) (m : Mem) → (b : Branch) (c : List Frame) (f : Frame) → Holds R m (plug (f ∷ c) b)
    → (i : ℕ) → i < 2 → get_or m.slots (place_of f c * 2 + i) 0 ≡ cell_w (in_slot i) (cell_of b)
end-slot R S m b [] f h i l = sym (view-slot R m (place_of f []) i l) ∙ read_spot R m f b h (in_slot i)
end-slot R S m b (g ∷ c) f h i l = end-slot R S m b c g (holds-below R m f (plug (g ∷ c) b) h) i l

-- the walk of the calls
pub walk-good : (R S : ℕ) (m : Mem) (k : ℕ) (f : Frame) (c : List Frame) (b : Branch) (e : End b) → Follows k (f ∷ c) → Kept R S m (plug (f ∷ c) b)
    → walk_of m f.head.at k ≡ walk (end_to (place_of f c) b e) (records_on (f ∷ c))
unfolding walk_of
walk-good R S m k f c b e w g =
    walk_way R S m g.sized k b e c f longest_path [] (holds-all R S m _ g) g.okay w (omega (arith, deep_in (f ∷ c) b, g.deep))
