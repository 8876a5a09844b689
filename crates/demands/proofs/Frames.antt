-- The frames of a path, parted at one of its nodes; which of the nodes is due; the slot above a node. Assumes nothing.
use mathlib.Core.Bool.{Bool}
use mathlib.Core.List.{List, [], ◌∷◌, ◌++◌}
use mathlib.Core.Path.{◌≡◌, refl, sym, ap, ◌∙◌}
use native.Mathlib.Omega.{arith}
use Prim.Native.Nat.{ℕ, zero, suc, ◌+◌, ◌*◌, ◌<◌}
use lib.ListN.{length, get_or, take}
use Rattle.counters.specs.Counters.{one_more, raised_if, is_due, due_node, due_in}
use Rattle.insert.specs.Inserting.{slot_above}
use Rattle.laws.specs.Pick.{pick}
use Rattle.pool.specs.Memory.{Mem}
use Rattle.pool.specs.Reading.{node_in}
use Rattle.walk.specs.Walks.{key_slot}
use Rattle.demands.specs.Map.{Map, EachKey}
use Rattle.demands.specs.Placed.{flat_b, pre_c, post_c, Branch, null, leaf, sub, Forest, nil, cons, len, app, Word, in_node, cell_w, node, view, Frame, plug, width, Follows, OkB}
use Rattle.demands.specs.Settling.{due_b, due_f}
use Rattle.demands.proofs.Plugs.{len_app, flat_plug, all_left, all_right, End, slot_h, frame_of}
use Rattle.demands.proofs.Raising.{HeadsIn}
use Rattle.demands.proofs.Reading.{Holds, holds-below, read_head}
use Rattle.demands.proofs.Walking.{Sized, place_of, records_on, view-node, node_of-node_in}

-- a path of frames parted at place i
pub record Part (fs : List Frame) (i : ℕ) : Type 0 where
  pub before : List Frame
  pub here : Frame
  pub after : List Frame
  pub eq : fs ≡ before ++ (here ∷ after)
  pub long : length before ≡ i

pub part : (fs : List Frame) (i : ℕ) → i < length fs → Part fs i
part [] i h = absurd (no h)
  where
    no : i < 0 → ⊥
    no x = omega arith
part (f ∷ fs) zero h = record { before = []; here = f; after = fs; eq = refl; long = refl }
part (f ∷ fs) (suc i) h =
    let p = part fs i (omega arith) in
    record { before = f ∷ p.before; here = p.here; after = p.after; eq = ap (λ (l : List Frame). f ∷ l) p.eq; long = ap suc p.long }

pub plug-app : (c d : List Frame) (b : Branch) → plug (c ++ d) b ≡ plug c (plug d b)
plug-app [] d b = refl
plug-app (f ∷ c) d b = ap (λ (x : Branch). plug (f ∷ []) x) (plug-app c d b)

pub follows-left : (k : ℕ) (c d : List Frame) → Follows k (c ++ d) → Follows k c
follows-left k [] d w = tt
follows-left k (f ∷ c) d w = (w.0, follows-left k c d w.1)

pub follows-right : (k : ℕ) (c d : List Frame) → Follows k (c ++ d) → Follows k d
follows-right k [] d w = w
follows-right k (f ∷ c) d w = follows-right k c d w.1

pub records_at : (c d : List Frame) (f : Frame) → get_or (records_on (c ++ (f ∷ d))) (length c) 0 ≡ f.head.at
records_at [] d f = refl
records_at (g ∷ c) d f = records_at c d f

pub records_before : (c d : List Frame) → take (length c) (records_on (c ++ d)) ≡ records_on c
records_before [] d = refl
records_before (f ∷ c) d = ap (λ (l : List ℕ). f.head.at ∷ l) (records_before c d)

-- which node is due
abbrev pub due_here : Bool → Frame → Bool
due_here c f = is_due (one_more f.head.elements) f.head.built (raised_if c f.head.conflicts) (width f)

abbrev pub due_on : Bool → List Frame → ℕ
due_on c [] = 0
due_on c (f ∷ fs) = pick (due_here c f) 0 (1 + due_on c fs)

due-at : (c : Bool) (k : ℕ) (f : Forest) (b : Branch) (g : Forest) → due_f c k (app f (cons b g)) (len f) ≡ due_b c k b
unfolding due_f
due-at c k nil b g = refl
due-at c k (cons a f) b g = due-at c k f b g

due_end : (c : Bool) (k : ℕ) (b : Branch) → End b → due_b c k b ≡ 0
unfolding due_b
due_end c k null e = refl
due_end c k (leaf j p) e = refl
due_end c k (sub h g) e = absurd e

pub due_plug : (c : Bool) (k : ℕ) (fs : List Frame) (b : Branch) → Follows k fs → End b → due_b c k (plug fs b) ≡ due_on c fs
unfolding due_b
due_plug c k [] b w e = due_end c k b e
due_plug c k (f ∷ fs) b w e =
    rw (len_app f.left (cons (plug fs b) f.right), w.0, due-at c k f.left (plug fs b) f.right, due_plug c k fs b w.1 e)

module _ (R : ℕ) (m : Mem) where
  node_due : (c : Bool) (f : Frame) → f.head.at < R → ((w : Word) → view R m f.head.at w ≡ cell_w w (node f.head (width f))) → due_node m.nodes c f.head.at ≡ due_here c f
  unfolding due_node
  node_due c f i r =
      let s : (j : ℕ) → j < 8 → get_or m.nodes (f.head.at * 8 + j) 0 ≡ cell_w (in_node j) (node f.head (width f)) = λ j h. sym (view-node R m f.head.at j i h) ∙ r (in_node j) in
      rw (s 2 (omega arith), s 4 (omega arith), s 5 (omega arith), s 6 (omega arith))

  pub due_in-records_on : (c : Bool) (fs : List Frame) → HeadsIn R m fs → due_in m.nodes c (records_on fs) ≡ due_on c fs
  unfolding due_in
  due_in-records_on c [] h = refl
  due_in-records_on c (f ∷ fs) h = rw (node_due c f h.0 h.1, due_in-records_on c fs h.2)

-- the slot above the node at place i: that of k in the node before it
module _ (R S : ℕ) (m : Mem) (sized : Sized R S m) (k : ℕ) where
  above-one : (f : Frame) (b : Branch) → Holds R m (plug (f ∷ []) b) → OkB R S (plug (f ∷ []) b) → slot_h f.head (width f) k ≡ len f.left → key_slot (node_in m.nodes f.head.at) k ≡ f.head.start + len f.left
  unfolding key_slot
  above-one f b h o e =
      let q = frame_of R S f b o in
      rw (← node_of-node_in R S m sized f.head (width f) q.head_ok (read_head R m f b h)) (ap (λ (x : ℕ). f.head.start + x) e)

  pub above_is : (f : Frame) (c d : List Frame) (b : Branch) → Holds R m (plug (f ∷ c) b) → OkB R S (plug (f ∷ c) b) → Follows k (f ∷ c)
      → slot_above m.nodes (records_on ((f ∷ c) ++ d)) k (length (f ∷ c)) ≡ place_of f c
  unfolding slot_above
  above_is f [] d b h o w = above-one f b h o w.0
  above_is f (g ∷ c) d b h o w = above-rest f g c d ∙ above_is g c d b (holds-below R m f (plug (g ∷ c) b) h) (frame_of R S f (plug (g ∷ c) b) o).below w.1
    where
      above-rest : (f g : Frame) (c d : List Frame) → slot_above m.nodes (records_on ((f ∷ g ∷ c) ++ d)) k (suc (suc (length c))) ≡ slot_above m.nodes (records_on ((g ∷ c) ++ d)) k (suc (length c))
      above-rest f g c d = refl

-- the keys of a branch follow the frames above it
pub okay-follows : (R S : ℕ) (c : List Frame) (b : Branch) → OkB R S (plug c b) → EachKey (λ k. Follows k c) (flat_b b)
okay-follows R S [] b o = all_of (flat_b b)
  where
    all_of : (l : Map) → EachKey (λ k. Follows k []) l
    all_of [] = tt
    all_of (x ∷ l) = (tt, all_of l)
okay-follows R S (f ∷ c) b o =
    let g = frame_of R S f (plug c b) o in
    let P : ℕ → Type 0 = λ k. slot_h f.head (width f) k ≡ len f.left in
    all_and P (λ k. Follows k c) (flat_b b) (all_left P (flat_b b) (post_c c) (all_right P (pre_c c) (flat_b b ++ post_c c) (rw (flat_plug c b) at g.keys))) (okay-follows R S c b g.below)
  where
    all_and : (P Q : ℕ → Type 0) (l : Map) → EachKey P l → EachKey Q l → EachKey (λ k. P k × Q k) l
    all_and P Q [] h i = tt
    all_and P Q (x ∷ l) h i = ((h.0, i.0), all_and P Q l h.1 i.1)
