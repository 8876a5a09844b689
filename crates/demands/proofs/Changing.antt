-- Another branch at a place of a tree: what memory lost and gained is what the tree lost and gained. Storing one slot is the first
-- use. Assumes nothing.
use mathlib.Core.List.{List, [], ◌∷◌, ◌++◌, map}
use mathlib.Core.Path.{◌≡◌, refl, sym, subst, ap, ◌∙◌}
use native.Mathlib.Nat.{add-zero}
use native.Mathlib.Omega.{arith}
use Prim.Native.Nat.{ℕ, zero, suc, ◌+◌, ◌*◌, ◌-◌, ◌<◌, ◌≤◌}
use lib.Dec.{eqb, ltb}
use lib.ListN.{length, get_or, set, length-set}
use lib.Seq.{get_or-set_same, get_or-set_other}
use borrow.Author.Tests.{eqb-true, eqb-false, ltb-true, ltb-false}
use Rattle.laws.proofs.Tests.{both}
use Rattle.pool.specs.Memory.{Mem}
use Rattle.walk.specs.Walks.{longest_path}
use Rattle.demands.specs.Map.{EachKey}
use Rattle.demands.specs.Placed.{Branch, null, leaf, sub, cons, flat_b, depth_b, Cell, child, node, cell_of, Word, bit, in_node, in_slot, cell_w, at, in_b, in_f, view, OkB, Words, Frame, plug, width, Follows, pre_c, post_c}
use Rattle.demands.proofs.Plugs.{at_same, at_other, flat_plug, depth-app, deep_in, deep-plug, frame_of, of_frame, ok_plug, End}
use Rattle.demands.proofs.Reading.{spot, in_frame, Holds, holds-below, read_spot}
use Rattle.demands.proofs.Walking.{Sized, Kept, place_of, view-slot, slot-past, holds-all}

-- counters changed: the model and the place stay
pub record Count : Type 0 where
  pub elements : ℕ → ℕ
  pub conflicts : ℕ → ℕ

abbrev pub up : Count → Frame → Frame
up n f = record {
  head = record { at = f.head.at; lo = f.head.lo; w = f.head.w; start = f.head.start; elements = n.elements f.head.elements; built = f.head.built; conflicts = n.conflicts f.head.conflicts };
  left = f.left;
  right = f.right;
}

-- the records on a way; all the rest around the branch at its end
abbrev pub heads : (Cell → ℕ) → ℕ → List Frame → ℕ
heads φ x [] = 0
heads φ x (f ∷ c) = at f.head.at (φ (node f.head (width f))) x + heads φ x c

abbrev pub sides : ℕ → (Cell → ℕ) → ℕ → Frame → ℕ
sides R φ x f = in_f R φ x (R + f.head.start) f.left + in_f R φ x (spot R f + 1) f.right

abbrev pub around : ℕ → (Cell → ℕ) → ℕ → Frame → List Frame → ℕ
around R φ x f [] = sides R φ x f
around R φ x f (g ∷ c) = sides R φ x f + (at (spot R f) (φ (child g.head.at)) x + around R φ x g c)

abbrev pub hole : ℕ → (Cell → ℕ) → ℕ → ℕ → Branch → ℕ
hole R φ x q b = at (R + q) (φ (cell_of b)) x + in_b R φ x b

module _ (R x : ℕ) (φ : Cell → ℕ) where
  pub in_plug : (f : Frame) (c : List Frame) (b : Branch) → in_b R φ x (plug (f ∷ c) b) ≡ around R φ x f c + (heads φ x (f ∷ c) + hole R φ x (place_of f c) b)
  in_plug f [] b = omega (arith, in_frame R x f φ b)
  in_plug f (g ∷ c) b = omega (arith, in_frame R x f φ (plug (g ∷ c) b), in_plug g c b)

  pub around_up : (n : Count) (f : Frame) (c : List Frame) → around R φ x (up n f) (map (up n) c) ≡ around R φ x f c
  around_up n f [] = refl
  around_up n f (g ∷ c) = rw (around_up n g c)

pub place_up : (n : Count) (f : Frame) (c : List Frame) → place_of (up n f) (map (up n) c) ≡ place_of f c
place_up n f [] = refl
place_up n f (g ∷ c) = place_up n g c

-- THE GENERAL LAW of memory: what memory lost and gained is what the tree lost and gained
module _ (R : ℕ) (m o : Mem) (n : Count) (f : Frame) (c : List Frame) (b d : Branch) where
  abbrev pub Delta : Type 0
  Delta = (x : ℕ) (w : Word) → view R o x w + (heads (cell_w w) x (f ∷ c) + hole R (cell_w w) x (place_of f c) b) ≡ view R m x w + (heads (cell_w w) x (map (up n) (f ∷ c)) + hole R (cell_w w) x (place_of f c) d)

  pub image-plug : Delta → ((x : ℕ) (w : Word) → view R m x w ≡ in_b R (cell_w w) x (plug (f ∷ c) b))
      → (x : ℕ) (w : Word) → view R o x w ≡ in_b R (cell_w w) x (plug (map (up n) (f ∷ c)) d)
  image-plug e i x w =
      let p = in_plug R x (cell_w w) (up n f) (map (up n) c) d in
      let q = around_up R x (cell_w w) n f c in
      let r : place_of (up n f) (map (up n) c) ≡ place_of f c = place_up n f c in
      omega (arith, e x w, i x w, in_plug R x (cell_w w) f c b, rw (q, r) at p)

-- the tree's side: counters raised on the way
module _ (n : Count) where
  pub pre_up : (c : List Frame) → pre_c (map (up n) c) ≡ pre_c c
  pre_up [] = refl
  pre_up (f ∷ c) = rw (pre_up c)

  pub post_up : (c : List Frame) → post_c (map (up n) c) ≡ post_c c
  post_up [] = refl
  post_up (f ∷ c) = rw (post_up c)

  pub flat_up : (c : List Frame) (b : Branch) → flat_b (plug (map (up n) c) b) ≡ pre_c c ++ (flat_b b ++ post_c c)
  flat_up c b = rw (flat_plug (map (up n) c) b, pre_up c, post_up c)

  pub depth_up : (c : List Frame) (b : Branch) → depth_b (plug (map (up n) c) b) ≡ depth_b (plug c b)
  depth_up [] b = refl
  depth_up (f ∷ c) b = omega (arith, depth_up c b, depth-app f.left (cons (plug (map (up n) c) b) f.right), depth-app f.left (cons (plug c b) f.right))

  pub ok_up : (R S : ℕ) (c : List Frame) (b : Branch) → OkB R S (plug c b) → OkB R S (plug (map (up n) c) b)
  ok_up R S [] b o = o
  ok_up R S (f ∷ c) b o =
      let g = frame_of R S f (plug c b) o in
      let a = g.head_ok in
      of_frame R S (up n f) (plug (map (up n) c) b) (record {
        head_ok = record { inside = a.inside; range = a.range; run = a.run };
        left_ok = g.left_ok;
        keys = rw (flat_up c b, ← flat_plug c b) g.keys;
        below = ok_up R S c b g.below;
        right_ok = g.right_ok;
      })

-- THE GENERAL LEMMA: another branch at a place
module _ (R S : ℕ) (m o : Mem) (n : Count) (f : Frame) (c : List Frame) (b d : Branch) where
  pub good-plug : Kept R S m (plug (f ∷ c) b) → Delta R m o n f c b d → OkB R S d → EachKey (λ k. Follows k (f ∷ c)) (flat_b d) → length (f ∷ c) + depth_b d ≤ longest_path
      → Sized R S o → Words o.used → Kept R S o (plug (map (up n) (f ∷ c)) d)
  good-plug g e k a l s u = record {
    image = image-plug R m o n f c b d e g.image;
    okay = ok_up n R S (f ∷ c) d (ok_plug R S (f ∷ c) b d g.okay k a);
    deep = omega (arith, depth_up n (f ∷ c) d, deep-plug (f ∷ c) b d, g.deep);
    sized = s;
    words = u;
  }

pub no_node : (b : Branch) (i : ℕ) → cell_w (in_node i) (cell_of b) ≡ 0
no_node null i = refl
no_node (leaf k p) i = refl
no_node (sub h g) i = refl

no_more : (b : Branch) (i : ℕ) → cell_w (in_slot (suc (suc i))) (cell_of b) ≡ 0
no_more null i = refl
no_more (leaf k p) i = refl
no_more (sub h g) i = refl

pub end_in : (R : ℕ) (φ : Cell → ℕ) (x : ℕ) (b : Branch) → End b → in_b R φ x b ≡ 0
end_in R φ x null e = refl
end_in R φ x (leaf k p) e = refl
end_in R φ x (sub h g) e = absurd e

end-deep : (b : Branch) → End b → depth_b b ≡ 0
end-deep null e = refl
end-deep (leaf k p) e = refl
end-deep (sub h g) e = absurd e

-- one slot stored
abbrev pub put_slot : Mem → ℕ → ℕ → ℕ → Mem
put_slot m q a v = record { nodes = m.nodes; slots = set (set m.slots (q * 2) a) (q * 2 + 1) v; used = m.used }

module _ (R : ℕ) (m : Mem) (q a v : ℕ) where
  pub put_other : (x : ℕ) (w : Word) → (x ≡ R + q → ⊥) → view R (put_slot m q a v) x w ≡ view R m x w
  unfolding view
  put_other x bit n = refl
  put_other x (in_node i) n = refl
  put_other x (in_slot i) n = both (ltb i 2) (λ e. rw e (both (ltb x R) (λ t. rw t) (λ t. rw t (far (ltb-true i 2 e) (ltb-false x R t))))) (λ e. rw e)
    where
      far : i < 2 → R ≤ x → get_or (set (set m.slots (q * 2) a) (q * 2 + 1) v) ((x - R) * 2 + i) 0 ≡ get_or m.slots ((x - R) * 2 + i) 0
      far h g =
          get_or-set_other (set m.slots (q * 2) a) (q * 2 + 1) ((x - R) * 2 + i) v 0 (omega arith) ∙ get_or-set_other m.slots (q * 2) ((x - R) * 2 + i) a 0 (omega arith)

  module _ (h : q * 2 + 1 < length m.slots) where
    put_first : view R (put_slot m q a v) (R + q) (in_slot 0) ≡ a
    put_first =
        view-slot R (put_slot m q a v) q 0 (omega arith) ∙ get_or-set_other (set m.slots (q * 2) a) (q * 2 + 1) (q * 2 + 0) v 0 (omega arith)
        ∙ (rw add-zero (get_or-set_same m.slots (q * 2) a 0 (omega arith)))

    put_second : view R (put_slot m q a v) (R + q) (in_slot 1) ≡ v
    put_second = view-slot R (put_slot m q a v) q 1 (omega arith) ∙ get_or-set_same (set m.slots (q * 2) a) (q * 2 + 1) v 0 (rw length-set h)

    pub put-words : (d : Branch) → a ≡ cell_w (in_slot 0) (cell_of d) → v ≡ cell_w (in_slot 1) (cell_of d) → (i : ℕ) → view R (put_slot m q a v) (R + q) (in_slot i) ≡ cell_w (in_slot i) (cell_of d)
    put-words d ea ev zero = put_first ∙ ea
    put-words d ea ev (suc zero) = put_second ∙ ev
    put-words d ea ev (suc (suc i)) = slot-past R (put_slot m q a v) (R + q) (suc (suc i)) (omega arith) ∙ sym (no_more d i)

    put_here : (b d : Branch) → a ≡ cell_w (in_slot 0) (cell_of d) → v ≡ cell_w (in_slot 1) (cell_of d) → ((w : Word) → view R m (R + q) w ≡ cell_w w (cell_of b)) → (w : Word) → view R (put_slot m q a v) (R + q) w ≡ cell_w w (cell_of d)
    unfolding view
    put_here b d ea ev r bit = r bit
    put_here b d ea ev r (in_node i) = r (in_node i) ∙ no_node b i ∙ sym (no_node d i)
    put_here b d ea ev r (in_slot i) = put-words d ea ev i

  -- a slot stored: its cell is another
  pub cell_delta : q * 2 + 1 < length m.slots → (b d : Branch) → a ≡ cell_w (in_slot 0) (cell_of d) → v ≡ cell_w (in_slot 1) (cell_of d)
      → ((w : Word) → view R m (R + q) w ≡ cell_w w (cell_of b)) → (x : ℕ) (w : Word) → view R (put_slot m q a v) x w + at (R + q) (cell_w w (cell_of b)) x ≡ view R m x w + at (R + q) (cell_w w (cell_of d)) x
  cell_delta h b d ea ev r x w = both (eqb x (R + q)) (λ e. here (eqb-true x (R + q) e)) (λ e. there (eqb-false x (R + q) e))
    where
      here : x ≡ R + q → view R (put_slot m q a v) x w + at (R + q) (cell_w w (cell_of b)) x ≡ view R m x w + at (R + q) (cell_w w (cell_of d)) x
      here e = rw (e, at_same (R + q) (cell_w w (cell_of b)), at_same (R + q) (cell_w w (cell_of d)), put_here h b d ea ev r w, r w) (omega arith)

      there : (x ≡ R + q → ⊥) → view R (put_slot m q a v) x w + at (R + q) (cell_w w (cell_of b)) x ≡ view R m x w + at (R + q) (cell_w w (cell_of d)) x
      there n = omega (arith, put_other x w n, at_other (R + q) (cell_w w (cell_of b)) x n, at_other (R + q) (cell_w w (cell_of d)) x n)

  pub put_delta : q * 2 + 1 < length m.slots → (b d : Branch) → End b → End d → a ≡ cell_w (in_slot 0) (cell_of d) → v ≡ cell_w (in_slot 1) (cell_of d)
      → ((w : Word) → view R m (R + q) w ≡ cell_w w (cell_of b)) → (x : ℕ) (w : Word) → view R (put_slot m q a v) x w + hole R (cell_w w) x q b ≡ view R m x w + hole R (cell_w w) x q d
  put_delta h b d eb ed ea ev r x w = omega (arith, cell_delta h b d ea ev r x w, end_in R (cell_w w) x b eb, end_in R (cell_w w) x d ed)

-- what stands at the end of a way
pub hole_reads : (R : ℕ) (m : Mem) (f : Frame) (c : List Frame) (b : Branch) → Holds R m (plug (f ∷ c) b) → (w : Word) → view R m (R + place_of f c) w ≡ cell_w w (cell_of b)
hole_reads R m f [] b h w = read_spot R m f b h w
hole_reads R m f (g ∷ c) b h w = hole_reads R m g c b (holds-below R m f (plug (g ∷ c) b) h) w

pub place_in : (R S : ℕ) (f : Frame) (c : List Frame) (b : Branch) → OkB R S (plug (f ∷ c) b) → place_of f c < S
place_in R S f [] b o = let g = frame_of R S f b o in omega (arith, g.head_ok.run)
place_in R S f (g ∷ c) b o = place_in R S g c b (frame_of R S f (plug (g ∷ c) b) o).below

-- counters that stay
abbrev pub still : Count
still = record { elements = λ n. n; conflicts = λ n. n }

pub up_still : (c : List Frame) → map (up still) c ≡ c
up_still [] = refl
up_still (f ∷ c) = ap (λ (l : List Frame). f ∷ l) (up_still c)

-- a slot of a good tree is stored: the branch at the end of the way is another
module _ (R S : ℕ) (m : Mem) (f : Frame) (c : List Frame) (b d : Branch) (g : Kept R S m (plug (f ∷ c) b)) (eb : End b) (ed : End d) where
  pub put-good : OkB R S d → EachKey (λ k. Follows k (f ∷ c)) (flat_b d) → (a v : ℕ) → a ≡ cell_w (in_slot 0) (cell_of d) → v ≡ cell_w (in_slot 1) (cell_of d)
      → Kept R S (put_slot m (place_of f c) a v) (plug (f ∷ c) d)
  put-good k l a v ea ev =
      let q = place_of f c in
      let p : q * 2 + 1 < length m.slots = omega (arith, place_in R S f c b g.okay, g.sized.slots) in
      let e = put_delta R m q a v p b d eb ed ea ev (hole_reads R m f c b (holds-all R S m _ g)) in
      let z : depth_b d ≡ 0 = end-deep d ed in
      let y : Kept R S (put_slot m q a v) (plug (map (up still) (f ∷ c)) d) =
      good-plug R S m (put_slot m q a v) still f c b d g (λ x w. rw (up_still c) (omega (arith, e x w))) k l (omega (arith, deep_in (f ∷ c) b, g.deep)) (record { nodes = g.sized.nodes; slots = simp length-set g.sized.slots; used = g.sized.used; few = g.sized.few }) g.words in
      subst (λ (h : List Frame). Kept R S (put_slot m q a v) (plug h d)) (up_still (f ∷ c)) y
