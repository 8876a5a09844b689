-- Laws of placed trees: of one cell, of a place in a tree (the frames around it), of the order of keys, and how a key's place is found.
-- Assumes nothing.
use mathlib.Core.List.{List, [], ◌∷◌, ◌++◌, append_assoc, append-nil}
use mathlib.Core.Logic.{⊎_elim}
use mathlib.Core.Path.{◌≡◌, refl, sym, subst, ap, ◌∙◌}
use native.Mathlib.Nat.{add-zero, zero-add}
use native.Mathlib.Omega.{arith}
use Prim.Native.Nat.{ℕ, zero, suc, ◌+◌, ◌<◌, ◌≤◌, max}
use lib.Dec.{eqb}
use lib.ListN.{length}
use borrow.Author.Tests.{eq-eqb, ne_eqb}
use Rattle.laws.proofs.Tests.{both, le_or_lt}
use Rattle.model.proofs.Slots.{slot_under, slot-rises}
use Rattle.model.specs.Slots.{InRange}
use Rattle.demands.specs.Map.{Map, EachKey, Rises}
use Rattle.demands.specs.Placed.{Head, Branch, null, leaf, sub, Forest, nil, cons, len, app, flat_b, flat_f, depth_b, depth_f, Cell, node, cell_of, bit, cell_w, at, in_b, in_f, HeadOk, model_in, slot_in, OkB, OkF, Frame, plug, width, Follows, pre_c, post_c}

-- the slot of a key in a node with L slots
abbrev pub slot_h : Head → ℕ → ℕ → ℕ
slot_h h l k = slot_in h.lo h.w l k

-- keys of different slots are ordered as the slots
pub slot-order : (lo w l : ℕ) → InRange (model_in lo w l) → (x y : ℕ) → slot_in lo w l x < slot_in lo w l y → x < y
slot-order lo w l r x y h = ⊎_elim (λ b. absurd (no b)) (λ a. a) (le_or_lt y x)
  where
    no : y ≤ x → ⊥
    no b = omega (arith, slot-rises (model_in lo w l) r y x b)

pub slot_lt : (lo w l : ℕ) → InRange (model_in lo w l) → (k : ℕ) → slot_in lo w l k < l
slot_lt lo w l r k = slot_under (model_in lo w l) r k

-- one cell
pub at_same : (a v : ℕ) → at a v a ≡ v
unfolding at
at_same a v = rw (eq-eqb a a refl)

pub at_other : (a v x : ℕ) → (x ≡ a → ⊥) → at a v x ≡ 0
unfolding at
at_other a v x n = rw (ne_eqb x a n)

pub at_none : (a v x : ℕ) → at a 1 x ≡ 0 → at a v x ≡ 0
unfolding at
at_none a v x = both (eqb x a) (λ e. rw e (λ h. absurd (no h))) (λ e. rw e (λ h. refl))
  where
    no : ◌≡◌ {A = ℕ} 1 0 → ⊥
    no h = omega arith

-- lists of branches
pub len_app : (f g : Forest) → len (app f g) ≡ len f + len g
len_app nil g = sym (zero-add _)
len_app (cons b f) g = omega (arith, len_app f g)

pub flat_app : (f g : Forest) → flat_f (app f g) ≡ flat_f f ++ flat_f g
flat_app nil g = refl
flat_app (cons b f) g = rw (flat_app f g) (sym (append_assoc (flat_b b) (flat_f f) (flat_f g)))

pub depth-app : (f g : Forest) → depth_f (app f g) ≡ max (depth_f f) (depth_f g)
depth-app nil g = omega arith
depth-app (cons b f) g = omega (arith, depth-app f g)

module _ (R : ℕ) (φ : Cell → ℕ) (x : ℕ) where
  pub in_app : (a : ℕ) (f g : Forest) → in_f R φ x a (app f g) ≡ in_f R φ x a f + in_f R φ x (a + len f) g
  in_app a nil g = rw add-zero (sym (zero-add _))
  in_app a (cons b f) g =
      let e : a + 1 + len f ≡ a + suc (len f) = omega arith in
      omega (arith, rw e at (in_app (a + 1) f g))

  -- where no cell stands nothing is said
  mutual
    pub none-b : (b : Branch) → in_b R (cell_w bit) x b ≡ 0 → in_b R φ x b ≡ 0
    none-b null h = refl
    none-b (leaf k p) h = refl
    none-b (sub r g) h =
        let a = at_none r.at (φ (node r (len g))) x (omega arith) in
        omega (arith, none-f (R + r.start) g (omega arith))

    pub none-f : (a : ℕ) (f : Forest) → in_f R (cell_w bit) x a f ≡ 0 → in_f R φ x a f ≡ 0
    none-f a nil h = refl
    none-f a (cons b f) h =
        let e = at_none a (φ (cell_of b)) x (omega arith) in
        omega (arith, none-b b (omega arith), none-f (a + 1) f (omega arith))

-- the map of a tree, around a place
pub flat_plug : (c : List Frame) (b : Branch) → flat_b (plug c b) ≡ pre_c c ++ (flat_b b ++ post_c c)
flat_plug [] b = sym (append-nil _)
flat_plug (f ∷ c) b = rw (flat_app f.left (cons (plug c b) f.right), flat_plug c b) (simp append_assoc)

-- every key of a map
pub all_map : (P Q : ℕ → Type 0) (l : Map) → ((k : ℕ) → P k → Q k) → EachKey P l → EachKey Q l
all_map P Q [] f h = tt
all_map P Q (x ∷ l) f h = (f x.0 h.0, all_map P Q l f h.1)

pub all_app : (P : ℕ → Type 0) (a b : Map) → EachKey P a → EachKey P b → EachKey P (a ++ b)
all_app P [] b h i = i
all_app P (x ∷ a) b h i = (h.0, all_app P a b h.1 i)

pub all_left : (P : ℕ → Type 0) (a b : Map) → EachKey P (a ++ b) → EachKey P a
all_left P [] b h = tt
all_left P (x ∷ a) b h = (h.0, all_left P a b h.1)

pub all_right : (P : ℕ → Type 0) (a b : Map) → EachKey P (a ++ b) → EachKey P b
all_right P [] b h = h
all_right P (x ∷ a) b h = all_right P a b h.1

-- what a frame says of the branch in it
pub record FrameOk (R S : ℕ) (f : Frame) (b : Branch) : Type 0 where
  pub head_ok : HeadOk R S f.head (width f)
  pub left_ok : OkF R S f.head.lo f.head.w (width f) 0 f.left
  pub keys : EachKey (λ k. slot_h f.head (width f) k ≡ len f.left) (flat_b b)
  pub below : OkB R S b
  pub right_ok : OkF R S f.head.lo f.head.w (width f) (len f.left + 1) f.right

module _ (R S : ℕ) where
  pub ok_left : (h : Head) (l i : ℕ) (f g : Forest) → OkF R S h.lo h.w l i (app f g) → OkF R S h.lo h.w l i f
  ok_left h l i nil g o = tt
  ok_left h l i (cons b f) g o = (o.0, o.1, ok_left h l (i + 1) f g o.2)

  pub ok_right : (h : Head) (l i : ℕ) (f g : Forest) → OkF R S h.lo h.w l i (app f g) → OkF R S h.lo h.w l (i + len f) g
  ok_right h l i nil g o = rw add-zero o
  ok_right h l i (cons b f) g o =
      let e : i + suc (len f) ≡ i + 1 + len f = omega arith in
      rw e (ok_right h l (i + 1) f g o.2)

  pub ok_app : (h : Head) (l i : ℕ) (f g : Forest) → OkF R S h.lo h.w l i f → OkF R S h.lo h.w l (i + len f) g → OkF R S h.lo h.w l i (app f g)
  ok_app h l i nil g o q = rw add-zero at q
  ok_app h l i (cons b f) g o q =
      let e : i + suc (len f) ≡ i + 1 + len f = omega arith in
      (o.0, o.1, ok_app h l (i + 1) f g o.2 (rw e at q))

  pub frame_of : (f : Frame) (b : Branch) → OkB R S (plug (f ∷ []) b) → FrameOk R S f b
  frame_of f b o =
      let o1 = rw (len_app f.left (cons b f.right)) at o in
      let g = rw zero-add at (ok_right f.head (width f) 0 f.left (cons b f.right) o1.1) in
      record {
        head_ok = o1.0;
        left_ok = ok_left f.head (width f) 0 f.left (cons b f.right) o1.1;
        keys = g.0;
        below = g.1;
        right_ok = g.2;
      }

  pub of_frame : (f : Frame) (b : Branch) → FrameOk R S f b → OkB R S (plug (f ∷ []) b)
  of_frame f b o =
      rw (len_app f.left (cons b f.right))
      (o.head_ok, ok_app f.head (width f) 0 f.left (cons b f.right) o.left_ok (rw zero-add (o.keys, o.below, o.right_ok)))

  -- another branch whose keys belong there
  pub ok_plug : (c : List Frame) (b d : Branch) → OkB R S (plug c b) → OkB R S d → EachKey (λ k. Follows k c) (flat_b d) → OkB R S (plug c d)
  ok_plug [] b d o p a = p
  ok_plug (f ∷ c) b d o p a =
      let g = frame_of f (plug c b) o in
      let P : ℕ → Type 0 = λ k. slot_h f.head (width f) k ≡ len f.left in
      let q = rw (flat_plug c b) at g.keys in
      of_frame f (plug c d) (record {
        head_ok = g.head_ok;
        left_ok = g.left_ok;
        keys = rw (flat_plug c d) (all_app P (pre_c c) (flat_b d ++ post_c c) (all_left P (pre_c c) (flat_b b ++ post_c c) q)
            (all_app P (flat_b d) (post_c c) (all_map (λ k. Follows k (f ∷ c)) P (flat_b d) (λ k h. h.0) a)
            (all_right P (flat_b b) (post_c c) (all_right P (pre_c c) (flat_b b ++ post_c c) q))));
        below = ok_plug c b d g.below p (all_map (λ k. Follows k (f ∷ c)) (λ k. Follows k c) (flat_b d) (λ k h. h.1) a);
        right_ok = g.right_ok;
      })

  -- the keys of a run lie in its slots
  pub from_f : (h : Head) (l i : ℕ) (f : Forest) → OkF R S h.lo h.w l i f → EachKey (λ k. i ≤ slot_h h l k) (flat_f f)
  from_f h l i nil o = tt
  from_f h l i (cons b f) o =
      all_app (λ k. i ≤ slot_h h l k) (flat_b b) (flat_f f) (all_map _ _ (flat_b b) (λ k e. omega arith) o.0)
      (all_map _ _ (flat_f f) (λ k e. omega arith) (from_f h l (i + 1) f o.2))

  pub to_f : (h : Head) (l i : ℕ) (f : Forest) → OkF R S h.lo h.w l i f → EachKey (λ k. slot_h h l k < i + len f) (flat_f f)
  to_f h l i nil o = tt
  to_f h l i (cons b f) o =
      all_app (λ k. slot_h h l k < i + suc (len f)) (flat_b b) (flat_f f) (all_map _ _ (flat_b b) (λ k e. omega arith) o.0)
      (all_map _ _ (flat_f f) (λ k e. omega arith) (to_f h l (i + 1) f o.2))

  -- a key's place parts the map
  module _ (k : ℕ) where
    pub pre_less : (c : List Frame) (b : Branch) → OkB R S (plug c b) → Follows k c → EachKey (λ x. x < k) (pre_c c)
    pre_less [] b o h = tt
    pre_less (f ∷ c) b o h =
        let g = frame_of f (plug c b) o in
        all_app (λ x. x < k) (flat_f f.left) (pre_c c)
        (all_map _ _ (flat_f f.left) (λ x e. slot-order f.head.lo f.head.w (width f) g.head_ok.range x k (omega arith)) (to_f f.head (width f) 0 f.left g.left_ok))
        (pre_less c b g.below h.1)

    pub post_more : (c : List Frame) (b : Branch) → OkB R S (plug c b) → Follows k c → EachKey (λ x. k < x) (post_c c)
    post_more [] b o h = tt
    post_more (f ∷ c) b o h =
        let g = frame_of f (plug c b) o in
        all_app (λ x. k < x) (post_c c) (flat_f f.right) (post_more c b g.below h.1)
        (all_map _ _ (flat_f f.right) (λ x e. slot-order f.head.lo f.head.w (width f) g.head_ok.range k x (omega arith)) (from_f f.head (width f) (len f.left + 1) f.right g.right_ok))

-- the map of a good tree rises
pub rises-app : (a b : Map) → Rises a → Rises b → EachKey (λ x. EachKey (λ y. x < y) b) a → Rises (a ++ b)
rises-app [] b r s h = s
rises-app (x ∷ a) b r s h = (all_app (λ y. x.0 < y) a b r.0 h.0, rises-app a b r.1 s h.1)

module _ (R S : ℕ) where
  mutual
    pub rises-b : (b : Branch) → OkB R S b → Rises (flat_b b)
    rises-b null o = tt
    rises-b (leaf k p) o = (tt, tt)
    rises-b (sub h g) o = rises-f g h (len g) 0 o.0.range o.1

    pub rises-f : (f : Forest) (h : Head) (l i : ℕ) → InRange (model_in h.lo h.w l) → OkF R S h.lo h.w l i f → Rises (flat_f f)
    rises-f nil h l i r o = tt
    rises-f (cons b f) h l i r o =
        rises-app (flat_b b) (flat_f f) (rises-b b o.1) (rises-f f h l (i + 1) r o.2)
        (all_map (λ x. slot_h h l x ≡ i) (λ x. EachKey (λ y. x < y) (flat_f f)) (flat_b b)
        (λ x e. all_map (λ y. i + 1 ≤ slot_h h l y) (λ y. x < y) (flat_f f) (λ y d. slot-order h.lo h.w l r x y (omega arith)) (from_f R S h l (i + 1) f o.2))
        o.0)

-- depth
pub deep_in : (c : List Frame) (b : Branch) → length c + depth_b b ≤ depth_b (plug c b)
deep_in [] b = omega arith
deep_in (f ∷ c) b = omega (arith, deep_in c b, depth-app f.left (cons (plug c b) f.right))

pub deep-plug : (c : List Frame) (b d : Branch) → depth_b (plug c d) ≤ max (depth_b (plug c b)) (length c + depth_b d)
deep-plug [] b d = omega arith
deep-plug (f ∷ c) b d = omega (arith, deep-plug c b d, depth-app f.left (cons (plug c b) f.right), depth-app f.left (cons (plug c d) f.right))

-- the place of a key
pub record Split (f : Forest) (j : ℕ) : Type 0 where
  pub left : Forest
  pub it : Branch
  pub right : Forest
  pub eq : f ≡ app left (cons it right)
  pub here : len left ≡ j

pub split : (f : Forest) (j : ℕ) → j < len f → Split f j
split nil j h = absurd (no h)
  where
    no : j < 0 → ⊥
    no x = omega arith
split (cons b f) zero h = record { left = nil; it = b; right = f; eq = refl; here = refl }
split (cons b f) (suc j) h =
    let s = split f j (omega arith) in
    record { left = cons b s.left; it = s.it; right = s.right; eq = ap (cons b) s.eq; here = ap suc s.here }

abbrev pub End : Branch → Type 0
End null = Unit
End (leaf k p) = Unit
End (sub h g) = ⊥

pub record Zip (k : ℕ) (t : Branch) : Type 0 where
  pub ctx : List Frame
  pub end : Branch
  pub eq : t ≡ plug ctx end
  pub follows : Follows k ctx
  pub is_end : End end

stop : (k : ℕ) (t : Branch) → End t → Zip k t
stop k t h = record { ctx = []; end = t; eq = refl; follows = tt; is_end = h }

pub find : (R S k n : ℕ) (t : Branch) → OkB R S t → depth_b t ≤ n → Zip k t
find R S k zero null o d = stop k null tt
find R S k zero (leaf x p) o d = stop k (leaf x p) tt
find R S k zero (sub h g) o d = absurd (no d)
  where
    no : suc (depth_f g) ≤ 0 → ⊥
    no x = omega arith
find R S k (suc n) null o d = stop k null tt
find R S k (suc n) (leaf x p) o d = stop k (leaf x p) tt
find R S k (suc n) (sub h g) o d =
    let s = split g (slot_h h (len g) k) (slot_lt h.lo h.w (len g) o.0.range k) in
    let f : Frame = record { head = h; left = s.left; right = s.right } in
    let e : sub h g ≡ plug (f ∷ []) s.it = ap (sub h) s.eq in
    let g1 = frame_of R S f s.it (subst (OkB R S) e o) in
    let z = find R S k n s.it g1.below (omega (arith, ap depth_b e, deep_in (f ∷ []) s.it)) in
    let w : width f ≡ len g = sym (ap len s.eq ∙ len_app s.left (cons s.it s.right)) in
    record {
      ctx = f ∷ z.ctx;
      end = z.end;
      eq = e ∙ ap (λ (b : Branch). plug (f ∷ []) b) z.eq;
      follows = (rw w (sym s.here), z.follows);
      is_end = z.is_end;
    }
