-- Memory that holds a tree, read along the way to a place: the record of each node on it, and the slot at its end. Assumes nothing.
use mathlib.Core.List.{[], ◌∷◌}
use mathlib.Core.Path.{◌≡◌}
use native.Mathlib.Omega.{arith}
use Prim.Native.Nat.{ℕ, ◌+◌, ◌≤◌}
use Rattle.pool.specs.Memory.{Mem}
use Rattle.demands.specs.Placed.{Branch, cons, len, Cell, node, cell_of, Word, bit, cell_w, at, in_b, in_f, view, Frame, plug, width}
use Rattle.demands.proofs.Plugs.{at_same, at_none, len_app, in_app, none-b, none-f}

-- the position of the branch in a frame, and what the frame says around it
abbrev pub spot : ℕ → Frame → ℕ
spot R f = R + (f.head.start + len f.left)

abbrev pub own : ℕ → (Cell → ℕ) → ℕ → Frame → ℕ
own R φ x f = at f.head.at (φ (node f.head (width f))) x + (in_f R φ x (R + f.head.start) f.left + in_f R φ x (spot R f + 1) f.right)

module _ (R : ℕ) (x : ℕ) (f : Frame) where
  pub in_frame : (φ : Cell → ℕ) (b : Branch) → in_b R φ x (plug (f ∷ []) b) ≡ own R φ x f + (at (spot R f) (φ (cell_of b)) x + in_b R φ x b)
  in_frame φ b =
      let e : R + f.head.start + len f.left ≡ spot R f = omega arith in
      rw (len_app f.left (cons b f.right)) (omega (arith, rw e at (in_app R φ x (R + f.head.start) f.left (cons b f.right))))

  pub none_own : (φ : Cell → ℕ) → own R (cell_w bit) x f ≡ 0 → own R φ x f ≡ 0
  none_own φ h =
      let a = at_none f.head.at (φ (node f.head (width f))) x (omega arith) in
      omega (arith, none-f R φ x (R + f.head.start) f.left (omega arith), none-f R φ x (spot R f + 1) f.right (omega arith))

-- memory holds a branch: each word at each of its positions
abbrev pub Holds : ℕ → Mem → Branch → Type 0
Holds R m b = (x : ℕ) → 1 ≤ in_b R (cell_w bit) x b → (w : Word) → view R m x w ≡ in_b R (cell_w w) x b

module _ (R : ℕ) (m : Mem) where
  pub bit_small : (x : ℕ) → view R m x bit ≤ 1
  unfolding view
  bit_small x = omega arith

  module _ (f : Frame) (b : Branch) (h : Holds R m (plug (f ∷ []) b)) where
    pub holds-below : Holds R m b
    holds-below x g w =
        let e1 = in_frame R x f (cell_w bit) b in
        let e2 = in_frame R x f (cell_w w) b in
        let i = h x (omega arith) in
        let s = i bit in
        let t = bit_small x in
        let n1 = none_own R x f (cell_w w) (omega arith) in
        let n2 = at_none (spot R f) (cell_w w (cell_of b)) x (omega arith) in
        omega (arith, i w)

    pub read_head : (w : Word) → view R m f.head.at w ≡ cell_w w (node f.head (width f))
    read_head w =
        let x = f.head.at in
        let e1 = in_frame R x f (cell_w bit) b in
        let e2 = in_frame R x f (cell_w w) b in
        let a1 = at_same x 1 in
        let a2 = at_same x (cell_w w (node f.head (width f))) in
        let i = h x (omega arith) in
        let s = i bit in
        let t = bit_small x in
        let n1 = none-f R (cell_w w) x (R + f.head.start) f.left (omega arith) in
        let n2 = none-f R (cell_w w) x (spot R f + 1) f.right (omega arith) in
        let n3 = none-b R (cell_w w) x b (omega arith) in
        let n4 = at_none (spot R f) (cell_w w (cell_of b)) x (omega arith) in
        omega (arith, i w)

    pub read_spot : (w : Word) → view R m (spot R f) w ≡ cell_w w (cell_of b)
    read_spot w =
        let x = spot R f in
        let e1 = in_frame R x f (cell_w bit) b in
        let e2 = in_frame R x f (cell_w w) b in
        let a1 = at_same x 1 in
        let a2 = at_same x (cell_w w (cell_of b)) in
        let i = h x (omega arith) in
        let s = i bit in
        let t = bit_small x in
        let n1 = none_own R x f (cell_w w) (omega arith) in
        let n3 = none-b R (cell_w w) x b (omega arith) in
        omega (arith, i w)
