-- Memory that holds a branch or a run of slots: what it says of the parts. And two memories that say the same everywhere are the
-- same: one tree in one set of places has one memory image. Assumes nothing.
use mathlib.Core.Path.{◌≡◌, sym, subst, ◌∙◌}
use native.Mathlib.Omega.{arith}
use Prim.Native.Nat.{ℕ, ◌+◌, ◌*◌, ◌<◌, ◌≤◌, ◌/◌, ◌%◌, ◌^◌}
use lib.ListN.{get_or}
use lib.Seq.{ext_get_or}
use Rattle.std.proofs.lemmas.Nat.Bits.{same_from_bits_below}
use Rattle.pool.specs.Memory.{Mem}
use Rattle.demands.specs.Placed.{Head, Branch, sub, Forest, cons, len, node, cell_of, Word, bit, in_node, in_slot, cell_w, in_f, view, Words}
use Rattle.demands.proofs.Plugs.{at_same, at_none, none-b, none-f}
use Rattle.demands.proofs.Reading.{Holds, bit_small}
use Rattle.demands.proofs.Walking.{Sized, Kept, view-node, view-slot}

-- memory holds a run
abbrev pub HoldsF : ℕ → Mem → ℕ → Forest → Type 0
HoldsF R m a f = (x : ℕ) → 1 ≤ in_f R (cell_w bit) x a f → (w : Word) → view R m x w ≡ in_f R (cell_w w) x a f

module _ (R : ℕ) (m : Mem) where
  module _ (h : Head) (g : Forest) (k : Holds R m (sub h g)) where
    pub root-reads : (w : Word) → view R m h.at w ≡ cell_w w (node h (len g))
    root-reads w =
        let x = h.at in
        let a1 = at_same x 1 in
        let a2 = at_same x (cell_w w (node h (len g))) in
        let i = k x (omega arith) in
        omega (arith, i w, none-f R (cell_w w) x (R + h.start) g (omega (arith, i bit, bit_small R m x)))

    pub run_holds : HoldsF R m (R + h.start) g
    run_holds x l w =
        let i = k x (omega arith) in
        omega (arith, i w, at_none h.at (cell_w w (node h (len g))) x (omega (arith, i bit, bit_small R m x)))

  module _ (a : ℕ) (b : Branch) (f : Forest) (k : HoldsF R m a (cons b f)) where
    pub first_reads : (w : Word) → view R m a w ≡ cell_w w (cell_of b)
    first_reads w =
        let a1 = at_same a 1 in
        let a2 = at_same a (cell_w w (cell_of b)) in
        let i = k a (omega arith) in
        let s = i bit in
        let t = bit_small R m a in
        omega (arith, i w, none-b R (cell_w w) a b (omega arith), none-f R (cell_w w) a (a + 1) f (omega arith))

    pub branch-holds : Holds R m b
    branch-holds x l w =
        let i = k x (omega arith) in
        let s = i bit in
        let t = bit_small R m x in
        omega (arith, i w, at_none a (cell_w w (cell_of b)) x (omega arith), none-f R (cell_w w) x (a + 1) f (omega arith))

    pub rest-holds : HoldsF R m (a + 1) f
    rest-holds x l w =
        let i = k x (omega arith) in
        let s = i bit in
        let t = bit_small R m x in
        omega (arith, i w, at_none a (cell_w w (cell_of b)) x (omega arith), none-b R (cell_w w) x b (omega arith))

same_bit : (R : ℕ) (m o : Mem) (x : ℕ) → view R m x bit ≡ view R o x bit → get_or m.used (x / 64) 0 / 2 ^ (x % 64) % 2 ≡ get_or o.used (x / 64) 0 / 2 ^ (x % 64) % 2
unfolding view
same_bit R m o x e = e

pub same_memory : (R S : ℕ) (m o : Mem) → Sized R S m → Sized R S o → Words m.used → Words o.used
    → ((x : ℕ) (w : Word) → view R m x w ≡ view R o x w) → m ≡ o
same_memory R S m o s t wm wo v = λ i. record { nodes = nodes i; slots = slots i; used = used i }
  where
    nodes : m.nodes ≡ o.nodes
    nodes = ext_get_or 0 m.nodes o.nodes (s.nodes ∙ sym t.nodes) (λ i l.
        let e : i / 8 * 8 + i % 8 ≡ i = omega arith in
        let a : i / 8 < R = omega (arith, s.nodes) in
        let b : i % 8 < 8 = omega arith in
        subst (λ (j : ℕ). get_or m.nodes j 0 ≡ get_or o.nodes j 0) e (sym (view-node R m (i / 8) (i % 8) a b) ∙ v (i / 8) (in_node (i % 8)) ∙ view-node R o (i / 8) (i % 8) a b))

    slots : m.slots ≡ o.slots
    slots = ext_get_or 0 m.slots o.slots (s.slots ∙ sym t.slots) (λ i l.
        let e : i / 2 * 2 + i % 2 ≡ i = omega arith in
        let b : i % 2 < 2 = omega arith in
        subst (λ (j : ℕ). get_or m.slots j 0 ≡ get_or o.slots j 0) e (sym (view-slot R m (i / 2) (i % 2) b) ∙ v (R + i / 2) (in_slot (i % 2)) ∙ view-slot R o (i / 2) (i % 2) b))

    used : m.used ≡ o.used
    used = ext_get_or 0 m.used o.used (s.used ∙ sym t.used) (λ i l. same_from_bits_below 64 (get_or m.used i 0) (get_or o.used i 0) (wm i) (wo i) (λ j h.
        let e : (i * 64 + j) / 64 ≡ i = omega arith in
        let d : (i * 64 + j) % 64 ≡ j = omega arith in
        rw (e, d) at (same_bit R m o (i * 64 + j) (v (i * 64 + j) bit))))

-- "one tree in one set of places has one memory image"
pub one_image : (R S : ℕ) (m o : Mem) (t : Branch) → Kept R S m t → Kept R S o t → m ≡ o
one_image R S m o t g h = same_memory R S m o g.sized h.sized g.words h.words (λ x w. g.image x w ∙ sym (h.image x w))
