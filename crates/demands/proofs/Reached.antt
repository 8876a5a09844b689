-- What is used is reached, by one path: the nodes and runs of a good tree, counted at each record and each slot, are the used bits.
-- Assumes nothing.
use mathlib.Core.Bool.{Bool, true, false}
use mathlib.Core.Path.{◌≡◌, refl, sym, ap, ◌∙◌}
use native.Mathlib.Omega.{arith}
use Prim.Native.Nat.{ℕ, ◌+◌, ◌<◌, ◌≤◌}
use lib.Dec.{eqb}
use borrow.Author.Tests.{eq-eqb, ne_eqb, eqb-true, eqb-false}
use Rattle.laws.proofs.Tests.{both}
use Rattle.laws.specs.Pick.{pick}
use Rattle.marks.proofs.Marks.{used-one, unused_zero}
use Rattle.marks.specs.Used.{used_at}
use Rattle.pool.specs.Memory.{Mem}
use Rattle.demands.specs.Demand3.{covers, nodes_at, nodes_in, runs_at, runs_in, one}
use Rattle.demands.specs.Placed.{Branch, null, leaf, sub, Forest, nil, cons, len, bit, cell_w, at, in_b, in_f, view, OkB, OkF}
use Rattle.demands.proofs.Plugs.{at_other}
use Rattle.demands.proofs.Walking.{Kept}

at_one : (a x : ℕ) → at a 1 x ≡ pick (eqb x a) 1 0
unfolding at
at_one a x = refl

module _ (R S : ℕ) where
  mutual
    unfolding nodes_at nodes_in

    nodes-b : (b : Branch) (r : ℕ) → r < R → in_b R (cell_w bit) r b ≡ nodes_at r b
    nodes-b null r h = refl
    nodes-b (leaf k p) r h = refl
    nodes-b (sub t g) r h = omega (arith, at_one t.at r, nodes-f g (R + t.start) r h (omega arith))

    nodes-f : (f : Forest) (a r : ℕ) → r < R → R ≤ a → in_f R (cell_w bit) r a f ≡ nodes_in r f
    nodes-f nil a r h l = refl
    nodes-f (cons b f) a r h l = omega (arith, at_other a 1 r (λ e. omega arith), nodes-b b r h, nodes-f f (a + 1) r h (omega arith))

  shift : (a q : ℕ) → at (R + a) 1 (R + q) ≡ pick (eqb q a) 1 0
  shift a q = at_one (R + a) (R + q) ∙ ap (λ (x : Bool). pick {A = ℕ} x 1 0) (both (eqb q a) (λ e. same (eqb-true q a e) ∙ sym e) (λ e. other (eqb-false q a e) ∙ sym e))
    where
      same : q ≡ a → eqb (R + q) (R + a) ≡ true
      same e = eq-eqb (R + q) (R + a) (omega arith)

      other : (q ≡ a → ⊥) → eqb (R + q) (R + a) ≡ false
      other n = ne_eqb (R + q) (R + a) (λ e. n (omega arith))

  mutual
    unfolding runs_at runs_in

    runs-b : (b : Branch) (q : ℕ) → OkB R S b → in_b R (cell_w bit) (R + q) b ≡ runs_at q b
    runs-b null q o = refl
    runs-b (leaf k p) q o = refl
    runs-b (sub t g) q o = omega (arith, at_other t.at 1 (R + q) (λ e. omega (arith, o.0.inside)), runs-f g t.start q t.lo t.w (len g) 0 o.1)

    runs-f : (f : Forest) (a q lo w l i : ℕ) → OkF R S lo w l i f → in_f R (cell_w bit) (R + q) (R + a) f ≡ covers q a (len f) + runs_in q f
    runs-f nil a q lo w l i o = refl
    runs-f (cons b f) a q lo w l i o =
        let e : R + a + 1 ≡ R + (a + 1) = omega arith in
        omega (arith, shift a q, runs-b b q o.1, ap (λ (x : ℕ). in_f R (cell_w bit) (R + q) x f) e, runs-f f (a + 1) q lo w l (i + 1) o.2)

bit-one : (R : ℕ) (m : Mem) (x : ℕ) → view R m x bit ≡ one (used_at m.used x)
unfolding view
bit-one R m x = both (used_at m.used x) (λ e. used-one m.used x e ∙ sym (ap one e)) (λ e. unused_zero m.used x e ∙ sym (ap one e))

module _ (R S : ℕ) (m : Mem) (t : Branch) (k : Kept R S m t) where
  pub nodes-used : (r : ℕ) → r < R → nodes_at r t ≡ one (used_at m.used r)
  nodes-used r h = sym (nodes-b R S t r h) ∙ sym (k.image r bit) ∙ bit-one R m r

  pub runs-used : (q : ℕ) → runs_at q t ≡ one (used_at m.used (R + q))
  runs-used q = sym (runs-b R S t q k.okay) ∙ sym (k.image (R + q) bit) ∙ bit-one R m (R + q)
