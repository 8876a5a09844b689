-- Reading good memory in slot order: a band's or a rebuild's walk meets just the nodes and elements of the tree that its span takes.
-- Assumes nothing.
use Rattle.std.specs.Prelude.{Ok}
use mathlib.Core.List.{List, [], ◌∷◌, ◌++◌}
use mathlib.Core.Path.{◌≡◌, refl, subst, ap, ◌∙◌}
use native.Mathlib.Omega.{arith}
use Prim.Native.Nat.{ℕ, zero, suc, ◌+◌, ◌<◌, ◌≤◌}
use Rattle.model.specs.Slots.{InRange}
use Rattle.pool.specs.Memory.{Mem}
use Rattle.pool.specs.Reading.{node_at, slot_at}
use Rattle.walk.proofs.Readings.{last_within}
use Rattle.walk.specs.Events.{first_in, count_in, in_slot, in_slots, in_record, events_at}
use Rattle.walk.specs.declared.Event.{Event}
use Rattle.walk.specs.declared.Event.TheVariants.{Enter, Element}
use Rattle.walk.specs.declared.Span.{Span}
use Rattle.walk.specs.declared.Span.TheVariants.{Between, Whole}
use Rattle.demands.specs.Placed.{Head, Branch, null, leaf, sub, Forest, nil, cons, len, depth_b, depth_f, model_in, OkB, OkF}
use Rattle.demands.proofs.Holding.{HoldsF, root-reads, run_holds, first_reads, branch-holds, rest-holds}
use Rattle.demands.proofs.Plugs.{slot_lt}
use Rattle.demands.proofs.Reading.{Holds}
use Rattle.demands.proofs.Walking.{Sized, node_of, slot_to, node-reads, slot-reads}

-- what a reading over a span meets in a tree; slot q holds the branch, a run begins at slot q, `skip` slots are left out and n are taken
unfoldable mutual
  pub span_b : Span → ℕ → Branch → List Event
  span_b s q null = []
  span_b s q (leaf k p) = Element q k ∷ []
  span_b s q (sub h g) =
      Enter h.at (node_of h (len g)) ∷ span_f s h.start g (first_in s (model_in h.lo h.w (len g))) (count_in s (model_in h.lo h.w (len g)))

  pub span_f : Span → ℕ → Forest → ℕ → ℕ → List Event
  span_f s q nil skip n = []
  span_f s q (cons b f) (suc skip) n = span_f s (q + 1) f skip n
  span_f s q (cons b f) zero zero = []
  span_f s q (cons b f) zero (suc n) = span_b s q b ++ span_f s (q + 1) f zero n

module _ (R S : ℕ) (s : Span) (m : Mem) (sized : Sized R S m) where
  abbrev Meets : ℕ → Type 0
  Meets d = (h : Head) (g : Forest) (q : ℕ) → OkB R S (sub h g) → Holds R m (sub h g) → depth_b (sub h g) ≤ d → events_at s m d h.at ≡ span_b s q (sub h g)

  slot_meets : (d : ℕ) → Meets d → (b : Branch) (q : ℕ) → OkB R S b → Holds R m b → depth_b b ≤ d → in_slot (events_at s m d) q (slot_to b) ≡ span_b s q b
  unfolding in_slot span_b
  slot_meets d ih null q o k z = refl
  slot_meets d ih (leaf j p) q o k z = refl
  slot_meets d ih (sub h g) q o k z = ih h g q o k z

  module _ (t : Head) (l : ℕ) where
    run_meets : (d : ℕ) → Meets d → (f : Forest) (i skip n : ℕ) → skip + n ≤ len f → OkF R S t.lo t.w l i f → HoldsF R m (R + (t.start + i)) f → depth_f f ≤ d
        → in_slots (events_at s m d) m (node_of t l) n (i + skip) ≡ span_f s (t.start + i) f skip n
    unfolding in_slots span_f
    run_meets d ih nil i zero zero u o k z = refl
    run_meets d ih nil i zero (suc n) u o k z = absurd (no u)
      where
        no : 0 + suc n ≤ 0 → ⊥
        no x = omega arith
    run_meets d ih nil i (suc skip) n u o k z = absurd (no u)
      where
        no : suc skip + n ≤ 0 → ⊥
        no x = omega arith
    run_meets d ih (cons b f) i zero zero u o k z = refl
    run_meets d ih (cons b f) i (suc skip) n u o k z =
        let e : i + suc skip ≡ i + 1 + skip = omega arith in
        let a : t.start + (i + 1) ≡ t.start + i + 1 = omega arith in
        let c : R + (t.start + i) + 1 ≡ R + (t.start + (i + 1)) = omega arith in
        ap (λ (x : ℕ). in_slots (events_at s m d) m (node_of t l) n x) e
        ∙ run_meets d ih f (i + 1) skip n (omega arith) o.2 (subst (λ (x : ℕ). HoldsF R m x f) c (rest-holds R m (R + (t.start + i)) b f k)) (omega arith)
        ∙ ap (λ (x : ℕ). span_f s x f skip n) a
    run_meets d ih (cons b f) i zero (suc n) u o k z =
        let e : i + 0 ≡ i = omega arith in
        let e1 : i + 1 ≡ i + 1 + 0 = omega arith in
        let a : t.start + (i + 1) ≡ t.start + i + 1 = omega arith in
        let c : R + (t.start + i) + 1 ≡ R + (t.start + (i + 1)) = omega arith in
        let w : slot_at m.slots (node_of t l) i ≡ slot_to b = slot-reads R S m sized t l i b o.1 o.0 (first_reads R m (R + (t.start + i)) b f k) in
        rw (e, w, slot_meets d ih b (t.start + i) o.1 (branch-holds R m (R + (t.start + i)) b f k) (omega arith))
        (ap (λ (x : List Event). span_b s (t.start + i) b ++ x)
        (ap (λ (x : ℕ). in_slots (events_at s m d) m (node_of t l) n x) e1
        ∙ run_meets d ih f (i + 1) zero n (omega arith) o.2 (subst (λ (x : ℕ). HoldsF R m x f) c (rest-holds R m (R + (t.start + i)) b f k)) (omega arith)
        ∙ ap (λ (x : ℕ). span_f s x f zero n) a))

first-within : (s : Span) (lo w l : ℕ) → InRange (model_in lo w l) → first_in s (model_in lo w l) < l
unfolding first_in
first-within (Between u v) lo w l r = slot_lt lo w l r u
first-within Whole lo w l r = omega (arith, r.least)

-- the slots taken are slots of the node
pub span_within : (s : Span) (lo w l : ℕ) → InRange (model_in lo w l) → first_in s (model_in lo w l) + count_in s (model_in lo w l) ≤ l
unfolding count_in
span_within s lo w l r = omega (arith, first-within s lo w l r, last_within (model_in lo w l) s r)

module _ (R S : ℕ) (s : Span) (m : Mem) (sized : Sized R S m) where
  pub meets : (d : ℕ) → Meets R S s m sized d
  unfolding events_at in_record span_b
  meets zero h g q o k z = absurd (no z)
    where
      no : suc (depth_f g) ≤ 0 → ⊥
      no x = omega arith
  meets (suc d) h g q o k z =
      let md = model_in h.lo h.w (len g) in
      let e : node_at m h.at ≡ Ok (node_of h (len g)) = node-reads R S m sized h (len g) o.0 (root-reads R m h g k) in
      let a : R + h.start ≡ R + (h.start + 0) = omega arith in
      let b : h.start + 0 ≡ h.start = omega arith in
      let c : first_in s md ≡ 0 + first_in s md = omega arith in
      rw e (ap (λ (x : List Event). Enter h.at (node_of h (len g)) ∷ x)
      (ap (λ (x : ℕ). in_slots (events_at s m d) m (node_of h (len g)) (count_in s md) x) c
      ∙ run_meets R S s m sized h (len g) d (meets d) g 0 (first_in s md) (count_in s md) (span_within s h.lo h.w (len g) o.0.range) o.1
      (subst (λ (x : ℕ). HoldsF R m x g) a (run_holds R m h g k)) (omega arith)
      ∙ ap (λ (x : ℕ). span_f s x g (first_in s md) (count_in s md)) b))
