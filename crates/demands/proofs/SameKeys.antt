-- Two trees that one memory holds have the same keys: the word of a key's slot in the one stands in a slot of the other. Assumes nothing.
use mathlib.Core.Bool.{true, false}
use mathlib.Core.List.{[], ◌∷◌, ◌++◌}
use mathlib.Core.Logic.{⊎_elim}
use mathlib.Core.Path.{◌≡◌, sym, subst, ap, ◌∙◌}
use native.Mathlib.Omega.{arith}
use Prim.Native.Nat.{ℕ, ◌+◌, ◌<◌, ◌≤◌, ◌^◌}
use lib.Dec.{eqb}
use borrow.Author.Tests.{eq-eqb, eqb-true}
use Rattle.laws.proofs.Tests.{both, true_not_false, le_or_lt}
use Rattle.laws.specs.Keys.{key_bound}
use Rattle.pool.specs.Memory.{Mem}
use Rattle.store.specs.declared.Handle.{Handle}
use Rattle.demands.specs.Demand2.{found_as}
use Rattle.demands.specs.Map.{Map, Found, is, nil as none, member, lookup}
use Rattle.demands.specs.Placed.{Head, Branch, null, leaf, sub, Forest, nil, cons, flat_b, flat_f, cell_of, bit, in_slot, cell_w, at, in_b, in_f, view, Good}
use Rattle.demands.proofs.Calls.{on, lookup_is}
use Rattle.demands.proofs.Checking.{at_zero}
use Rattle.demands.proofs.Fitting.{fits-sized}
use Rattle.demands.proofs.Plugs.{End, none-b, none-f}
use Rattle.demands.proofs.Reading.{bit_small}
use Rattle.demands.proofs.Walking.{place_of, end-slot, holds-all, view-slot}

member-left : (k : ℕ) (a b : Map) → member k a ≡ true → member k (a ++ b) ≡ true
member-left k [] b e = absurd (true_not_false (sym e))
member-left k (y ∷ a) b e = both (eqb y.0 k) (λ t. rw t) (λ f. rw f (member-left k a b (rw f at e)))

member_right : (k : ℕ) (a b : Map) → member k b ≡ true → member k (a ++ b) ≡ true
member_right k [] b e = e
member_right k (y ∷ a) b e = both (eqb y.0 k) (λ t. rw t) (λ f. rw f (member_right k a b e))

at_here : (a v x : ℕ) → eqb x a ≡ true → at a v x ≡ v
unfolding at
at_here a v x t = rw t

at_else : (a v x : ℕ) → eqb x a ≡ false → at a v x ≡ 0
unfolding at
at_else a v x f = rw f

-- a tree that says a key's word at a place has that key
module _ (R x k : ℕ) (key : k < key_bound) where
  key_of-cell : (b : Branch) → cell_w (in_slot 0) (cell_of b) ≡ 2 ^ 48 + k → member k (flat_b b) ≡ true
  key_of-cell null e = absurd (omega arith)
  key_of-cell (leaf j p) e = let s : j ≡ k = omega arith in rw (eq-eqb j k s)
  key_of-cell (sub h g) e = absurd (omega arith)

  mutual
    key_of-b : (b : Branch) → in_b R (cell_w bit) x b ≤ 1 → in_b R (cell_w (in_slot 0)) x b ≡ 2 ^ 48 + k → member k (flat_b b) ≡ true
    key_of-b null l e = absurd (omega arith)
    key_of-b (leaf j p) l e = absurd (omega arith)
    key_of-b (sub h g) l e = key_of-f (R + h.start) g (omega arith) (omega (arith, at_zero h.at x))

    key_of-f : (a : ℕ) (f : Forest) → in_f R (cell_w bit) x a f ≤ 1 → in_f R (cell_w (in_slot 0)) x a f ≡ 2 ^ 48 + k → member k (flat_f f) ≡ true
    key_of-f a nil l e = absurd (omega arith)
    key_of-f a (cons b f) l e =
        both (eqb x a)
        (λ t.
        let one = at_here a 1 x t in
        let it = at_here a (cell_w (in_slot 0) (cell_of b)) x t in
        member-left k (flat_b b) (flat_f f) (key_of-cell b (omega (arith, none-b R (cell_w (in_slot 0)) x b (omega arith), none-f R (cell_w (in_slot 0)) x (a + 1) f (omega arith)))))
        (λ n.
        let z = at_else a 1 x n in
        let it = at_else a (cell_w (in_slot 0) (cell_of b)) x n in
        ⊎_elim (λ o. member-left k (flat_b b) (flat_f f) (key_of-b b (omega arith) (omega (arith, none-f R (cell_w (in_slot 0)) x (a + 1) f (omega arith)))))
        (λ o. member_right k (flat_b b) (flat_f f) (key_of-f (a + 1) f (omega arith) (omega (arith, none-b R (cell_w (in_slot 0)) x b (omega arith)))))
        (le_or_lt 1 (in_b R (cell_w bit) x b)))

-- a key that is found stands at the end of its path
no_payload : (p : ℕ) → none ≡ is p → ⊥
no_payload p e = let z : ◌≡◌ {A = ℕ} 6 0 = ap (λ (f : Found). (found_as 0 f).number) e in omega arith

found-cell : (k p : ℕ) (b : Branch) → End b → lookup k (flat_b b) ≡ is p → cell_w (in_slot 0) (cell_of b) ≡ 2 ^ 48 + k
found-cell k p null i e = absurd (no_payload p e)
found-cell k p (leaf j q) i e = both (eqb j k) (λ t. ap (λ (n : ℕ). 2 ^ 48 + n) (eqb-true j k t)) (λ f. absurd (no_payload p (rw f at e)))
found-cell k p (sub h g) i e = absurd i

pub same_keys : (h o : Handle) (m : Mem) (t : Head) (g : Forest) (s : Head) (f : Forest) → Good h m t g → Good o m s f
    → (k p : ℕ) → k < key_bound → lookup k (flat_f f) ≡ is p → member k (flat_f g) ≡ true
same_keys h o m t g s f d c k p key e =
    let w = on o m s f c k key in
    let q = place_of w.first w.rest in
    let records : o.records ≡ h.records = omega (arith, (fits-sized h m d.fits).nodes, (fits-sized o m c.fits).nodes) in
    let word : view o.records m (o.records + q) (in_slot 0) ≡ 2 ^ 48 + k =
    view-slot o.records m q 0 (omega arith)
    ∙ end-slot o.records o.slots m w.end w.rest w.first (holds-all o.records o.slots m _ w.kept) 0 (omega arith)
    ∙ found-cell k p w.end w.is_end (sym (lookup_is o m s f c k key) ∙ e) in
    let seen : view h.records m (o.records + q) (in_slot 0) ≡ 2 ^ 48 + k = subst (λ (r : ℕ). view r m (o.records + q) (in_slot 0) ≡ 2 ^ 48 + k) records word in
    key_of-b h.records (o.records + q) k key (sub t g) (omega (arith, d.image (o.records + q) bit, bit_small h.records m (o.records + q))) (sym (d.image (o.records + q) (in_slot 0)) ∙ seen)
