-- How deep a tree is that was built: as deep as the keys ask, so at most H(n). Assumes nothing.
use mathlib.Core.List.{List, [], ◌∷◌}
use mathlib.Core.Path.{◌≡◌, refl, subst}
use native.Mathlib.Omega.{arith}
use Prim.Native.Nat.{ℕ, zero, suc, ◌+◌, ◌≤◌, max}
use lib.Dec.{ltb}
use lib.ListN.{length}
use Rattle.build.proofs.Heights.{depth-height}
use Rattle.build.specs.Building.{payloads_to}
use Rattle.build.specs.Sizes.{of_group, depth_under, depth_of}
use Rattle.laws.proofs.Tests.{both}
use Rattle.laws.specs.Keys.{Rising}
use Rattle.marks.specs.Used.{first_unused, lowest_run, mark_at, mark_run}
use Rattle.std.proofs.Common.{None, Option, Some}
use Rattle.model.specs.Choice.{model_of}
use Rattle.model.specs.Groups.{keys_to}
use Rattle.model.specs.Height.{height}
use Rattle.model.specs.declared.Model.{Model}
use Rattle.demands.specs.Growing.{Grown, is, no_room, Row, are, no_room_row, fresh_head, row_after, then_row, node_over, Grower, grow_slot, grow_slots, grow_on, grow_with, grow}
use Rattle.demands.specs.Placed.{Head, Branch, depth_b, depth_f}

abbrev pub DeepAs : ℕ → Grown → Type 0
DeepAs n (is b u) = depth_b b ≡ n
DeepAs n no_room = Unit

abbrev RowDeep : ℕ → Row → Type 0
RowDeep n (are g u) = depth_f g ≡ n
RowDeep n no_room_row = Unit

row-after : (b : Branch) (w : Row) (x y : ℕ) → depth_b b ≡ x → RowDeep y w → RowDeep (max x y) (row_after b w)
row-after b (are g u) x y e f = rw (e, f)
row-after b no_room_row x y e f = tt

then-row : (t : Grown) (rest : List ℕ → Row) (x y : ℕ) → DeepAs x t → ((u : List ℕ) → RowDeep y (rest u)) → RowDeep (max x y) (then_row t rest)
then-row (is b u) rest x y e f = row-after b (rest u) x y e (f u)
then-row no_room rest x y e f = tt

slot-deep : (G : Grower) (D : List ℕ → ℕ) → ((u ks ps : List ℕ) → DeepAs (D ks) (G u ks ps)) → (u ks ps : List ℕ) → DeepAs (of_group 0 D ks) (grow_slot G u ks ps)
unfolding grow_slot
slot-deep G D ih u [] ps = refl
slot-deep G D ih u (k ∷ []) ps = refl
slot-deep G D ih u (k ∷ j ∷ ks) ps = ih u (k ∷ j ∷ ks) ps

slots-deep : (G : Grower) (D : List ℕ → ℕ) → ((u ks ps : List ℕ) → DeepAs (D ks) (G u ks ps)) → (md : Model) (n s : ℕ) (u ks ps : List ℕ) → RowDeep (depth_under D md n s ks) (grow_slots G md n s u ks ps)
unfolding grow_slots depth_under
slots-deep G D ih md zero s u ks ps = refl
slots-deep G D ih md (suc n) s u ks ps =
    then-row (grow_slot G u (keys_to md s ks) (payloads_to md s ks ps)) (λ v. grow_slots G md n (s + 1) v ks ps) (of_group 0 D (keys_to md s ks)) (depth_under D md n (s + 1) ks) (slot-deep G D ih u (keys_to md s ks) (payloads_to md s ks ps)) (λ v. slots-deep G D ih md n (s + 1) v ks ps)

node-deep : (h : Head) (w : Row) (x : ℕ) → RowDeep x w → DeepAs (1 + x) (node_over h w)
node-deep h (are g u) x e = rw e (omega arith)
node-deep h no_room_row x e = tt

on_deep : (G : Grower) (D : List ℕ → ℕ) → ((u ks ps : List ℕ) → DeepAs (D ks) (G u ks ps)) → (R r : ℕ) (run : Option ℕ) (u ks ps : List ℕ) → DeepAs (1 + depth_under D (model_of ks) (model_of ks).l 0 ks) (grow_on G R r (model_of ks) run u ks ps)
unfolding grow_on
on_deep G D ih R r None u ks ps = tt
on_deep G D ih R r (Some s) u ks ps =
    node-deep (fresh_head r (model_of ks) s (length ks)) (grow_slots G (model_of ks) (model_of ks).l 0 (mark_run (mark_at u r) (R + s) (model_of ks).l) ks ps) (depth_under D (model_of ks) (model_of ks).l 0 ks)
    (slots-deep G D ih (model_of ks) (model_of ks).l 0 (mark_run (mark_at u r) (R + s) (model_of ks).l) ks ps)

pub grow-deep : (d R S : ℕ) (u ks ps : List ℕ) → DeepAs (depth_of d ks) (grow d R S u ks ps)
unfolding grow grow_with depth_of
grow-deep zero R S u ks ps = tt
grow-deep (suc d) R S u ks ps =
    both (ltb (first_unused u 0 R) R)
    (λ e. rw e (on_deep (grow d R S) (depth_of d) (λ v js qs. grow-deep d R S v js qs) R (first_unused u 0 R) (lowest_run u R S (model_of ks).l) u ks ps))
    (λ e. rw e tt)

-- "A built tree has at most H(n) nodes on a path"
pub grow-height : (d R S : ℕ) (u ks ps : List ℕ) (b : Branch) (v : List ℕ) → Rising ks → grow d R S u ks ps ≡ is b v → depth_b b ≤ height (length ks)
grow-height d R S u ks ps b v r e = let q : depth_b b ≡ depth_of d ks = subst (DeepAs (depth_of d ks)) e (grow-deep d R S u ks ps) in omega (arith, depth-height d ks r)
