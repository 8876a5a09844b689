-- How deep a build is (document 01, "A built tree has at most H(n) nodes on a path"), and that as many levels as that are enough:
-- with more the sizes, the depth and the build itself stay what they are. Assumes nothing.
use Rattle.std.specs.Prelude.{None, Option, Some}
use mathlib.Core.List.{List, [], ◌∷◌}
use mathlib.Core.Logic.{⊎_elim}
use mathlib.Core.Path.{◌≡◌, refl, ap}
use Prim.Native.Nat.{ℕ, zero, suc, ◌+◌, ◌-◌, ◌<◌, ◌≤◌}
use native.Mathlib.Omega.{arith}
use lib.ListN.{length}
use Rattle.laws.proofs.Tests.{le_or_lt}
use Rattle.laws.specs.Keys.{Rising}
use Rattle.std.proofs.Common.{None, Option, Some}
use Rattle.model.proofs.Groups.{group_counted, group_rising}
use Rattle.model.proofs.Heights.{height_positive, height-step, height-rises}
use Rattle.model.proofs.Least.{chosen-in_range}
use Rattle.model.proofs.Parting.{group_single, group_third}
use Rattle.model.specs.Choice.{count_at, model_of}
use Rattle.model.specs.Groups.{keys_to}
use Rattle.model.specs.Height.{third, height}
use Rattle.model.specs.declared.Model.{Model}
use Rattle.pool.specs.Memory.{Mem}
use Rattle.pool.specs.declared.Node.{Node}
use Rattle.build.specs.Building.{Out, next, and_then, Builder, payloads_to, lowest_record, lowest_slots, fill_slot, fill_slots, node_on, node_with, build}
use Rattle.build.specs.Sizes.{of_group, sizes_under, sizes_of, depth_under, depth_of}
use Rattle.build.proofs.NodeSizes.{of_group_in}

-- one level down: the several keys of one slot
module _ (ks : List ℕ) (r : Rising ks) (s : ℕ) where
  pub child-rising : Rising (keys_to (model_of ks) s ks)
  child-rising = group_rising (model_of ks) (chosen-in_range ks r) ks r s

  -- a child is lower by one at least
  pub child_lower : 2 ≤ length (keys_to (model_of ks) s ks) → height (length (keys_to (model_of ks) s ks)) < height (length ks)
  child_lower two =
      let e : length (keys_to (model_of ks) s ks) ≡ count_at (model_of ks) s ks = group_counted (model_of ks) s ks in
      ⊎_elim
      (λ few. absurd (omega (arith, group_single ks r few s)))
      (λ more.
      let up : height (length (keys_to (model_of ks) s ks)) ≤ height (third (length ks)) =
      height-rises _ _ (omega (arith, group_third ks r (omega arith) s))
      in
      omega (arith, height-step (length ks) more))
      (le_or_lt (length ks) 4)

depth_under-most : (D : List ℕ → ℕ) (m : Model) (ks : List ℕ) (most : ℕ) → ((s : ℕ) → 2 ≤ length (keys_to m s ks) → D (keys_to m s ks) ≤ most)
    → (n s : ℕ) → depth_under D m n s ks ≤ most
unfolding depth_under
depth_under-most D m ks most each zero s = omega arith
depth_under-most D m ks most each (suc n) s =
    let here : of_group 0 D (keys_to m s ks) ≤ most = of_group_in (λ (x : ℕ). x ≤ most) 0 D (keys_to m s ks) (omega arith) (each s) in
    omega (arith, depth_under-most D m ks most each n (s + 1))

-- "A built tree has at most H(n) nodes on a path"
pub depth-height : (d : ℕ) (ks : List ℕ) → Rising ks → depth_of d ks ≤ height (length ks)
unfolding depth_of
depth-height zero ks r = omega arith
depth-height (suc d) ks r =
    let pos : 1 ≤ height (length ks) = height_positive (length ks) in
    let under : depth_under (depth_of d) (model_of ks) (model_of ks).l 0 ks ≤ height (length ks) - 1 =
    depth_under-most (depth_of d) (model_of ks) ks (height (length ks) - 1)
    (λ s two. omega (arith, child_lower ks r s two, depth-height d (keys_to (model_of ks) s ks) (child-rising ks r s)))
    (model_of ks).l 0
    in
    omega arith

-- What a node's slots give goes by what their several keys give.
of_group-same : {A : Type 0} (none : A) (S T : List ℕ → A) (g : List ℕ) → (2 ≤ length g → S g ≡ T g) → of_group none S g ≡ of_group none T g
of_group-same none S T [] h = refl
of_group-same none S T (k ∷ []) h = refl
of_group-same none S T (k ∷ j ∷ ks) h = h (omega arith)

under_same : (S T : List ℕ → List ℕ) (m : Model) (ks : List ℕ) → ((s : ℕ) → 2 ≤ length (keys_to m s ks) → S (keys_to m s ks) ≡ T (keys_to m s ks))
    → (n s : ℕ) → sizes_under S m n s ks ≡ sizes_under T m n s ks
unfolding sizes_under
under_same S T m ks each zero s = refl
under_same S T m ks each (suc n) s = rw (of_group-same [] S T (keys_to m s ks) (each s), under_same S T m ks each n (s + 1))

depth_under-same : (D E : List ℕ → ℕ) (m : Model) (ks : List ℕ) → ((s : ℕ) → 2 ≤ length (keys_to m s ks) → D (keys_to m s ks) ≡ E (keys_to m s ks))
    → (n s : ℕ) → depth_under D m n s ks ≡ depth_under E m n s ks
unfolding depth_under
depth_under-same D E m ks each zero s = refl
depth_under-same D E m ks each (suc n) s = rw (of_group-same 0 D E (keys_to m s ks) (each s), depth_under-same D E m ks each n (s + 1))

-- as many levels as H says are enough
pub sizes_enough : (d e : ℕ) (ks : List ℕ) → Rising ks → height (length ks) ≤ d → height (length ks) ≤ e → sizes_of d ks ≡ sizes_of e ks
unfolding sizes_of
sizes_enough zero e ks r a b = absurd (omega (arith, height_positive (length ks)))
sizes_enough (suc d) zero ks r a b = absurd (omega (arith, height_positive (length ks)))
sizes_enough (suc d) (suc e) ks r a b =
    ap (λ (ls : List ℕ). (model_of ks).l ∷ ls)
    (under_same (sizes_of d) (sizes_of e) (model_of ks) ks
    (λ s two.
    let lower : height (length (keys_to (model_of ks) s ks)) < height (length ks) = child_lower ks r s two in
    sizes_enough d e (keys_to (model_of ks) s ks) (child-rising ks r s) (omega arith) (omega arith))
    (model_of ks).l 0)

pub depth_enough : (d e : ℕ) (ks : List ℕ) → Rising ks → height (length ks) ≤ d → height (length ks) ≤ e → depth_of d ks ≡ depth_of e ks
unfolding depth_of
depth_enough zero e ks r a b = absurd (omega (arith, height_positive (length ks)))
depth_enough (suc d) zero ks r a b = absurd (omega (arith, height_positive (length ks)))
depth_enough (suc d) (suc e) ks r a b =
    ap (λ (n : ℕ). 1 + n)
    (depth_under-same (depth_of d) (depth_of e) (model_of ks) ks
    (λ s two.
    let lower : height (length (keys_to (model_of ks) s ks)) < height (length ks) = child_lower ks r s two in
    depth_enough d e (keys_to (model_of ks) s ks) (child-rising ks r s) (omega arith) (omega arith))
    (model_of ks).l 0)

-- two builders that agree on the several keys of every slot
next-same : (b : Option ℕ) (m : Mem) (f g : ℕ → Mem → Out) → ((r : ℕ) (n : Mem) → f r n ≡ g r n) → next b m f ≡ next b m g
next-same (Some r) m f g h = h r m
next-same None m f g h = refl

then_same : (o : Out) (f g : ℕ → Mem → Out) → ((r : ℕ) (n : Mem) → f r n ≡ g r n) → and_then o f ≡ and_then o g
then_same o f g h = next-same o.built o.memory f g h

fill_slot-same : (B C : Builder) (r q : ℕ) (g ps : List ℕ) (m : Mem) → (2 ≤ length g → B g ps m ≡ C g ps m) → fill_slot B r q g ps m ≡ fill_slot C r q g ps m
unfolding fill_slot
fill_slot-same B C r q [] ps m h = refl
fill_slot-same B C r q (k ∷ []) ps m h = refl
fill_slot-same B C r q (k ∷ j ∷ ks) ps m h = rw (h (omega arith))

module _ (B C : Builder) (ks : List ℕ) where
  fill_slots-same : (node : Node) → ((s : ℕ) → 2 ≤ length (keys_to node.model s ks) → (ps : List ℕ) (m : Mem) → B (keys_to node.model s ks) ps m ≡ C (keys_to node.model s ks) ps m)
      → (r n s : ℕ) (ps : List ℕ) (m : Mem) → fill_slots B r node n s ks ps m ≡ fill_slots C r node n s ks ps m
  unfolding fill_slots
  fill_slots-same node each r zero s ps m = refl
  fill_slots-same node each r (suc n) s ps m =
      let g = keys_to node.model s ks in
      let p = payloads_to node.model s ks ps in
      let e : fill_slot B r (node.start + s) g p m ≡ fill_slot C r (node.start + s) g p m =
      fill_slot-same B C r (node.start + s) g p m (λ two. each s two p m)
      in
      rw e
      (then_same (fill_slot C r (node.start + s) g p m) _ _ (λ r' m'. fill_slots-same node each r n (s + 1) ps m'))

  node-same : ((s : ℕ) → 2 ≤ length (keys_to (model_of ks) s ks) → (ps : List ℕ) (m : Mem) → B (keys_to (model_of ks) s ks) ps m ≡ C (keys_to (model_of ks) s ks) ps m)
      → (ps : List ℕ) (m : Mem) → node_with B ks ps m ≡ node_with C ks ps m
  unfolding node_with node_on
  node-same each ps m = rw (on (lowest_slots m (model_of ks).l))
    where
      on : (w : Option ℕ) → node_on B (lowest_record m) (model_of ks) w ks ps m ≡ node_on C (lowest_record m) (model_of ks) w ks ps m
      on (Some s) = fill_slots-same (record { model = model_of ks; start = s }) each (lowest_record m) (model_of ks).l 0 ps _
      on None = refl

pub build_enough : (d e : ℕ) (ks : List ℕ) → Rising ks → height (length ks) ≤ d → height (length ks) ≤ e → (ps : List ℕ) (m : Mem)
    → build d ks ps m ≡ build e ks ps m
unfolding build
build_enough zero e ks r a b ps m = absurd (omega (arith, height_positive (length ks)))
build_enough (suc d) zero ks r a b ps m = absurd (omega (arith, height_positive (length ks)))
build_enough (suc d) (suc e) ks r a b ps m =
    node-same (build d) (build e) ks
    (λ s two.
    let lower : height (length (keys_to (model_of ks) s ks)) < height (length ks) = child_lower ks r s two in
    build_enough d e (keys_to (model_of ks) s ks) (child-rising ks r s) (omega arith) (omega arith))
    ps m
