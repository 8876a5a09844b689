-- One level of the tree: without fuel or places there is no room, and with them the slots of the new node are filled, its children
-- built with one level less. Assumes nothing.
use Rattle.std.specs.Prelude.{None}
use mathlib.Core.List.{List}
use mathlib.Core.Path.{◌≡◌, refl, sym, ◌∙◌}
use Prim.Native.Nat.{ℕ, suc, ◌-◌, ◌<◌, ◌≤◌}
use native.Mathlib.Omega.{arith}
use lib.Dec.{ltb}
use lib.ListN.{length}
use Rattle.laws.proofs.Tests.{both}
use Rattle.std.proofs.Common.{None, Option, Some}
use Rattle.model.specs.Choice.{model_of}
use Rattle.model.specs.declared.Model.{Model}
use Rattle.pool.specs.Memory.{Mem, records_in}
use Rattle.build.specs.Building.{Out, out, Builder, lowest_record, lowest_slots, place_node, fill_slots, node_on, node_with, build}
use Rattle.build.specs.Runs.{first_slot, place_on, place_for, placed_in}
use Rattle.build.specs.declared.Place.{Place}

-- what a node is, by its places
on_place : Builder → List ℕ → List ℕ → Mem → Option Place → Out
on_place B ks ps m None = out None m
on_place B ks ps m (Some p) = fill_slots B p.record p.node p.node.model.l 0 ks ps (place_node m p.record p.node (length ks))

by_run : (B : Builder) (r f : ℕ) (md : Model) (w : Option ℕ) (ks ps : List ℕ) (m : Mem) → node_on B r md w ks ps m ≡ on_place B ks ps m (place_on r md f w)
unfolding node_on on_place place_on
by_run B r f md None ks ps m = refl
by_run B r f md (Some s) ks ps m = refl

by_place : (B : Builder) (ks ps : List ℕ) (m : Mem) → node_with B ks ps m ≡ on_place B ks ps m (place_for m (model_of ks))
unfolding node_with on_place place_for
by_place B ks ps m =
    both (ltb (lowest_record m) (records_in m.nodes))
    (λ e. rw e (by_run B (lowest_record m) (first_slot m) (model_of ks) (lowest_slots m (model_of ks).l) ks ps m))
    (λ e. rw e)

module _ (f : ℕ) (ks ps : List ℕ) (m : Mem) where
  pub build_no_fuel : f < 1 → out None m ≡ build f ks ps m
  unfolding build
  build_no_fuel h = let e : f ≡ 0 = omega arith in rw e

  build_level : 1 ≤ f → build f ks ps m ≡ node_with (build (f - 1)) ks ps m
  unfolding build
  build_level h = let e : f ≡ suc (f - 1) = omega arith in rw e (let d : suc (f - 1) - 1 ≡ f - 1 = omega arith in rw d)

  module _ (some : 1 ≤ f) (after : Mem) where
    pub build-nowhere : (p : Option Place) → p ≡ place_for m (model_of ks) → after ≡ placed_in m p (length ks) → p ≡ None → out None after ≡ build f ks ps m
    unfolding on_place placed_in
    build-nowhere p e q n =
        let d : after ≡ m = rw n at q in
        rw d (sym (build_level some ∙ by_place (build (f - 1)) ks ps m ∙ rw (← e, n)))

    pub build_begun : (p : Option Place) (x : Place) → p ≡ place_for m (model_of ks) → after ≡ placed_in m p (length ks) → p ≡ Some x
        → fill_slots (build (f - 1)) x.record x.node x.node.model.l 0 ks ps after ≡ build f ks ps m
    unfolding on_place placed_in
    build_begun p x e q n =
        let d : after ≡ place_node m x.record x.node (length ks) = rw n at q in
        rw d (sym (build_level some ∙ by_place (build (f - 1)) ks ps m ∙ rw (← e, n)))
