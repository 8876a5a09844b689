-- The small steps of an insert: scratch's sizes, the slot above a node of the path, what the slot at the path's end and the slot above
-- hold afterwards, and whether the due subtree is sound. Assumes nothing.
use Rattle.std.specs.Prelude.{Err, Ok}
use mathlib.Core.Bool.{Bool, true, false}
use mathlib.Core.List.{List}
use mathlib.Core.Path.{◌≡◌, refl, sym, ap, ◌∙◌}
use Prim.Native.Nat.{ℕ, zero, suc, ◌+◌, ◌-◌, ◌<◌, ◌≤◌}
use native.Mathlib.Omega.{arith}
use borrow.Author.Tests.{leb-true, eqb-true, lt-ltb, le-ltb}
use lib.Dec.{leb, eqb}
use lib.ListN.{length, get_or, take}
use lib.Seq.{get_or-take, length-take-le}
use Rattle.insert.specs.Inserting.{scratch_fits, settled, slot_above, hung, sound_due}
use Rattle.insert.specs.Steps.{Sized, GoodPath}
use Rattle.laws.proofs.Tests.{and_both}
use Rattle.model.proofs.Slots.{slot_under}
use Rattle.model.specs.Slots.{value_of, slot_of}
use Rattle.pool.proofs.Nodes.{GoodNode, good-node}
use Rattle.pool.specs.declared.Rule.{Rule}
use Rattle.pool.specs.Memory.{Mem, slots_in}
use Rattle.pool.specs.Reading.{node_in, node_at}
use Rattle.pool.specs.Writing.{put_data, put_child}
use Rattle.pool.specs.declared.Node.{Node}
use Rattle.rebuild.specs.Rebuilding.{sound_below, scratch}
use Rattle.walk.specs.Walks.{key_slot}
use Rattle.walk.specs.declared.Path.{Path}

-- scratch
module _ (capacity : ℕ) (ks ps qs : List ℕ) where
  pub scratch_given : scratch_fits capacity (scratch ks ps qs) ≡ true → (capacity ≤ length ks) × (length ps ≡ length ks) × (length qs ≡ length ks)
  unfolding scratch_fits
  scratch_given e =
      let a = and_both (leb capacity (length ks)) _ e in
      let c = and_both (eqb (length ps) (length ks)) _ a.1 in
      (leb-true capacity (length ks) a.0, eqb-true (length ps) (length ks) c.0, eqb-true (length qs) (length ks) c.1)

-- the path as a list
module _ (path : Path) (s : Sized path) where
  pub path-length : length (take path.len path.nodes) ≡ path.len
  path-length = length-take-le path.len path.nodes (omega (arith, s.array, s.short))

  pub path-place : (i : ℕ) → i < path.len → get_or (take path.len path.nodes) i 0 ≡ get_or path.nodes i 0
  path-place i h = get_or-take path.len path.nodes i 0 h

  module _ (capacity k i : ℕ) (m : Mem) where
    pub due_none : path.len ≤ i → true ≡ sound_due capacity k (take path.len path.nodes) i m
    unfolding sound_due
    due_none h = rw (le-ltb i (length (take path.len path.nodes)) (omega (arith, path-length)))

    pub due_sound : (b : Bool) → i < path.len → b ≡ sound_below capacity k i (get_or path.nodes i 0) m → b ≡ sound_due capacity k (take path.len path.nodes) i m
    unfolding sound_due
    due_sound b h e = rw (lt-ltb i (length (take path.len path.nodes)) (omega (arith, path-length)), path-place i h) e

  -- the slot above
  module _ (m : Mem) (g : GoodPath m path) (k i : ℕ) where
    pub above_root : i < 1 → 0 ≡ slot_above m.nodes (take path.len path.nodes) k i
    unfolding slot_above
    above_root h = let e : i ≡ 0 = omega arith in rw e

    module _ (above : 1 ≤ i) (within : i ≤ path.len) where
      above_in : slot_above m.nodes (take path.len path.nodes) k i ≡ key_slot (node_in m.nodes (get_or path.nodes (i - 1) 0)) k
      unfolding slot_above
      above_in =
          let e : i ≡ suc (i - 1) = omega arith in
          let f : get_or (take path.len path.nodes) (i - 1) 0 ≡ get_or path.nodes (i - 1) 0 = path-place (i - 1) (omega arith) in
          step i (i - 1) e ∙ ap (λ (r : ℕ). key_slot (node_in m.nodes r) k) f
        where
          step : (x y : ℕ) → x ≡ suc y → slot_above m.nodes (take path.len path.nodes) k x ≡ key_slot (node_in m.nodes (get_or (take path.len path.nodes) y 0)) k
          step x y q = rw q

      above_good : GoodNode m (get_or path.nodes (i - 1) 0) (node_in m.nodes (get_or path.nodes (i - 1) 0))
      above_good = good-node m _ _ (g (i - 1) (omega arith))

      pub above_not_broken : (c : Rule) → node_at m (get_or path.nodes (i - 1) 0) ≡ Err c → ⊥
      above_not_broken c e =
          let z : Ok (node_in m.nodes (get_or path.nodes (i - 1) 0)) ≡ Err c = sym (g (i - 1) (omega arith)) ∙ e in
          let y : ◌≡◌ {A = ℕ} 0 1 = cc in
          omega arith

      module _ (n : Node) (e : node_at m (get_or path.nodes (i - 1) 0) ≡ Ok n) where
        pub above-node : GoodNode m (get_or path.nodes (i - 1) 0) n
        above-node = good-node m _ _ e

        pub above-slot : (x : ℕ) → x ≡ slot_of n.model k → n.start + x ≡ slot_above m.nodes (take path.len path.nodes) k i
        unfolding key_slot
        above-slot x f = rw (f, above_in, ← above-node.is)

      pub above_within : slot_above m.nodes (take path.len path.nodes) k i < slots_in m.slots
      unfolding key_slot
      above_within =
          let n = node_in m.nodes (get_or path.nodes (i - 1) 0) in
          let u : slot_of n.model (value_of k) < n.model.l = slot_under n.model above_good.range (value_of k) in
          rw above_in (omega (arith, u, above_good.fits))

-- the slot at the path's end
module _ (c : Bool) (q k p r : ℕ) (ss tt : List ℕ) where
  pub settled-pair : c ≡ true → tt ≡ put_child ss q r → tt ≡ settled c q k p r ss
  unfolding settled
  settled-pair e f = rw e f

  pub settled-key : c ≡ false → tt ≡ put_data ss q k p → tt ≡ settled c q k p r ss
  unfolding settled
  settled-key e f = rw e f

-- the slot above afterwards
pub hung-root : (i q r : ℕ) (ss : List ℕ) → i < 1 → ss ≡ hung i q r ss
unfolding hung
hung-root zero q r ss h = refl
hung-root (suc i) q r ss h = absurd (omega arith)

pub hung-slot : (i q r : ℕ) (ss tt : List ℕ) → 1 ≤ i → tt ≡ put_child ss q r → tt ≡ hung i q r ss
unfolding hung
hung-slot zero q r ss tt h e = absurd (omega arith)
hung-slot (suc i) q r ss tt h e = e
