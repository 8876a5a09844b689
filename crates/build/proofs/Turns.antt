-- What holds whenever the loop over the runs of keys comes to a key, and what each of its turns and exits does to it; and the two
-- exits of a group. Each law is over plain variables, as the code meets it. Assumes nothing.
use Rattle.std.specs.Prelude.{None, Option, Some}
use mathlib.Core.List.{List}
use mathlib.Core.Path.{◌≡◌, refl, sym, ap, ◌∙◌}
use Prim.Native.Nat.{ℕ, ◌+◌, ◌-◌, ◌*◌, ◌^◌, ◌<◌, ◌≤◌}
use native.Mathlib.Omega.{arith}
use lib.ListN.{length, get_or, take, drop}
use Rattle.laws.specs.Keys.{Rising}
use Rattle.laws.proofs.Parts.{length_part}
use Rattle.laws.proofs.Risings.{rising_part}
use Rattle.model.specs.Choice.{most_keys, model_of}
use Rattle.model.specs.Groups.{count_before}
use Rattle.model.specs.Slots.{value_of, slot_of, InRange}
use Rattle.model.proofs.Least.{chosen-in_range}
use Rattle.pool.specs.Memory.{Mem, slots_in}
use Rattle.pool.specs.Writing.{put_data, put_child}
use Rattle.pool.specs.declared.Node.{Node}
use Rattle.pool.proofs.Growth.{Keeps}
use Rattle.pool.proofs.SlotStores.{length-put_data, length-put_child}
use Rattle.build.specs.Building.{Out, out, with_slots, place_node, fill_slots, build}
use Rattle.build.specs.Hints.{Sized, Hinted, Builds}
use Rattle.build.specs.Runs.{placed_in, Begins, group_at, Groups}
use Rattle.build.specs.declared.Grown.{Grown}
use Rattle.build.specs.declared.Hint.{Hint}
use Rattle.build.specs.declared.Place.{Place}
use Rattle.std.proofs.Common.{None, Option, Some}
use Rattle.build.proofs.Filter.{Filled, filled_start, filled_end, filled_data, filled_group, filled_full}
use Rattle.build.proofs.Kept.{place-keeps, build-within}
use Rattle.build.proofs.Level.{build_no_fuel, build-nowhere, build_begun}
use Rattle.build.proofs.Places.{Takes, here_takes, takes_run, takes_hinted}

-- sizes are those of the lengths
pub sized_lengths : (m m' : Mem) → length m'.nodes ≡ length m.nodes → length m'.slots ≡ length m.slots
    → length m'.used ≡ length m.used
    → Sized m
    → Sized m'
sized_lengths m m' a b c z = record {
  mapped = rw (a, b, c) z.mapped;
  records = rw a z.records;
  slots = rw b z.slots;
}

-- a hint speaks of marks and lengths
pub hinted_slots : (m : Mem) (s : List ℕ) (h : Hint) → length s ≡ length m.slots → Hinted m h → Hinted (with_slots m s) h
hinted_slots m s h e k = record {
  record-within = k.record-within;
  slot-within = rw e k.slot-within;
  records-used = k.records-used;
  slots-used = k.slots-used;
}

-- The node r is filled up to key a: `start` is the memory where the loop began, `m` the memory now.
pub record Filling (depth r : ℕ) (node : Node) (ks ps : List ℕ) (a : ℕ) (start m : Mem) (hint : Hint) : Type 0 where
  pub nodes : length m.nodes ≡ length start.nodes
  pub slots : length m.slots ≡ length start.slots
  pub used : length m.used ≡ length start.used
  pub run : node.start + node.model.l ≤ slots_in start.slots
  pub range : InRange node.model
  pub sized : Sized m
  pub hinted : Hinted m hint
  pub filled : Filled (build depth) r node ks ps a m (fill_slots (build depth) r node node.model.l 0 ks ps start)

-- where the loop begins: the node has its places
pub filling_start : (depth : ℕ) (ks ps : List ℕ) (before after : Mem) (p : Option Place) (x : Place) → Rising ks → length ps ≡ length ks
    → Sized before
    → Begins ks before after p
    → p ≡ Some x
    → Filling depth x.record x.node ks ps 0 after after x.next
unfolding placed_in
filling_start depth ks ps before after p x rises same z b e =
    let t : Takes before (model_of ks) x = here_takes before (model_of ks) x (sym e ∙ b.place) in
    let q : after ≡ place_node before x.record x.node (length ks) = rw e at b.memory in
    let k : Keeps before after = rw q (place-keeps before x.record x.node (length ks)) in
    let range : InRange x.node.model = rw t.model (chosen-in_range ks rises) in
    record {
      nodes = refl;
      slots = refl;
      used = refl;
      run = rw k.slots (takes_run before (model_of ks) x t);
      range = range;
      sized = sized_lengths before after k.nodes k.slots k.used z;
      hinted = rw q (takes_hinted before (model_of ks) x t z (length ks));
      filled = filled_start (build depth) x.record x.node ks ps rises range same after;
    }

-- A turn of the loop has found that the keys from a up to b go to slot t.
pub record Turn (depth r : ℕ) (node : Node) (ks ps : List ℕ) (a : ℕ) (start m : Mem) (hint : Hint) (t b : ℕ) : Type 0 where
  pub filling : Filling depth r node ks ps a start m hint
  pub rises : Rising ks
  pub same : length ps ≡ length ks
  pub few : length ks ≤ most_keys
  pub here : a < length ks
  pub slot : t ≡ slot_of node.model (value_of (get_or ks a 0))
  pub under : t < node.model.l
  pub end : b ≡ count_before node.model (slot_of node.model (value_of (get_or ks a 0)) + 1) ks
  pub more : a < b
  pub within : b ≤ length ks

module _ {depth r : ℕ} {node : Node} {ks ps : List ℕ} {a : ℕ} {start m : Mem} {hint : Hint} {t b : ℕ} (w : Turn depth r node ks ps a start m hint t b) where
  ends : b ≡ count_before node.model (t + 1) ks
  ends = rw w.slot w.end

  -- one key
  pub data_requires : ((node.start + t) * 2 + 1 < length m.slots) × (get_or ks a 0 < 2 ^ 48)
  data_requires = (omega (arith, w.filling.run, w.filling.slots, w.under), w.rises.below a w.here)

  pub turn_data : (s : List ℕ) → b - a ≡ 1 → s ≡ put_data m.slots (node.start + t) (get_or ks a 0) (get_or ps a 0)
      → Filling depth r node ks ps b start (with_slots m s) hint
  turn_data s one e =
      let f = w.filling in
      let long : length s ≡ length m.slots = rw e (length-put_data m.slots (node.start + t) (get_or ks a 0) (get_or ps a 0)) in
      record {
        nodes = f.nodes;
        slots = long ∙ f.slots;
        used = f.used;
        run = f.run;
        range = f.range;
        sized = sized_lengths m (with_slots m s) refl long refl f.sized;
        hinted = hinted_slots m s hint long f.hinted;
        filled =
            filled_data (build depth) r node ks ps w.rises f.range w.same a t b m _ f.filled w.here w.slot ends
            (with_slots m s) one (rw e);
      }

  -- several keys: the part of the keys and the part of the payloads
  abbrev keys : List ℕ
  keys = take (b - a) (drop a ks)

  abbrev payloads : List ℕ
  payloads = take (b - a) (drop a ps)

  pub group_requires : Rising keys × (length payloads ≡ length keys × (length keys ≤ most_keys × (Sized m × (Hinted m hint × (node.start + t < slots_in m.slots)))))
  group_requires =
      let f = w.filling in
      let long : length keys ≡ b - a = length_part ks a b w.within in
      let paid : length payloads ≡ b - a = length_part ps a b (rw w.same w.within) in
      let small : length keys ≤ most_keys = omega (arith, w.within, w.few) in
      let under : node.start + t < slots_in m.slots = omega (arith, f.run, f.slots, w.under) in
      (rising_part ks a b w.within w.rises, (paid ∙ sym long, (small, (f.sized, (f.hinted, under)))))

  module _ (several : b - a ≡ 1 → ⊥) (m' : Mem) (g : Grown) (made : Groups (build depth) (node.start + t) keys payloads m m' g) where
    pub turn_group : (c : ℕ) → g.built ≡ Some c → length m'.nodes ≡ length m.nodes → length m'.slots ≡ length m.slots
        → length m'.used ≡ length m.used
        → Filling depth r node ks ps b start m' g.hint
    turn_group c e ln ls lu =
        let f = w.filling in
        record {
          nodes = ln ∙ f.nodes;
          slots = ls ∙ f.slots;
          used = lu ∙ f.used;
          run = f.run;
          range = f.range;
          sized = sized_lengths m m' ln ls lu f.sized;
          hinted = made.hint;
          filled =
              filled_group (build depth) r node ks ps w.rises f.range w.same a t b m _ f.filled w.here w.slot ends
              several w.more c m' (rw e at made.is);
        }

    -- the exit where the group has no room
    pub ends-full : (fuel : ℕ) (before : Mem) → fill_slots (build depth) r node node.model.l 0 ks ps start ≡ build fuel ks ps before
        → g.built ≡ None
        → Builds fuel ks ps before m' g
    ends-full fuel before whole e =
        let full : out None m' ≡ fill_slots (build depth) r node node.model.l 0 ks ps start
        = filled_full (build depth) r node ks ps w.rises w.filling.range w.same a t b m _ w.filling.filled w.here w.slot ends
        several w.more m' (rw e at made.is) in
        record { is = ap (λ (y : Option ℕ). out y m') e ∙ full ∙ whole; hint = made.hint }

-- the exit at the end of the keys
pub ends_filled : {depth r : ℕ} {node : Node} {ks ps : List ℕ} {a : ℕ} {start m : Mem} {hint : Hint} → Filling depth r node ks ps a start m hint
    → Rising ks
    → length ps ≡ length ks
    → length ks ≤ a
    → (fuel : ℕ) (before : Mem) → fill_slots (build depth) r node node.model.l 0 ks ps start ≡ build fuel ks ps before
    → Builds fuel ks ps before m (record { built = Some r; hint = hint })
ends_filled {depth} {r} {node} {ks} {ps} {a} {start} {m} f rises same le fuel before whole = record {
  is = filled_end (build depth) r node ks ps rises f.range same a m _ f.filled le ∙ whole;
  hint = f.hinted;
}

-- The exits before the loop: no fuel, and no places; and the node that was begun, which the loop fills.
module _ (fuel : ℕ) (ks ps : List ℕ) (before : Mem) where
  pub ends_no_fuel : (hint : Hint) → fuel < 1 → Hinted before hint → Builds fuel ks ps before before (record { built = None; hint = hint })
  ends_no_fuel hint h k = record { is = build_no_fuel fuel ks ps before h; hint = k }

  module _ (some : 1 ≤ fuel) (begun : Mem) (p : Option Place) (b : Begins ks before begun p) where
    pub ends_nowhere : (hint : Hint) → p ≡ None → Hinted before hint → Builds fuel ks ps before begun (record { built = None; hint = hint })
    unfolding placed_in
    ends_nowhere hint e k =
        let q : begun ≡ before = rw e at b.memory in
        record { is = build-nowhere fuel ks ps before some begun p b.place b.memory e; hint = rw q k }

    pub begun_fills : (x : Place) → p ≡ Some x
        → fill_slots (build (fuel - 1)) x.record x.node x.node.model.l 0 ks ps begun ≡ build fuel ks ps before
    begun_fills x e = build_begun fuel ks ps before some begun p x b.place b.memory e

-- The exits of a group: g is what the build of its child gave.
module _ (fuel q : ℕ) (ks ps : List ℕ) (before m : Mem) (g : Grown) (made : Builds fuel ks ps before m g) where
  pub child_small : (c : ℕ) → g.built ≡ Some c → Sized before → c < 2 ^ 48
  child_small c e z =
      let d : (build fuel ks ps before).built ≡ Some c = sym (ap (λ (o : Out). o.built) made.is) ∙ e in
      omega (arith, build-within fuel ks ps before c d, z.records)

  pub group_child : (c : ℕ) (s : List ℕ) → g.built ≡ Some c → s ≡ put_child m.slots q c → Groups (build fuel) q ks ps before (with_slots m s) g
  unfolding group_at
  group_child c s e d =
      let long : length s ≡ length m.slots = rw d (length-put_child m.slots q c) in
      let i : out (Some c) m ≡ build fuel ks ps before = rw e at made.is in
      record { is = rw (← i, e, d); hint = hinted_slots m s g.hint long made.hint }

  pub group_full : g.built ≡ None → Groups (build fuel) q ks ps before m g
  unfolding group_at
  group_full e =
      let i : out None m ≡ build fuel ks ps before = rw e at made.is in
      record { is = rw (← i, e); hint = made.hint }
