-- Finding a node's places: what the search for a record and a run answers, that the places found lie within the pools, and that
-- the hint it hands on holds once the node has them. Assumes nothing.
use mathlib.Core.Bool.{true}
use mathlib.Core.List.{List}
use mathlib.Core.Logic.{inl}
use mathlib.Core.Path.{◌≡◌, refl, sym, ◌∙◌}
use Prim.Native.Nat.{ℕ, ◌+◌, ◌<◌, ◌≤◌}
use native.Mathlib.Omega.{arith}
use borrow.Author.Tests.{eqb-true, eqb-false, ltb-true, lt-ltb, le-ltb}
use lib.Dec.{eqb, ltb}
use lib.ListN.{length}
use Rattle.laws.specs.Keys.{Rising}
use Rattle.laws.proofs.Tests.{both}
use Rattle.marks.specs.Used.{used_at, mark_at, mark_run, first_unused, lowest_run}
use Rattle.std.proofs.Common.{None, Option, Some}
use Rattle.marks.proofs.Lowest.{first_unused_at, lowest_run_finds, lowest_run-full}
use Rattle.marks.proofs.Marks.{mark-same, mark-other}
use Rattle.marks.proofs.Runs.{mark_run-out}
use Rattle.model.specs.Choice.{model_of, choice_of}
use Rattle.model.specs.Slots.{InRange}
use Rattle.model.specs.declared.Choice.{Choice}
use Rattle.model.specs.declared.Model.{Model}
use Rattle.model.proofs.Least.{chosen-in_range}
use Rattle.pool.specs.Memory.{Mem, records_in, slots_in, slot_place}
use Rattle.build.specs.Building.{lowest_record, lowest_slots, place_node}
use Rattle.build.specs.Hints.{Sized, Hinted}
use Rattle.build.specs.Runs.{first_slot, place_on, place_for, placed_in, Begins}
use Rattle.build.specs.declared.Place.{Place}
use Rattle.build.proofs.Kept.{mark-keeps, mark_run-keeps, place-keeps}

-- a place made of its numbers
abbrev pub place_at : ℕ → Model → ℕ → ℕ → Place
place_at r md s f = record { «record» = r; node = record { model = md; start = s }; next = record { «record» = r + 1; slot = f } }

-- the answers of the search, as the code comes to them
module _ (m : Mem) (md : Model) where
  pub no_record : (first_unused m.used 0 (records_in m.nodes) < records_in m.nodes → ⊥) → None ≡ place_for m md
  unfolding place_for lowest_record
  no_record h = let e : records_in m.nodes ≤ first_unused m.used 0 (records_in m.nodes) = omega arith in rw (le-ltb _ _ e)

  module _ (room : first_unused m.used 0 (records_in m.nodes) < records_in m.nodes) where
    pub no_run : None ≡ lowest_run m.used (records_in m.nodes) (slots_in m.slots) md.l → None ≡ place_for m md
    unfolding place_for place_on lowest_record lowest_slots
    no_run e = rw (lt-ltb _ _ room, ← e)

    pub no_slot : 1 ≤ md.l → (first_unused m.used (records_in m.nodes) (slots_in m.slots) < slots_in m.slots → ⊥) → None ≡ place_for m md
    no_slot h e = no_run (sym (lowest_run-full m.used (records_in m.nodes) (slots_in m.slots) md.l h (omega arith)))

    pub run_here : (r f s : ℕ) → r ≡ first_unused m.used 0 (records_in m.nodes) → f ≡ first_unused m.used (records_in m.nodes) (slots_in m.slots)
        → Some s ≡ lowest_run m.used (records_in m.nodes) (slots_in m.slots) md.l
        → Some (place_at r md s f) ≡ place_for m md
    unfolding place_for place_on lowest_record lowest_slots first_slot
    run_here r f s lowest first e = rw (lt-ltb _ _ room, ← e, ← lowest, ← first)

-- what a place found is
pub record Takes (m : Mem) (md : Model) (p : Place) : Type 0 where
  pub lowest : p.record ≡ lowest_record m
  pub room : lowest_record m < records_in m.nodes
  pub run : lowest_slots m md.l ≡ Some p.node.start
  pub model : p.node.model ≡ md
  pub after : p.next ≡ record { «record» = lowest_record m + 1; slot = first_slot m }

on_takes : (m : Mem) (md : Model) (w : Option ℕ) (p : Place) → lowest_record m < records_in m.nodes → lowest_slots m md.l ≡ w
    → place_on (lowest_record m) md (first_slot m) w ≡ Some p
    → Takes m md p
unfolding place_on
on_takes m md None p h e q = let z : ◌≡◌ {A = ℕ} 0 1 = cc in absurd (omega arith)
on_takes m md (Some s) p h e q =
    let d : place_at (lowest_record m) md s (first_slot m) ≡ p = cc in
    rw (← d) (record { lowest = refl; room = h; run = e; model = refl; after = refl })

pub here_takes : (m : Mem) (md : Model) (p : Place) → Some p ≡ place_for m md → Takes m md p
unfolding place_for
here_takes m md p e =
    both (ltb (lowest_record m) (records_in m.nodes))
    (λ t. on_takes m md (lowest_slots m md.l) p (ltb-true (lowest_record m) (records_in m.nodes) t) refl (sym (rw t at e)))
    (λ t. let d : Some p ≡ None = rw t at e in let z : ◌≡◌ {A = ℕ} 0 1 = cc in absurd (omega arith))

module _ (m : Mem) (md : Model) (p : Place) (t : Takes m md p) where
  pub takes_record : p.record < records_in m.nodes
  takes_record = rw t.lowest t.room

  pub takes_run : p.node.start + p.node.model.l ≤ slots_in m.slots
  unfolding lowest_slots
  takes_run = rw t.model (lowest_run_finds m.used (records_in m.nodes) (slots_in m.slots) md.l p.node.start t.run).0

  module _ (z : Sized m) (count : ℕ) where
    abbrev marked : List ℕ
    marked = mark_run (mark_at m.used p.record) (slot_place m.nodes p.node.start) p.node.model.l

    records_marked : (r : ℕ) → r < p.record + 1 → used_at marked r ≡ true
    unfolding lowest_record
    records_marked r lt =
        let room : p.record < records_in m.nodes = takes_record in
        let known = first_unused_at m.used 0 (records_in m.nodes) p.record (sym t.lowest) in
        let e : 0 + r ≡ r = omega arith in
        mark_run-out (mark_at m.used p.record) (slot_place m.nodes p.node.start) p.node.model.l r (inl (omega arith))
        ∙ both (eqb r p.record)
        (λ q. let d : r ≡ p.record = eqb-true _ _ q in rw d (mark-same m.used p.record (omega (arith, z.mapped))))
        (λ q.
        let d : r ≡ p.record → ⊥ = eqb-false r p.record q in
        mark-other m.used p.record r d ∙ rw e at (known.1 r (omega arith)))

    slots_marked : (q : ℕ) → q < first_slot m → used_at marked (slot_place m.nodes q) ≡ true
    unfolding first_slot
    slots_marked q lt =
        let known = first_unused_at m.used (records_in m.nodes) (slots_in m.slots) (first_slot m) refl in
        mark_run-keeps (mark_at m.used p.record) (slot_place m.nodes p.node.start) p.node.model.l (slot_place m.nodes q)
        (mark-keeps m.used p.record (slot_place m.nodes q) (known.1 q lt))

    pub takes_hinted : Hinted (place_node m p.record p.node count) p.next
    unfolding place_node first_slot
    takes_hinted =
        let k = place-keeps m p.record p.node count in
        let room : p.record < records_in m.nodes = takes_record in
        let first = (first_unused_at m.used (records_in m.nodes) (slots_in m.slots) (first_slot m) refl).0 in
        rw t.after (record {
          record-within = rw k.nodes (omega (arith, t.lowest));
          slot-within = rw k.slots first;
          records-used = λ r lt. records_marked r (rw t.lowest lt);
          slots-used = λ q lt. rw k.nodes (slots_marked q lt);
        })

-- the model of a choice over rising keys
pub chosen_is_in_range : (ks : List ℕ) → Rising ks → (c : Choice) → c ≡ choice_of ks → InRange c.model
unfolding choice_of
chosen_is_in_range ks h c e = rw e (chosen-in_range ks h)

-- Beginning a node: c is the choice over the keys.
module _ (m : Mem) (ks : List ℕ) (c : Choice) (e : c ≡ choice_of ks) where
  found_for : (p : Option Place) → p ≡ place_for m c.model → p ≡ place_for m (model_of ks)
  unfolding choice_of
  found_for p found = rw e at found

  pub begins_nowhere : None ≡ place_for m c.model → Begins ks m m None
  unfolding placed_in
  begins_nowhere found = record { place = found_for None found; memory = refl }

  module _ (x : Place) (found : Some x ≡ place_for m c.model) where
    pub found_within : (x.record < records_in m.nodes) × (x.node.start + x.node.model.l ≤ slots_in m.slots)
    found_within = let t = here_takes m c.model x found in (takes_record m c.model x t, takes_run m c.model x t)

    pub begins_here : (after : Mem) → after ≡ place_node m x.record x.node (length ks) → Begins ks m after (Some x)
    unfolding placed_in
    begins_here after h = record { place = found_for (Some x) found; memory = h }
