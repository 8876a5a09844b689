-- The elements that a reading meets, on any memory: each has a key below 2^48 and a slot of the pool, whatever the span. Assumes nothing.
use Rattle.std.specs.Prelude.{Err, Ok, Result}
use mathlib.Core.List.{List}
use mathlib.Core.Path.{◌≡◌, refl}
use Prim.Native.Nat.{ℕ, zero, suc, ◌+◌, ◌-◌, ◌<◌, ◌≤◌}
use native.Mathlib.Omega.{arith}
use Rattle.model.proofs.Slots.{slot_under}
use Rattle.model.specs.Slots.{InRange}
use Rattle.model.specs.declared.Model.{Model}
use Rattle.pool.proofs.Nodes.{good-node}
use Rattle.pool.proofs.Slots.{data-word}
use Rattle.pool.specs.Memory.{Mem, slots_in}
use Rattle.pool.specs.Reading.{node_at, slot_at}
use Rattle.pool.specs.declared.Node.{Node}
use Rattle.pool.specs.declared.Slot.{Slot}
use Rattle.pool.specs.declared.Slot.TheVariants.{Null, Data, Child}
use Rattle.walk.proofs.Elements.{Each, each_both}
use Rattle.walk.proofs.Readings.{last_within}
use Rattle.walk.specs.Events.{first_in, last_in, count_in, in_slot, in_slots, in_record, too_long, events_at, events_of}
use Rattle.walk.specs.Moves.{Sound}
use Rattle.walk.specs.Walks.{longest_path}
use Rattle.walk.specs.declared.Event.{Event}
use Rattle.walk.specs.declared.Span.{Span}
use Rattle.walk.specs.declared.Span.TheVariants.{Between, Whole}
use Rattle.pool.specs.declared.Rule.{Rule}

-- every element of the events is sound
abbrev pub AllSound : Mem → List Event → Type 0
AllSound m es = Each (Sound m) es

first-within : (m : Model) (s : Span) → InRange m → first_in s m < m.l
unfolding first_in
first-within m (Between u v) r = slot_under m r u
first-within m Whole r = omega arith

module _ (m : Mem) where
  -- below a child all is sound
  module _ (deeper : ℕ → List Event) (below : (c : ℕ) → AllSound m (deeper c)) where
    slot-sound : (n : Node) (j : ℕ) → n.start + j + 1 ≤ slots_in m.slots → (x : Result Slot Rule) → slot_at m.slots n j ≡ x → AllSound m (in_slot deeper (n.start + j) x)
    unfolding in_slot
    slot-sound n j h (Ok Null) e = tt
    slot-sound n j h (Ok (Data k)) e = (record { slot = omega arith; key = (data-word m.slots n j k e).small }, tt)
    slot-sound n j h (Ok (Child c)) e = below c
    slot-sound n j h (Err c) e = tt

    slots-sound : (n : Node) (count j : ℕ) → n.start + j + count ≤ slots_in m.slots → AllSound m (in_slots deeper m n count j)
    unfolding in_slots
    slots-sound n zero j h = tt
    slots-sound n (suc count) j h =
        each_both (Sound m) (in_slot deeper (n.start + j) (slot_at m.slots n j)) _ (slot-sound n j (omega arith) (slot_at m.slots n j) refl) (slots-sound n count (j + 1) (omega arith))

    record-sound : (s : Span) (r : ℕ) (x : Result Node Rule) → node_at m r ≡ x → AllSound m (in_record s deeper m r x)
    unfolding in_record count_in
    record-sound s r (Ok n) e =
        let g = good-node m r n e in
        let f : n.start + n.model.l ≤ slots_in m.slots = g.fits in
        slots-sound n (last_in s n.model + 1 - first_in s n.model) (first_in s n.model) (omega (arith, f, first-within n.model s g.range, last_within n.model s g.range))
    record-sound s r (Err c) e = tt

  long-sound : (x : Result Node Rule) → AllSound m (too_long x)
  unfolding too_long
  long-sound (Ok n) = tt
  long-sound (Err c) = tt

  events_at-sound : (s : Span) (d r : ℕ) → AllSound m (events_at s m d r)
  unfolding events_at
  events_at-sound s zero r = long-sound (node_at m r)
  events_at-sound s (suc d) r = record-sound (events_at s m d) (events_at-sound s d) s r (node_at m r) refl

  pub events_sound : (s : Span) (above r : ℕ) → AllSound m (events_of s m above r)
  unfolding events_of
  events_sound s above r = events_at-sound s (longest_path - above) r
