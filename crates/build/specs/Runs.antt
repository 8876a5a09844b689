-- The code's way of building, which proofs/Level.antt and proofs/Filter.antt join to Building's: where a node goes, with the hint
-- for the search after it, where a run of keys that share a slot ends, and one group of keys. Definitions only.
use Rattle.std.specs.Prelude.{None, Option, Some, List, ◌≡◌, ℕ, ◌+◌, ◌<◌, ◌≤◌, ltb, length, get_or}
use Rattle.laws.specs.Pick.{pick}
use Rattle.marks.specs.Used.{first_unused}
use Rattle.model.specs.Choice.{model_of}
use Rattle.model.specs.Slots.{value_of, slot_of}
use Rattle.model.specs.declared.Model.{Model}
use Rattle.pool.specs.Memory.{Mem, records_in, slots_in}
use Rattle.pool.specs.Writing.{put_child}
use Rattle.build.specs.Building.{out, and_then, Builder, with_slots, lowest_record, lowest_slots, place_node}
use Rattle.build.specs.Hints.{Hinted}
use Rattle.build.specs.declared.Grown.{Grown}
use Rattle.build.specs.declared.Place.{Place}

-- the first unused slot; as many as there are slots if all are used
unfoldable pub first_slot : Mem → ℕ
first_slot m = first_unused m.used (records_in m.nodes) (slots_in m.slots)

-- on a run: after the record r and the slots before f no search has to look again
unfoldable pub place_on : ℕ → Model → ℕ → Option ℕ → Option Place
place_on r md f None = None
place_on r md f (Some s) =
    Some (record { «record» = r; node = record { model = md; start = s }; next = record { «record» = r + 1; slot = f } })

-- the places of a node with the model md
unfoldable pub place_for : Mem → Model → Option Place
place_for m md =
    pick (ltb (lowest_record m) (records_in m.nodes))
    (place_on (lowest_record m) md (first_slot m) (lowest_slots m md.l))
    None

-- the memory with the new node over `count` keys
unfoldable pub placed_in : Mem → Option Place → ℕ → Mem
placed_in m None count = m
placed_in m (Some p) count = place_node m p.record p.node count

-- what beginning a node over the keys leaves
pub record Begins (ks : List ℕ) (before after : Mem) (p : Option Place) : Type 0 where
  pub place : p ≡ place_for before (model_of ks)
  pub memory : after ≡ placed_in before p (length ks)

-- b is past the last key that goes to the slot of key a, in a list along which slots do not fall
pub record RunEnd (m : Model) (ks : List ℕ) (a b : ℕ) : Type 0 where
  pub after : a < b
  pub within : b ≤ length ks
  pub shared : (i : ℕ) → a ≤ i → i < b → slot_of m (value_of (get_or ks i 0)) ≡ slot_of m (value_of (get_or ks a 0))
  pub parts : b < length ks → slot_of m (value_of (get_or ks b 0)) ≡ slot_of m (value_of (get_or ks a 0)) → ⊥

-- one group of keys: the child, and slot q that leads to it
unfoldable pub group_at : Builder → ℕ → Builder
group_at B q ks ps m = and_then (B ks ps m) (λ c m'. out (Some c) (with_slots m' (put_child m'.slots q c)))

-- what a group of the code leaves, and a hint that holds of it
pub record Groups (B : Builder) (q : ℕ) (ks ps : List ℕ) (before after : Mem) (g : Grown) : Type 0 where
  pub is : out g.built after ≡ group_at B q ks ps before
  pub hint : Hinted after g.hint
