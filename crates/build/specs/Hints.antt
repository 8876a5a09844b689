-- What the building code may assume of the lent memory's sizes, and of the hint with which a search for places starts: that
-- every record and every slot before it is used, so that nothing is searched twice. Definitions only.
use Rattle.std.specs.Prelude.{true, ◌≡◌, ℕ, ◌+◌, ◌*◌, ◌^◌, ◌≤◌, ◌<◌, length, List}
use Rattle.marks.specs.Used.{used_at}
use Rattle.pool.specs.Memory.{Mem, records_in, slots_in, slot_place}
use Rattle.build.specs.Building.{out, build}
use Rattle.build.specs.declared.Grown.{Grown}
use Rattle.build.specs.declared.Hint.{Hint}

-- the map has a bit for every place, and the numbers of records and slots fit a slot's value
pub record Sized (m : Mem) : Type 0 where
  pub mapped : records_in m.nodes + slots_in m.slots ≤ length m.used * 64
  pub records : records_in m.nodes ≤ 2 ^ 32
  pub slots : slots_in m.slots ≤ 2 ^ 32

pub record Hinted (m : Mem) (h : Hint) : Type 0 where
  pub record-within : h.record ≤ records_in m.nodes
  pub slot-within : h.slot ≤ slots_in m.slots
  pub records-used : (r : ℕ) → r < h.record → used_at m.used r ≡ true
  pub slots-used : (q : ℕ) → q < h.slot → used_at m.used (slot_place m.nodes q) ≡ true

-- what a build of the code leaves: the definition's answer and memory, and a hint that holds of that memory
pub record Builds (fuel : ℕ) (ks ps : List ℕ) (before after : Mem) (g : Grown) : Type 0 where
  pub is : out g.built after ≡ build fuel ks ps before
  pub hint : Hinted after g.hint
