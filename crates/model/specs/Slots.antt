-- From key to slot (document 01, "From key to slot"). What the C edge, the walk and the build all mean by the slot of a
-- key, and which models are in range. Definitions only.
use Rattle.std.specs.Prelude.{Bool, false, Result, Ok, Err, [], ◌∷◌, ℕ, ◌+◌, ◌-◌, ◌*◌, ◌/◌, ◌≤◌, ltb, leb}
use Rattle.laws.specs.Answers.{Answer, done, refused, out_of_range, damage}
use Rattle.laws.specs.Keys.{key_bound}
use Rattle.laws.specs.Pick.{pick}
use Rattle.laws.specs.Refusals.{refusal}
use Rattle.laws.specs.declared.Refusal.{Refusal}
use Rattle.model.specs.declared.Model.{Model}

-- "A node has 4 to 4,096 slots"
abbrev pub least_slots : ℕ
least_slots = 4

abbrev pub most_slots : ℕ
most_slots = 4096

-- the value of a key, which the slot formula sees: the key itself
abbrev pub value_of : ℕ → ℕ
value_of k = k

-- values are below this, and lo + W is at most this
abbrev pub value_bound : ℕ
value_bound = key_bound

-- below the spread: the first slot; above it: the last; within: spread evenly over the L - 2 between
unfoldable pub slot_of : Model → ℕ → ℕ
slot_of m x = pick (ltb x m.lo) 0 (pick (leb (m.lo + m.w) x) (m.l - 1) (1 + (x - m.lo) * (m.l - 2) / m.w))

-- "Always W >= 1 and lo + W <= 2^48", and L within a node's limits
pub record InRange (m : Model) : Type 0 where
  pub least : least_slots ≤ m.l
  pub most : m.l ≤ most_slots
  pub wide : 1 ≤ m.w
  pub top : m.lo + m.w ≤ value_bound

-- the same as a test
unfoldable pub in_range : Model → Bool
in_range m =
    pick (leb least_slots m.l) (pick (leb m.l most_slots) (pick (leb 1 m.w) (leb (m.lo + m.w) value_bound) false) false) false

-- "Slot choice answers 2 for its key, then 9 for lo, W or L out of range"
unfoldable pub slot_choice : ℕ → Model → Answer ℕ
slot_choice k m =
    pick (ltb k key_bound) (pick (in_range m) (done (slot_of m (value_of k) ∷ [])) (refused damage)) (refused out_of_range)

-- which answer each result is
unfoldable pub slotted : Result ℕ Refusal → Answer ℕ
slotted (Ok s) = done (s ∷ [])
slotted (Err e) = refusal e
