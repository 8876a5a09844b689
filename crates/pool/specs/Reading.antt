-- Reading a record and a slot under the damage rules (document 01, "Numbers of the answers", last paragraph), in that order: the
-- node or the slot, or the first rule that it breaks. Every memory can be read. Definitions only.
use Rattle.std.specs.Prelude.{List, ℕ, ◌+◌, ◌/◌, ◌%◌, ltb, leb, eqb, get_or, Err, Ok, Result}
use Rattle.laws.specs.Pick.{pick}
use Rattle.marks.specs.Used.{used_at}
use Rattle.model.specs.Slots.{value_of, slot_of, in_range}
use Rattle.pool.specs.Memory.{Mem, records_in, slots_in, lo_word, w_word, l_word, start_word, kind_word, kind_unit, null_kind, data_kind, node_kind}
use Rattle.pool.specs.declared.Node.{Node}
use Rattle.pool.specs.declared.Slot.{Slot}
use Rattle.pool.specs.declared.Slot.TheVariants.{Null, Data, Child}
use Rattle.pool.specs.declared.Rule.{Rule}
use Rattle.pool.specs.declared.Rule.TheVariants.{UnusedRecord, RunOutside, ModelOutOfRange, UnknownKind, MisplacedKey}

-- what the words of record r say
unfoldable pub node_in : List ℕ → ℕ → Node
node_in ns r = record {
  model = record { lo = get_or ns (lo_word r) 0; w = get_or ns (w_word r) 0; l = get_or ns (l_word r) 0 };
  start = get_or ns (start_word r) 0;
}

-- "a record not marked used or outside its table, a run outside the slots, lo, W or L out of range"
unfoldable pub node_fits : ℕ → Node → Result Node Rule
node_fits count n =
    pick (leb (n.start + n.model.l) count) (pick (in_range n.model) (Ok n) (Err ModelOutOfRange)) (Err RunOutside)

unfoldable pub node_at : Mem → ℕ → Result Node Rule
node_at m r =
    pick (ltb r (records_in m.nodes))
    (pick (used_at m.used r) (node_fits (slots_in m.slots) (node_in m.nodes r)) (Err UnusedRecord))
    (Err UnusedRecord)

-- "a kind other than NULL, DATA, NODE, a DATA key not below 2^48 or not belonging in its slot of that node": word x of slot j. (A value is below
-- 2^48 by how a word is read, so the rule on the key's size never fires.)
unfoldable pub slot_says : Node → ℕ → ℕ → Result Slot Rule
slot_says n j x =
    pick (eqb (x / kind_unit) null_kind) (Ok Null)
    (pick (eqb (x / kind_unit) data_kind) (pick (eqb (slot_of n.model (value_of (x % kind_unit))) j) (Ok (Data (x % kind_unit))) (Err MisplacedKey))
    (pick (eqb (x / kind_unit) node_kind) (Ok (Child (x % kind_unit))) (Err UnknownKind)))

-- slot j of a node
unfoldable pub slot_at : List ℕ → Node → ℕ → Result Slot Rule
slot_at ss n j = slot_says n j (get_or ss (kind_word (n.start + j)) 0)
