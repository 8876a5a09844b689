-- Releasing a subtree in the code's own way, on every memory: children first, each in slot order, then the node's own run and record are
-- zeroed and unmarked; a record that is not good is passed over. Document 01's sentence, that the old nodes "are released and zeroed", is
-- rebuild's `zeroed`; that both leave the same where no rule is broken is shown there. Definitions only.
use Rattle.std.specs.Prelude.{ℕ, zero, suc, ◌+◌, Err, Ok, Result}
use Rattle.marks.specs.Used.{clear_at, clear_run}
use Rattle.pool.specs.Memory.{Mem, mem, slot_place}
use Rattle.pool.specs.Reading.{node_at, slot_at}
use Rattle.pool.specs.Writing.{zero_record, zero_run}
use Rattle.pool.specs.declared.Node.{Node}
use Rattle.pool.specs.declared.Slot.{Slot}
use Rattle.pool.specs.declared.Slot.TheVariants.{Null, Data, Child}
use Rattle.pool.specs.declared.Rule.{Rule}

-- the memory without node n at record r: zeros for its run and its record, no mark left
unfoldable pub drop_node : Mem → ℕ → Node → Mem
drop_node m r n =
    mem (zero_record m.nodes r)
    (zero_run m.slots n.start n.model.l)
    (clear_at (clear_run m.used (slot_place m.nodes n.start) n.model.l) r)

-- what one slot asks to be released
unfoldable pub release_slot : (Mem → ℕ → Mem) → Mem → Result Slot Rule → Mem
release_slot below m (Ok Null) = m
release_slot below m (Ok (Data k)) = m
release_slot below m (Ok (Child c)) = below m c
release_slot below m (Err c) = m

-- the children in n slots of a node, from slot j on
unfoldable pub release_slots : (Mem → ℕ → Mem) → Node → ℕ → ℕ → Mem → Mem
release_slots below node zero j m = m
release_slots below node (suc n) j m = release_slots below node n (j + 1) (release_slot below m (slot_at m.slots node j))

unfoldable pub release_record : (Mem → ℕ → Mem) → Mem → ℕ → Result Node Rule → Mem
release_record below m r (Ok n) = drop_node (release_slots below n n.model.l 0 m) r n
release_record below m r (Err c) = m

-- the subtree at record r, of at most `depth` levels
unfoldable pub release : ℕ → Mem → ℕ → Mem
release zero m r = m
release (suc depth) m r = release_record (release depth) m r (node_at m r)
