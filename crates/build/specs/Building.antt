-- Building a tree over rising keys (document 01, "From key to slot" and "Where nodes go"): a node takes the lowest unused record
-- and the lowest run, parent before children, children in slot order, each with its whole subtree before the next. Stated slot
-- by slot; the code goes by runs of keys. Definitions only.
use Rattle.std.specs.Prelude.{None, Option, Some, List, [], ◌∷◌, ℕ, zero, suc, ◌+◌, ltb, eqb, length, get_or}
use Rattle.laws.specs.Pick.{pick}
use Rattle.marks.specs.Used.{mark_at, mark_run, first_unused, lowest_run}
use Rattle.model.specs.Choice.{model_of}
use Rattle.model.specs.Groups.{keys_to}
use Rattle.model.specs.Slots.{value_of, slot_of}
use Rattle.model.specs.declared.Model.{Model}
use Rattle.pool.specs.Memory.{Mem, mem, records_in, slots_in, slot_place}
use Rattle.pool.specs.Writing.{put_node, put_data, put_child, zero_run}
use Rattle.pool.specs.declared.Node.{Node}

-- what a build leaves: its top node's record, or that there was no room; and the memory
pub record Out : Type 0 where
  pub built : Option ℕ
  pub memory : Mem

abbrev pub out : Option ℕ → Mem → Out
out b m = record { built = b; memory = m }

-- go on where there was room
abbrev pub next : Option ℕ → Mem → (ℕ → Mem → Out) → Out
next (Some r) m f = f r m
next None m f = out None m

abbrev pub and_then : Out → (ℕ → Mem → Out) → Out
and_then o f = next o.built o.memory f

-- the lowest unused record, counted from 0; as many as there are records if all are used
unfoldable pub lowest_record : Mem → ℕ
lowest_record m = first_unused m.used 0 (records_in m.nodes)

-- the lowest start at which l consecutive slots are unused
unfoldable pub lowest_slots : Mem → ℕ → Option ℕ
lowest_slots m l = lowest_run m.used (records_in m.nodes) (slots_in m.slots) l

-- a new node over `count` keys at record r: its record, its slots all NULL, its places marked used
unfoldable pub place_node : Mem → ℕ → Node → ℕ → Mem
place_node m r n count =
    mem (put_node m.nodes r n count)
    (zero_run m.slots n.start n.model.l)
    (mark_run (mark_at m.used r) (slot_place m.nodes n.start) n.model.l)

-- the memory with another list of slots
abbrev pub with_slots : Mem → List ℕ → Mem
with_slots m s = mem m.nodes s m.used

-- the payloads of the keys that go to slot s
unfoldable pub payloads_to : Model → ℕ → List ℕ → List ℕ → List ℕ
payloads_to m s [] ps = []
payloads_to m s (k ∷ ks) [] = []
payloads_to m s (k ∷ ks) (p ∷ ps) =
    pick (eqb (slot_of m (value_of k)) s) (p ∷ payloads_to m s ks ps) (payloads_to m s ks ps)

abbrev pub Builder : Type 0
Builder = List ℕ → List ℕ → Mem → Out

-- slot q of the new node r: "One key at a slot makes it DATA, none NULL. More than one makes it NODE, whose child is built over just
-- those keys", by B
unfoldable pub fill_slot : Builder → ℕ → ℕ → List ℕ → List ℕ → Mem → Out
fill_slot B r q [] ps m = out (Some r) m
fill_slot B r q (k ∷ []) ps m = out (Some r) (with_slots m (put_data m.slots q k (get_or ps 0 0)))
fill_slot B r q (k ∷ j ∷ ks) ps m =
    and_then (B (k ∷ j ∷ ks) ps m) (λ c m'. out (Some r) (with_slots m' (put_child m'.slots q c)))

-- n slots of the new node r, from slot s on, each with the keys that go to it
unfoldable pub fill_slots : Builder → ℕ → Node → ℕ → ℕ → List ℕ → List ℕ → Mem → Out
fill_slots B r node zero s ks ps m = out (Some r) m
fill_slots B r node (suc n) s ks ps m =
    and_then (fill_slot B r (node.start + s) (keys_to node.model s ks) (payloads_to node.model s ks ps) m)
    (λ r' m'. fill_slots B r node n (s + 1) ks ps m')

-- one node, whose children B builds; "one of the two lacking is enough"
unfoldable pub node_on : Builder → ℕ → Model → Option ℕ → Builder
node_on B r md None ks ps m = out None m
node_on B r md (Some s) ks ps m =
    fill_slots B r (record { model = md; start = s }) md.l 0 ks ps (place_node m r (record { model = md; start = s }) (length ks))

unfoldable pub node_with : Builder → Builder
node_with B ks ps m =
    pick (ltb (lowest_record m) (records_in m.nodes))
    (node_on B (lowest_record m) (model_of ks) (lowest_slots m (model_of ks).l) ks ps m)
    (out None m)

-- a tree of at most `depth` levels
unfoldable pub build : ℕ → Builder
build zero ks ps m = out None m
build (suc depth) ks ps m = node_with (build depth) ks ps m
