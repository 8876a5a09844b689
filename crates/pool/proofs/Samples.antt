-- The example of docs/MEMORY.md, word by word: the store of P4 with 1 for 0 in 4 records and 24 slots as the stores leave it, what is read
-- there, and one bad value for each rule of reading. Assumes nothing.
use Rattle.std.specs.Prelude.{Err, Ok}
use mathlib.Core.List.{List, [], ◌∷◌, ◌++◌}
use mathlib.Core.Path.{◌≡◌, refl}
use Prim.Native.Nat.{ℕ, ◌+◌, ◌-◌, ◌*◌, ◌^◌}
use lib.ListN.{replicate, set}
use Rattle.marks.specs.Used.{used_at}
use Rattle.model.specs.Slots.{slot_of, in_range}
use Rattle.pool.specs.Memory.{mem, w_word, l_word, start_word, kind_word}
use Rattle.pool.specs.Reading.{node_in, node_fits, node_at, slot_says, slot_at}
use Rattle.pool.specs.Writing.{put_node, put_data, put_child}
use Rattle.pool.specs.declared.Node.{Node}
use Rattle.pool.specs.declared.Slot.TheVariants.{Null, Data, Child}
use Rattle.pool.specs.declared.Rule.TheVariants.{UnusedRecord, RunOutside, ModelOutOfRange, UnknownKind, MisplacedKey}

abbrev root : Node
root = record { model = record { lo = 101; w = 2; l = 12 }; start = 0 }

abbrev low : Node
low = record { model = record { lo = 1; w = 100; l = 4 }; start = 12 }

abbrev high : Node
high = record { model = record { lo = 10000; w = 10001; l = 4 }; start = 16 }

abbrev nodes : List ℕ
nodes =
    101 ∷ 2 ∷ 12 ∷ 0 ∷ 6 ∷ 6 ∷ 0 ∷ 0
    ∷ 1 ∷ 100 ∷ 4 ∷ 12 ∷ 2 ∷ 2 ∷ 0 ∷ 0
    ∷ 10000 ∷ 10001 ∷ 4 ∷ 16 ∷ 2 ∷ 2 ∷ 0 ∷ 0
    ∷ replicate 8 0

-- the first words of a DATA and of a NODE slot
abbrev key : ℕ → ℕ
key k = 2 ^ 48 + k

abbrev child : ℕ → ℕ
child c = 2 * 2 ^ 48 + c

abbrev slots : List ℕ
slots =
    child 1 ∷ 0 ∷ key 101 ∷ 3 ∷ (replicate 8 0 ++ key 102 ∷ 4 ∷ (replicate 8 0 ++ child 2 ∷ 0
    ∷ 0 ∷ 0 ∷ key 1 ∷ 1 ∷ key 100 ∷ 2 ∷ 0 ∷ 0
    ∷ 0 ∷ 0 ∷ key 10000 ∷ 5 ∷ key 20000 ∷ 6 ∷ 0 ∷ 0
    ∷ replicate 8 0))

-- records 0 to 2, and the slots 0 to 19 at the places 4 to 23
abbrev used : List ℕ
used = (7 + (2 ^ 20 - 1) * 2 ^ 4) ∷ []

nodes_stored : put_node (put_node (put_node (replicate 32 0) 0 root 6) 1 low 2) 2 high 2 ≡ nodes
unfolding put_node
nodes_stored = refl

slots_stored :
    put_data (put_data (put_data (put_data (put_child (put_data (put_data (put_child (replicate 48 0) 0 1) 1 101 3) 6 102 4) 11 2) 13 1 1) 14 100 2) 17 10000 5) 18 20000 6
    ≡ slots
unfolding put_data put_child
slots_stored = refl

-- what is read
root_read : node_at (mem nodes slots used) 0 ≡ Ok root
unfolding used_at in_range node_in node_fits node_at
root_read = refl

high_read : node_at (mem nodes slots used) 2 ≡ Ok high
unfolding used_at in_range node_in node_fits node_at
high_read = refl

child_read : slot_at slots root 11 ≡ Ok (Child 2)
unfolding slot_says slot_at
child_read = refl

data_read : slot_at slots high 2 ≡ Ok (Data 20000)
unfolding slot_of slot_says slot_at
data_read = refl

null_read : slot_at slots root 5 ≡ Ok Null
unfolding slot_says slot_at
null_read = refl

-- one bad value for each rule
unmarked : node_at (mem nodes slots used) 3 ≡ Err UnusedRecord
unfolding used_at node_at
unmarked = refl

outside : node_at (mem nodes slots used) 4 ≡ Err UnusedRecord
unfolding node_at
outside = refl

run-outside : node_at (mem (set nodes (start_word 1) 21) slots used) 1 ≡ Err RunOutside
unfolding used_at node_in node_fits node_at
run-outside = refl

-- too many slots for the pool and for a node: the run's rule comes first
run-first : node_at (mem (set nodes (l_word 1) (2 ^ 64 - 1)) slots used) 1 ≡ Err RunOutside
unfolding used_at node_in node_fits node_at
run-first = refl

no_width : node_at (mem (set nodes (w_word 1) 0) slots used) 1 ≡ Err ModelOutOfRange
unfolding used_at in_range node_in node_fits node_at
no_width = refl

few-slots : node_at (mem (set nodes (l_word 1) 3) slots used) 1 ≡ Err ModelOutOfRange
unfolding used_at in_range node_in node_fits node_at
few-slots = refl

third_kind : slot_at (set slots (kind_word 5) (3 * 2 ^ 48)) root 5 ≡ Err UnknownKind
unfolding slot_says slot_at
third_kind = refl

strange_key : slot_at (set slots (kind_word 5) (key 101)) root 5 ≡ Err MisplacedKey
unfolding slot_of slot_says slot_at
strange_key = refl

-- kind 0 is NULL whatever else the slot holds
null_with_a_value : slot_at (set slots (kind_word 5) 77) root 5 ≡ Ok Null
unfolding slot_says slot_at
null_with_a_value = refl
