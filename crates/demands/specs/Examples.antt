-- Placed trees with the pools that hold them: the store of six keys (P4 with 1 for 0), and P1's before and after the insert of 25 (P7) or of 5 (P8); the words of the
-- pools are those of the worked cases (specs/Soundings). And for each field of Good a handle, pools and a tree that break this one field.
-- Data only; that the first are Good is proofs/Examples, that the others break one field alone is proofs/Fields.
use Rattle.std.specs.Prelude.{List, [], ◌∷◌, ℕ, zero, suc, ◌+◌, ◌-◌, ◌*◌, ◌^◌, replicate, set, take}
use Rattle.pool.specs.Memory.{Mem, mem}
use Rattle.store.specs.Handles.{new_handle}
use Rattle.store.specs.declared.Handle.{Handle}
use Rattle.demands.specs.Placed.{Head, Branch, null, leaf, sub, Forest, nil, cons}
use Rattle.demands.specs.Soundings.{p1_pools}

-- a node at record r with its model and its run; elements, built and conflicts
abbrev pub head : ℕ → ℕ → ℕ → ℕ → ℕ → ℕ → ℕ → Head
head r lo w start e b c = record { at = r; lo = lo; w = w; start = start; elements = e; built = b; conflicts = c }

-- n NULL slots before others
abbrev pub gap : ℕ → Forest → Forest
gap zero f = f
gap (suc n) f = cons null (gap n f)

-- a two-key node's slots
abbrev pub pair : ℕ → ℕ → ℕ → ℕ → Forest
pair j q k p = gap 1 (cons (leaf j q) (cons (leaf k p) (gap 1 nil)))

-- P1: 10, 20, 30, 40 in 2 records and 12 slots
abbrev pub p1_keys : List ℕ
p1_keys = 10 ∷ 20 ∷ 30 ∷ 40 ∷ []

abbrev pub p1_payloads : List ℕ
p1_payloads = 1 ∷ 2 ∷ 3 ∷ 4 ∷ []

-- the pools before that load: full of old words
abbrev pub p1_old : Mem
p1_old = mem (replicate 16 5) (replicate 24 7) (11 ∷ [])

abbrev pub p1_handle : Handle
p1_handle = new_handle 0 4 5 2 12

abbrev pub p1_root : Head
p1_root = head 0 20 11 0 4 4 0

abbrev pub p1_slots : Forest
p1_slots = cons (leaf 10 1) (cons (leaf 20 2) (gap 4 (cons (leaf 30 3) (cons (leaf 40 4) nil))))

-- P7: P1 then 25, at slot 3
abbrev pub p7_handle : Handle
p7_handle = new_handle 0 5 5 2 12

abbrev pub p7_root : Head
p7_root = head 0 20 11 0 5 4 0

abbrev pub p7_slots : Forest
p7_slots = cons (leaf 10 1) (cons (leaf 20 2) (gap 1 (cons (leaf 25 9) (gap 2 (cons (leaf 30 3) (cons (leaf 40 4) nil))))))

-- P8: P1 then 5, which conflicts with 10
abbrev pub p8_handle : Handle
p8_handle = new_handle 0 5 5 2 12

abbrev pub p8_root : Head
p8_root = head 0 20 11 0 5 4 1

abbrev pub p8_slots : Forest
p8_slots = cons (sub (head 1 5 6 8 2 2 0) (pair 5 9 10 1)) (cons (leaf 20 2) (gap 4 (cons (leaf 30 3) (cons (leaf 40 4) nil))))

-- P4 with 1 for 0: 1, 100, 101, 102, 10000, 20000 in 3 records and 20 slots; "children at runs 12 and 16, their keys at slots 1 and 2"
abbrev pub six_keys : List ℕ
six_keys = 1 ∷ 100 ∷ 101 ∷ 102 ∷ 10000 ∷ 20000 ∷ []

abbrev pub six_payloads : List ℕ
six_payloads = 1 ∷ 2 ∷ 3 ∷ 4 ∷ 5 ∷ 6 ∷ []

abbrev pub six_handle : Handle
six_handle = new_handle 0 6 6 3 20

abbrev pub six_root : Head
six_root = head 0 101 2 0 6 6 0

abbrev pub six_slots : Forest
six_slots =
    cons (sub (head 1 1 100 12 2 2 0) (pair 1 1 100 2))
    (cons (leaf 101 3) (gap 4 (cons (leaf 102 4) (gap 4 (cons (sub (head 2 10000 10001 16 2 2 0) (pair 10000 5 20000 6)) nil)))))

-- What is no Good memory, field by field: P1's store with one thing wrong, and for `deep` a store of its own.
-- fits: the last word of the slots is missing. What is seen is as before, since past the end every word is seen as 0
abbrev pub short_pools : Mem
short_pools = mem p1_pools.nodes (take 23 p1_pools.slots) p1_pools.used

-- root: the handle names record 1. Nothing else looks at it
abbrev pub wrong_root : Handle
wrong_root = new_handle 1 4 5 2 12

-- count: the handle counts 3 keys. 3 is no more than the capacity either
abbrev pub wrong_count : Handle
wrong_count = new_handle 0 3 5 2 12

-- image: record 1 is marked used, and no node is there; or a NULL slot, number 2, has a payload
abbrev pub stray_mark : Mem
stray_mark = mem p1_pools.nodes p1_pools.slots ((2 ^ 10 - 1) ∷ [])

abbrev pub stray_word : Mem
stray_word = mem p1_pools.nodes (set p1_pools.slots 5 9) p1_pools.used

-- okay: the key 30 stands in slot 5, in the tree and in the memory alike, where its slot is 6
abbrev pub wrong_slots : Forest
wrong_slots = cons (leaf 10 1) (cons (leaf 20 2) (gap 3 (cons (leaf 30 3) (gap 1 (cons (leaf 40 4) nil)))))

abbrev pub wrong_slot_pools : Mem
wrong_slot_pools = mem p1_pools.nodes (set (set (set (set p1_pools.slots 10 (2 ^ 48 + 30)) 11 3) 12 0) 13 0) p1_pools.used

-- deep: 25 nodes without a key, each but the first in slot 0 of the one above; record r has the slots from 4 r on. 25 records and 100 slots,
-- every one used
abbrev pub chain : ℕ → ℕ → Branch
chain zero r = null
chain (suc n) r = sub (head r 0 1 (r * 4) 0 0 0) (cons (chain n (r + 1)) (gap 3 nil))

abbrev pub chain_nodes : ℕ → ℕ → List ℕ
chain_nodes zero r = []
chain_nodes (suc n) r = 0 ∷ 1 ∷ 4 ∷ (r * 4) ∷ 0 ∷ 0 ∷ 0 ∷ 0 ∷ chain_nodes n (r + 1)

abbrev pub chain_slots : ℕ → ℕ → List ℕ
chain_slots zero r = replicate 8 0
chain_slots (suc n) r = (2 * 2 ^ 48 + (r + 1)) ∷ 0 ∷ 0 ∷ 0 ∷ 0 ∷ 0 ∷ 0 ∷ 0 ∷ chain_slots n (r + 1)

abbrev pub deep_handle : Handle
deep_handle = new_handle 0 0 1 25 100

abbrev pub deep_pools : Mem
deep_pools = mem (chain_nodes 25 0) (chain_slots 24 0) ((2 ^ 64 - 1) ∷ (2 ^ 61 - 1) ∷ [])

abbrev pub deep_root : Head
deep_root = head 0 0 1 0 0 0 0

abbrev pub deep_slots : Forest
deep_slots = cons (chain 24 1) (gap 3 nil)

-- words: the map's word has a 65th bit, which belongs to no place
abbrev pub wide_map : Mem
wide_map = mem p1_pools.nodes p1_pools.slots ((2 ^ 64 + (2 ^ 10 - 3)) ∷ [])
