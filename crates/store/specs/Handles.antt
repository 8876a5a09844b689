-- The handle, the ways to make one, and when the lent pools are of the right sizes (document 01, "Sizes" and row 1 of the answers).
-- Every call that is given a handle tests the same; what is in a handle is written out here alone. Definitions only.
use Rattle.std.specs.Prelude.{Bool, ◌&&◌, ℕ, ◌+◌, ◌*◌, ◌/◌, leb, eqb, length}
use Rattle.model.specs.Choice.{most_keys}
use Rattle.pool.specs.Memory.{Mem, record_words, slot_words}
use Rattle.store.specs.declared.Handle.{Handle}

abbrev pub new_handle : (root count capacity records slots : ℕ) → Handle
new_handle root count capacity records slots = record { root = root; count = count; capacity = capacity; records = records; slots = slots }

-- the same store under another root, and with another count of keys
abbrev pub with_root : ℕ → Handle → Handle
with_root root h = new_handle root h.count h.capacity h.records h.slots

abbrev pub with_count : ℕ → Handle → Handle
with_count count h = new_handle h.root count h.capacity h.records h.slots

-- the handle that a refused load gives
abbrev pub no_handle : Handle
no_handle = new_handle 0 0 0 0 0

-- "capacity 1 to 16,384 keys; node records 1 to 16,384; slots 4 to 131,072"
abbrev pub least_capacity : ℕ
least_capacity = 1

abbrev pub most_capacity : ℕ
most_capacity = most_keys

abbrev pub least_records : ℕ
least_records = 1

abbrev pub most_records : ℕ
most_records = 16384

abbrev pub least_pool_slots : ℕ
least_pool_slots = 4

abbrev pub most_pool_slots : ℕ
most_pool_slots = 131072

abbrev pub within : ℕ → ℕ → ℕ → Bool
within least most x = leb least x && leb x most

-- the words of the map of used places: a bit for every record and every slot, 64 a word
abbrev pub map_words : ℕ → ℕ → ℕ
map_words records slots = (records + slots + 63) / 64

-- the lent lists are those of so many records and slots, no word more or less
unfoldable pub pools_are : ℕ → ℕ → Mem → Bool
pools_are records slots m =
    eqb (length m.nodes) (records * record_words) && (eqb (length m.slots) (slots * slot_words) && eqb (length m.used) (map_words records slots))

-- the sizes themselves are within the limits
unfoldable pub limits_hold : ℕ → ℕ → ℕ → Bool
limits_hold capacity records slots =
    within least_capacity most_capacity capacity && (within least_records most_records records && within least_pool_slots most_pool_slots slots)

-- row 1 of the answers, for a call that is given a handle: nothing of it is wrong
unfoldable pub handle_fits : Handle → Mem → Bool
handle_fits h m =
    limits_hold h.capacity h.records h.slots && (pools_are h.records h.slots m && leb h.count h.capacity)
