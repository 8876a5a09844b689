-- The lent pools as lists of words (docs/MEMORY.md): 8 words a node record, 2 words a slot, a bit a place in the map of used
-- places, records first. Definitions only.
use Rattle.std.specs.Prelude.{List, ℕ, ◌+◌, ◌*◌, ◌/◌, length}
use Rattle.laws.specs.Keys.{key_bound}

pub record Mem : Type 0 where
  pub nodes : List ℕ
  pub slots : List ℕ
  pub used : List ℕ

abbrev pub mem : List ℕ → List ℕ → List ℕ → Mem
mem n s u = record { nodes = n; slots = s; used = u }

-- how many words a record and a slot take
abbrev pub record_words : ℕ
record_words = 8

abbrev pub slot_words : ℕ
slot_words = 2

-- how many records and slots the pools have
abbrev pub records_in : List ℕ → ℕ
records_in n = length n / record_words

abbrev pub slots_in : List ℕ → ℕ
slots_in s = length s / slot_words

-- the places of the map: record r is place r, slot q comes after all records
abbrev pub slot_place : List ℕ → ℕ → ℕ
slot_place n q = records_in n + q

-- the words of a record, in this order: lo, W, L, start, elements, built, conflicts, 0
abbrev pub lo_word : ℕ → ℕ
lo_word r = r * record_words

abbrev pub w_word : ℕ → ℕ
w_word r = r * record_words + 1

abbrev pub l_word : ℕ → ℕ
l_word r = r * record_words + 2

abbrev pub start_word : ℕ → ℕ
start_word r = r * record_words + 3

abbrev pub elements_word : ℕ → ℕ
elements_word r = r * record_words + 4

abbrev pub built_word : ℕ → ℕ
built_word r = r * record_words + 5

abbrev pub conflicts_word : ℕ → ℕ
conflicts_word r = r * record_words + 6

-- the words of a slot: kind and value in one, then the payload
abbrev pub kind_word : ℕ → ℕ
kind_word q = q * slot_words

abbrev pub payload_word : ℕ → ℕ
payload_word q = q * slot_words + 1

-- a kind and its value: kind x 2^48 + value
abbrev pub kind_unit : ℕ
kind_unit = key_bound

-- the kinds: NULL, a DATA slot with its key, a NODE slot with its child's record
abbrev pub null_kind : ℕ
null_kind = 0

abbrev pub data_kind : ℕ
data_kind = 1

abbrev pub node_kind : ℕ
node_kind = 2
