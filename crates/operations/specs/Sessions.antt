-- A whole session (document 01, "The session program"): all that is printed for all the bytes of the input, from the state and the
-- offset at which they are read. "An unknown kind or short body prints 'x' and the offset, from 0, of that kind byte, and ends."
-- Definitions only.
use Rattle.std.specs.Prelude.{Option, Some, None, List, [], ◌∷◌, ◌++◌, ℕ, zero, suc, ◌+◌, ◌*◌, leb, length, replicate, take, drop}
use Rattle.laws.specs.Pick.{pick}
use Rattle.lines.specs.Kinds.{kind_of}
use Rattle.lines.specs.Lines.{longest_line}
use Rattle.lines.specs.declared.Kind.{Kind}
use Rattle.pool.specs.Memory.{mem, record_words, slot_words}
use Rattle.rebuild.specs.Rebuilding.{scratch}
use Rattle.store.specs.Handles.{map_words}
use Rattle.store.specs.Calls.{Call}
use Rattle.store.specs.Loading.{load_of}
use Rattle.operations.specs.Printing.{end_line}
use Rattle.operations.specs.Stepping.{State, state, step_of}

-- by what the kind byte at offset o says, with the bytes bs after it: the lines of this operation, then those of what follows it
unfoldable pub by_kind : Option Kind → (ℕ → List ℕ → State → List ℕ) → ℕ → List ℕ → State → List ℕ
by_kind (Some k) rest o bs s =
    pick (leb k.length (length bs)) ((step_of k.operation (take k.length bs) s).lines ++ rest (o + 1 + k.length) (drop k.length bs) (step_of k.operation (take k.length bs) s).next) (end_line o)
by_kind None rest o bs s = end_line o

-- in at most f operations
unfoldable pub session_from : ℕ → ℕ → List ℕ → State → List ℕ
session_from zero o bs s = []
session_from (suc f) o [] s = []
session_from (suc f) o (k ∷ bs) s = by_kind (kind_of k) (session_from f) o bs s

-- every operation has a byte at least
unfoldable pub session : ℕ → List ℕ → State → List ℕ
session o bs s = session_from (length bs) o bs s

-- "It starts from an empty load with capacity 512, 256 records, 2,048 slots, and lists up to 64 per band"
abbrev pub capacity : ℕ
capacity = 512

abbrev pub records : ℕ
records = 256

abbrev pub slots : ℕ
slots = 2048

abbrev pub longest_list : ℕ
longest_list = 64

-- no answer takes more bytes: a first line and a line for each element
abbrev pub longest_answer : ℕ
longest_answer = longest_line + longest_line * longest_list

abbrev zeros : ℕ → List ℕ
zeros n = replicate n 0

abbrev after_load : Call → State
after_load l = state l.handle l.memory (scratch (zeros capacity) (zeros capacity) (zeros capacity)) (zeros longest_list) (zeros longest_list)

unfoldable pub start : State
start = after_load (load_of capacity [] [] (mem (zeros (records * record_words)) (zeros (slots * slot_words)) (zeros (map_words records slots))))

unfoldable pub session_of : List ℕ → List ℕ
session_of bs = session 0 bs start
