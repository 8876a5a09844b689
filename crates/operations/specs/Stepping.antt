-- One operation of a session (document 01, "The session program"): its body is read, the call is made, and its answer printed. A
-- session's state is the handle, the pools, scratch and the lists into which a band is written. Definitions only.
use Rattle.std.specs.Prelude.{List, ℕ, drop}
use Rattle.delete.specs.Deleting.{delete_of}
use Rattle.insert.specs.Inserting.{Insert, insert_of}
use Rattle.laws.specs.Bytes.{little_endian, key_bytes}
use Rattle.lines.specs.Kinds.{payload_bytes}
use Rattle.lines.specs.Lines.{Text, write}
use Rattle.lines.specs.declared.Operation.{Operation}
use Rattle.lines.specs.declared.Operation.TheVariants.{Insert as Inserts, Delete, Lookup, Band as Lists, Replace}
use Rattle.pool.specs.Memory.{Mem}
use Rattle.rebuild.specs.Rebuilding.{Scratch}
use Rattle.store.specs.Bands.{Band, band_of}
use Rattle.store.specs.Calls.{Call, lookup_of, replace_of}
use Rattle.store.specs.declared.Handle.{Handle}
use Rattle.operations.specs.Printing.{answer_line, band_lines}

pub record State : Type 0 where
  pub handle : Handle
  pub memory : Mem
  pub scratch : Scratch
  pub keys : List ℕ
  pub payloads : List ℕ

abbrev pub state : Handle → Mem → Scratch → List ℕ → List ℕ → State
state h m s ks ps = record { handle = h; memory = m; scratch = s; keys = ks; payloads = ps }

-- what an operation leaves: the next state and what is printed
pub record Step : Type 0 where
  pub next : State
  pub lines : List ℕ

abbrev pub step : State → List ℕ → Step
step s l = record { next = s; lines = l }

-- "Numbers are little-endian; keys 6 bytes, payloads 8"
abbrev pub first_key : List ℕ → ℕ
first_key body = little_endian key_bytes body

abbrev pub second_key : List ℕ → ℕ
second_key body = little_endian key_bytes (drop key_bytes body)

abbrev pub payload : List ℕ → ℕ
payload body = little_endian payload_bytes (drop key_bytes body)

abbrev pub after_insert : State → Insert → Step
after_insert s i = step (state i.handle i.memory i.scratch s.keys s.payloads) (answer_line 1 i.answer)

abbrev pub after_call : ℕ → State → Call → Step
after_call kind s c = step (state c.handle c.memory s.scratch s.keys s.payloads) (answer_line kind c.answer)

abbrev pub after_band : State → Band → Step
after_band s b = step (state s.handle s.memory s.scratch b.keys b.payloads) (band_lines b)

unfoldable pub step_of : Operation → List ℕ → State → Step
step_of Inserts body s = after_insert s (insert_of s.handle (first_key body) (payload body) s.memory s.scratch)
step_of Delete body s = after_call 2 s (delete_of s.handle (first_key body) s.memory)
step_of Lookup body s = step s (answer_line 3 (lookup_of s.handle (first_key body) s.memory))
step_of Lists body s = after_band s (band_of s.handle (first_key body) (second_key body) s.memory s.keys s.payloads)
step_of Replace body s = after_call 5 s (replace_of s.handle (first_key body) (payload body) s.memory)

-- the state and the text that a step leaves, its lines written
pub record Stepped : Type 0 where
  pub next : State
  pub text : Text

abbrev pub stepped : State → Text → Stepped
stepped s t = record { next = s; text = t }

abbrev pub write_step : Step → Text → Stepped
write_step x t = stepped x.next (write t x.lines)
