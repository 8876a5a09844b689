-- Demand 1: "Every call ends safely on all inputs. It checks for itself and refuses by document 01's numbers, in its order. A refusal
-- changes no byte of what was lent (scratch only as document 01 says)."
--
-- That a call ends, reads nothing out of range, lets no sum wrap and loses no bit is asked of every function before it is admitted, and
-- no public call has a `requires`: it is called on all inputs, and checks for itself (crates/quoted calls each with nothing known). What is
-- left to say is said here of the definitions that the contracts of the calls equate with what they return and leave, for every input,
-- damaged memory included: the numbers of the answers, the order of the causes (Refusals), what a refusal leaves, and what becomes of
-- scratch. The proof is proofs/Demand1.
use Rattle.std.specs.Prelude.{Bool, true, false, ◌&&◌, ◌||◌, List, [], ◌∷◌, ◌++◌, ◌≡◌, ℕ, leb, eqb, ℤ, length, get_or, drop, replicate}
use Rattle.demands.specs.Refusals.{Cause, GoesBy, OneOf, pack_causes, unpack_causes, slot_causes, model_causes, load_causes, search_causes, delete_causes, band_causes, insert_causes, path_to, too_deep, rebuilt_at}
use Rattle.delete.specs.Deleting.{delete_of}
use Rattle.desk.specs.Passing.{pass_sounding, pass_load, pass_looked, pass_change, pass_band, pass_insert}
use Rattle.edge.specs.Passing.{pass_key, pass_slot, pass_model}
use Rattle.insert.specs.Inserting.{Insert, insert_of}
use Rattle.laws.specs.Answers.{Answer, no_room}
use Rattle.model.specs.Choice.{model_choice}
use Rattle.model.specs.Slots.{slot_choice}
use Rattle.model.specs.declared.Model.{Model}
use Rattle.pool.specs.Memory.{Mem}
use Rattle.rebuild.specs.Rebuilding.{Scratch, scratch, keys_with}
use Rattle.sounding.specs.Studio.{pack_of, unpack_of}
use Rattle.sounding.specs.declared.Sounding.{Sounding}
use Rattle.store.specs.Bands.{Band, band_of}
use Rattle.store.specs.Calls.{Call, lookup_of, replace_of}
use Rattle.store.specs.Handles.{no_handle}
use Rattle.store.specs.Loading.{load_of}
use Rattle.store.specs.declared.Handle.{Handle}
use Rattle.walk.specs.Walks.{Walk}

-- the answer has one of these numbers, and goes by these causes, in their order
pub record Answers {A : Type 0} (numbers : List ℕ) (causes : List (Cause A)) (a : Answer A) : Type 0 where
  pub number : OneOf a.number numbers
  pub order : GoesBy causes a

-- "It checks for itself and refuses by document 01's numbers, in its order."
pub record Refuses : Type 0 where
  pub pack : (depth : ℤ) (number : ℕ) → Answers (0 ∷ 2 ∷ []) (pack_causes depth number) (pack_of depth number)
  pub unpack : (key : ℕ) → Answers (0 ∷ 2 ∷ []) (unpack_causes key) (unpack_of key)
  pub slot-choice : (key : ℕ) (m : Model) → Answers (0 ∷ 2 ∷ 9 ∷ []) (slot_causes key m) (slot_choice key m)
  pub model-choice : (bytes : List ℕ) → Answers (0 ∷ 1 ∷ 4 ∷ []) (model_causes bytes) (model_choice bytes)
  pub load : (capacity : ℕ) (keys payloads : List ℕ) (m : Mem)
      → Answers (0 ∷ 1 ∷ 2 ∷ 4 ∷ 7 ∷ 8 ∷ []) (load_causes capacity keys payloads m) (load_of capacity keys payloads m).answer
  pub lookup : (h : Handle) (key : ℕ) (m : Mem) → Answers (0 ∷ 1 ∷ 2 ∷ 6 ∷ 9 ∷ []) (search_causes h key m) (lookup_of h key m)
  pub replace : (h : Handle) (key payload : ℕ) (m : Mem)
      → Answers (0 ∷ 1 ∷ 2 ∷ 6 ∷ 9 ∷ []) (search_causes h key m) (replace_of h key payload m).answer
  pub delete : (h : Handle) (key : ℕ) (m : Mem) → Answers (0 ∷ 1 ∷ 2 ∷ 6 ∷ 9 ∷ []) (delete_causes h key m) (delete_of h key m).answer
  pub band : (h : Handle) (u v : ℕ) (m : Mem) (keys payloads : List ℕ)
      → Answers (0 ∷ 1 ∷ 2 ∷ 3 ∷ 9 ∷ []) (band_causes h u v m keys payloads) (band_of h u v m keys payloads).answer
  pub insert : (h : Handle) (key payload : ℕ) (m : Mem) (s : Scratch)
      → Answers (0 ∷ 1 ∷ 2 ∷ 5 ∷ 7 ∷ 8 ∷ 9 ∷ []) (insert_causes h key payload m s) (insert_of h key payload m s).answer

-- the number is not 0
abbrev pub Refused : {A : Type 0} → Answer A → Type 0
Refused a = a.number ≡ 0 → ⊥

-- "A refusal changes no byte of what was lent": neither the handle nor a word of the memory; of a band, no word of its output
abbrev pub Keeps : Handle → Mem → Call → Type 0
Keeps h m x = Refused x.answer → (x.handle ≡ h) × (x.memory ≡ m)

abbrev pub KeepsAll : Handle → Mem → Insert → Type 0
KeepsAll h m x = Refused x.answer → (x.handle ≡ h) × (x.memory ≡ m)

abbrev pub KeepsOutput : List ℕ → List ℕ → Band → Type 0
KeepsOutput keys payloads x = Refused x.answer → (x.keys ≡ keys) × (x.payloads ≡ payloads)

-- "Output past that number is untouched", refused or not: past as many as the answer says
abbrev pub KeepsPast : List ℕ → List ℕ → Band → Type 0
KeepsPast keys payloads x =
    (drop (get_or x.answer.values 0 0) x.keys ≡ drop (get_or x.answer.values 0 0) keys)
    × (drop (get_or x.answer.values 0 0) x.payloads ≡ drop (get_or x.answer.values 0 0) payloads)

-- lookup is lent nothing to write; neither is band but for its output; a refused load gives zeros for its handle
pub record ChangesNothing : Type 0 where
  pub load : (capacity : ℕ) (keys payloads : List ℕ) (m : Mem) → Keeps no_handle m (load_of capacity keys payloads m)
  pub replace : (h : Handle) (key payload : ℕ) (m : Mem) → Keeps h m (replace_of h key payload m)
  pub delete : (h : Handle) (key : ℕ) (m : Mem) → Keeps h m (delete_of h key m)
  pub band : (h : Handle) (u v : ℕ) (m : Mem) (keys payloads : List ℕ) → KeepsOutput keys payloads (band_of h u v m keys payloads)
  pub past : (h : Handle) (u v : ℕ) (m : Mem) (keys payloads : List ℕ) → KeepsPast keys payloads (band_of h u v m keys payloads)
  pub insert : (h : Handle) (key payload : ℕ) (m : Mem) (s : Scratch) → KeepsAll h m (insert_of h key payload m s)

-- "(scratch only as document 01 says)": was a rebuild tried? The answer tells: 0 with tidying 1, 2 or 3, or 8 where the path was too deep
abbrev pub tried : Walk → Answer ℕ → Bool
tried w a = eqb a.number 0 && leb 1 (get_or a.values 1 0) || eqb a.number no_room && too_deep w

-- over how many keys: the live ones of the subtree to be rebuilt, and the new one
abbrev pub tried_over : Handle → ℕ → Mem → Walk → ℕ
tried_over h k m w = length (keys_with h.capacity k (rebuilt_at m w) (get_or w.path (rebuilt_at m w) 0) m)

-- "the first m scratch places zero, the rest untouched"
abbrev pub zeros : ℕ → List ℕ → List ℕ
zeros n l = replicate n 0 ++ drop n l

abbrev pub zeroed : ℕ → Scratch → Scratch
zeroed n s = scratch (zeros n s.keys) (zeros n s.payloads) (zeros n s.places)

pub record ScratchAsSaid : Type 0 where
  -- "A rebuild tried over m keys, done, put off or refused with 8, leaves the first m scratch places zero, the rest untouched."
  pub rebuilt : (h : Handle) (key payload : ℕ) (m : Mem) (s : Scratch) → tried (path_to h key m) (insert_of h key payload m s).answer ≡ true
      → (insert_of h key payload m s).scratch ≡ zeroed (tried_over h key m (path_to h key m)) s
  -- "Nothing else touches scratch, an 8 for the two-key node included."
  pub untouched : (h : Handle) (key payload : ℕ) (m : Mem) (s : Scratch) → tried (path_to h key m) (insert_of h key payload m s).answer ≡ false
      → (insert_of h key payload m s).scratch ≡ s

-- The C libraries pass on number, handle and every lent word as they are, so all this holds of their functions too.
pub record PassesOn : Type 0 where
  pub pack : (a : Answer ℕ) → (pass_key a).number ≡ a.number
  pub slot-choice : (a : Answer ℕ) → (pass_slot a).number ≡ a.number
  pub model-choice : (a : Answer ℕ) → (pass_model a).number ≡ a.number
  pub unpack : (a : Answer Sounding) → (pass_sounding a).number ≡ a.number
  pub lookup : (a : Answer ℕ) → (pass_looked a).number ≡ a.number
  pub load : (x : Call) → ((pass_load x).answer.number ≡ x.answer.number) × ((pass_load x).answer.handle ≡ x.handle) × ((pass_load x).memory ≡ x.memory)
  pub change : (x : Call) → ((pass_change x).answer.number ≡ x.answer.number) × ((pass_change x).answer.handle ≡ x.handle) × ((pass_change x).memory ≡ x.memory)
  pub band : (x : Band) → ((pass_band x).answer.number ≡ x.answer.number) × ((pass_band x).keys ≡ x.keys) × ((pass_band x).payloads ≡ x.payloads)
  pub insert : (x : Insert)
      → ((pass_insert x).answer.number ≡ x.answer.number) × ((pass_insert x).answer.handle ≡ x.handle) × ((pass_insert x).memory ≡ x.memory)
      × ((pass_insert x).scratch ≡ x.scratch)

pub record Demand1 : Type 0 where
  pub refuses : Refuses
  pub changes_nothing : ChangesNothing
  pub scratch_as_said : ScratchAsSaid
  pub passes_on : PassesOn
