-- "For every input a public call's statement determines answer, handle and every lent byte. Show that any pair of results allowed by it
-- coincide" (document 01). Of each public call: what its contract allows, in the words of its `ensures`, with the result and every list
-- that it is lent for writing, as they are at the exit, in one record; and that any two such records are the same. A list that is lent
-- for reading alone has no exit of its own: nobody can write to it. The proof is proofs/Coincide; that a call's contract is what is quoted
-- of it is proved in crates/quoted.
use Rattle.std.specs.Prelude.{List, ◌≡◌, ℕ, ℤ, Result}
use Rattle.delete.specs.Deleting.{delete_of}
use Rattle.desk.specs.Passing.{pass_sounding, pass_load, load, pass_looked, pass_change, change, pass_band, listing, pass_insert, insertion as desk_insertion}
use Rattle.desk.specs.declared.ChangedAnswer.{ChangedAnswer}
use Rattle.desk.specs.declared.InsertedAnswer.{InsertedAnswer}
use Rattle.desk.specs.declared.ListedAnswer.{ListedAnswer}
use Rattle.desk.specs.declared.LoadedAnswer.{LoadedAnswer}
use Rattle.desk.specs.declared.LookedAnswer.{LookedAnswer}
use Rattle.desk.specs.declared.SoundingAnswer.{SoundingAnswer}
use Rattle.edge.specs.Passing.{pass_key, pass_slot, pass_model}
use Rattle.edge.specs.declared.KeyAnswer.{KeyAnswer}
use Rattle.edge.specs.declared.ModelAnswer.{ModelAnswer}
use Rattle.edge.specs.declared.SlotAnswer.{SlotAnswer}
use Rattle.insert.specs.Inserting.{insertion, inserted, insert_of}
use Rattle.insert.specs.declared.Inserted.{Inserted}
use Rattle.laws.specs.declared.Refusal.{Refusal}
use Rattle.model.specs.Choice.{model_choice, chosen}
use Rattle.model.specs.Slots.{slot_choice, slotted}
use Rattle.model.specs.declared.Choice.{Choice}
use Rattle.model.specs.declared.Model.{Model}
use Rattle.pool.specs.Memory.{mem}
use Rattle.rebuild.specs.Rebuilding.{scratch}
use Rattle.sounding.specs.Studio.{pack_of, packed, unpack_of, unpacked}
use Rattle.sounding.specs.declared.OutOfRange.{OutOfRange}
use Rattle.sounding.specs.declared.Sounding.{Sounding}
use Rattle.store.specs.Bands.{band, band_of, listed}
use Rattle.store.specs.Calls.{call, lookup_of, replace_of, looked, changed}
use Rattle.store.specs.Loading.{load_of, loaded}
use Rattle.store.specs.declared.Changing.{Changing}
use Rattle.store.specs.declared.Handle.{Handle}
use Rattle.listing.specs.declared.Listed.{Listed}
use Rattle.store.specs.declared.Looked.{Looked}

-- what is left at a call's exit: its result r of type R, and every list that it was lent for writing
pub record WithPools (R : Type 0) : Type 0 where
  pub r : R
  pub nodes : List ℕ
  pub slots : List ℕ
  pub used : List ℕ

pub record WithSlots (R : Type 0) : Type 0 where
  pub r : R
  pub slots : List ℕ

pub record WithOutput (R : Type 0) : Type 0 where
  pub r : R
  pub keys : List ℕ
  pub payloads : List ℕ

pub record WithScratch (R : Type 0) : Type 0 where
  pub r : R
  pub nodes : List ℕ
  pub slots : List ℕ
  pub used : List ℕ
  pub keys : List ℕ
  pub payloads : List ℕ
  pub places : List ℕ

-- of the exits that a contract allows, any two coincide
abbrev pub One : {X : Type 0} → (X → Type 0) → Type 0
One {X} allowed = (x y : X) → allowed x → allowed y → x ≡ y

-- what the contracts of the calls in Rattle allow
abbrev pub Pack : ℤ → ℕ → Result ℕ OutOfRange → Type 0
Pack depth number r = packed r ≡ pack_of depth number

abbrev pub Unpack : ℕ → Result Sounding OutOfRange → Type 0
Unpack key r = unpacked r ≡ unpack_of key

abbrev pub SlotChoice : ℕ → Model → Result ℕ Refusal → Type 0
SlotChoice key m r = slotted r ≡ slot_choice key m

abbrev pub ModelChoice : List ℕ → Result Choice Refusal → Type 0
ModelChoice bytes r = chosen r ≡ model_choice bytes

abbrev pub Load : ℕ → List ℕ → List ℕ → List ℕ → List ℕ → List ℕ → WithPools (Result Handle Refusal) → Type 0
Load capacity keys payloads nodes slots used exit =
    loaded exit.r (mem exit.nodes exit.slots exit.used) ≡ load_of capacity keys payloads (mem nodes slots used)

abbrev pub Lookup : Handle → ℕ → List ℕ → List ℕ → List ℕ → Result Looked Refusal → Type 0
Lookup h key nodes slots used r = looked r ≡ lookup_of h key (mem nodes slots used)

abbrev pub Replace : Handle → ℕ → ℕ → List ℕ → List ℕ → List ℕ → WithSlots (Changing (Unit {0})) → Type 0
Replace h key payload nodes slots used exit =
    call (changed exit.r.answer) exit.r.handle (mem nodes exit.slots used) ≡ replace_of h key payload (mem nodes slots used)

abbrev pub Delete : Handle → ℕ → List ℕ → List ℕ → List ℕ → WithSlots (Changing (Unit {0})) → Type 0
Delete h key nodes slots used exit =
    call (changed exit.r.answer) exit.r.handle (mem nodes exit.slots used) ≡ delete_of h key (mem nodes slots used)

abbrev pub Band : Handle → ℕ → ℕ → List ℕ → List ℕ → List ℕ → List ℕ → List ℕ → WithOutput (Result Listed Refusal) → Type 0
Band h u v nodes slots used keys payloads exit =
    band (listed exit.r) exit.keys exit.payloads ≡ band_of h u v (mem nodes slots used) keys payloads

abbrev pub Insert : Handle → ℕ → ℕ → List ℕ → List ℕ → List ℕ → List ℕ → List ℕ → List ℕ → WithScratch (Changing Inserted) → Type 0
Insert h key payload nodes slots used keys payloads places exit =
    insertion (inserted exit.r.answer) exit.r.handle (mem exit.nodes exit.slots exit.used) (scratch exit.keys exit.payloads exit.places)
    ≡ insert_of h key payload (mem nodes slots used) (scratch keys payloads places)

-- and those of the engine's C library
abbrev pub EdgePack : ℤ → ℕ → KeyAnswer → Type 0
EdgePack depth number r = r ≡ pass_key (pack_of depth number)

abbrev pub EdgeSlotChoice : ℕ → ℕ → ℕ → ℕ → SlotAnswer → Type 0
EdgeSlotChoice key lo w l r = r ≡ pass_slot (slot_choice key (record { lo = lo; w = w; l = l }))

abbrev pub EdgeModelChoice : List ℕ → ModelAnswer → Type 0
EdgeModelChoice keys r = r ≡ pass_model (model_choice keys)

-- and those of the desk library
abbrev pub DeskUnpack : ℕ → SoundingAnswer → Type 0
DeskUnpack key r = r ≡ pass_sounding (unpack_of key)

abbrev pub DeskLoad : ℕ → List ℕ → List ℕ → List ℕ → List ℕ → List ℕ → WithPools LoadedAnswer → Type 0
DeskLoad capacity keys payloads nodes slots used exit =
    load exit.r (mem exit.nodes exit.slots exit.used) ≡ pass_load (load_of capacity keys payloads (mem nodes slots used))

abbrev pub DeskLookup : Handle → ℕ → List ℕ → List ℕ → List ℕ → LookedAnswer → Type 0
DeskLookup h key nodes slots used r = r ≡ pass_looked (lookup_of h key (mem nodes slots used))

abbrev pub DeskReplace : Handle → ℕ → ℕ → List ℕ → List ℕ → List ℕ → WithSlots ChangedAnswer → Type 0
DeskReplace h key payload nodes slots used exit =
    change exit.r (mem nodes exit.slots used) ≡ pass_change (replace_of h key payload (mem nodes slots used))

abbrev pub DeskDelete : Handle → ℕ → List ℕ → List ℕ → List ℕ → WithSlots ChangedAnswer → Type 0
DeskDelete h key nodes slots used exit =
    change exit.r (mem nodes exit.slots used) ≡ pass_change (delete_of h key (mem nodes slots used))

abbrev pub DeskBand : Handle → ℕ → ℕ → List ℕ → List ℕ → List ℕ → List ℕ → List ℕ → WithOutput ListedAnswer → Type 0
DeskBand h u v nodes slots used keys payloads exit =
    listing exit.r exit.keys exit.payloads ≡ pass_band (band_of h u v (mem nodes slots used) keys payloads)

abbrev pub DeskInsert : Handle → ℕ → ℕ → List ℕ → List ℕ → List ℕ → List ℕ → List ℕ → List ℕ → WithScratch InsertedAnswer → Type 0
DeskInsert h key payload nodes slots used keys payloads places exit =
    desk_insertion exit.r (mem exit.nodes exit.slots exit.used) (scratch exit.keys exit.payloads exit.places)
    ≡ pass_insert (insert_of h key payload (mem nodes slots used) (scratch keys payloads places))

-- the statement, call by call, for every input
pub record Coincide : Type 0 where
  pub pack : (depth : ℤ) (number : ℕ) → One (Pack depth number)
  pub unpack : (key : ℕ) → One (Unpack key)
  pub slot-choice : (key : ℕ) (m : Model) → One (SlotChoice key m)
  pub model-choice : (bytes : List ℕ) → One (ModelChoice bytes)
  pub load : (capacity : ℕ) (keys payloads nodes slots used : List ℕ) → One (Load capacity keys payloads nodes slots used)
  pub lookup : (h : Handle) (key : ℕ) (nodes slots used : List ℕ) → One (Lookup h key nodes slots used)
  pub replace : (h : Handle) (key payload : ℕ) (nodes slots used : List ℕ) → One (Replace h key payload nodes slots used)
  pub delete : (h : Handle) (key : ℕ) (nodes slots used : List ℕ) → One (Delete h key nodes slots used)
  pub band : (h : Handle) (u v : ℕ) (nodes slots used keys payloads : List ℕ) → One (Band h u v nodes slots used keys payloads)
  pub insert : (h : Handle) (key payload : ℕ) (nodes slots used keys payloads places : List ℕ)
      → One (Insert h key payload nodes slots used keys payloads places)
  pub edge-pack : (depth : ℤ) (number : ℕ) → One (EdgePack depth number)
  pub edge_slot_choice : (key lo w l : ℕ) → One (EdgeSlotChoice key lo w l)
  pub edge_model_choice : (keys : List ℕ) → One (EdgeModelChoice keys)
  pub desk_unpack : (key : ℕ) → One (DeskUnpack key)
  pub desk_load : (capacity : ℕ) (keys payloads nodes slots used : List ℕ) → One (DeskLoad capacity keys payloads nodes slots used)
  pub desk_lookup : (h : Handle) (key : ℕ) (nodes slots used : List ℕ) → One (DeskLookup h key nodes slots used)
  pub desk_replace : (h : Handle) (key payload : ℕ) (nodes slots used : List ℕ) → One (DeskReplace h key payload nodes slots used)
  pub desk_delete : (h : Handle) (key : ℕ) (nodes slots used : List ℕ) → One (DeskDelete h key nodes slots used)
  pub desk_band : (h : Handle) (u v : ℕ) (nodes slots used keys payloads : List ℕ) → One (DeskBand h u v nodes slots used keys payloads)
  pub desk_insert : (h : Handle) (key payload : ℕ) (nodes slots used keys payloads places : List ℕ)
      → One (DeskInsert h key payload nodes slots used keys payloads places)
