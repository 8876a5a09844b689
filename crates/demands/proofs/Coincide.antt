-- Any two exits that a contract allows coincide. One argument for every call: what a contract equates with its definition tells the whole
-- exit, so two exits that are equated with the same are the same (`at_most_one`). That it tells the whole exit is shown by a way back:
-- from what is told to the exit (`told`). Assumes nothing.
use mathlib.Core.List.{List}
use mathlib.Core.Path.{◌≡◌, refl, sym, ap, ◌∙◌}
use Prim.Native.Nat.{ℕ}
use lib.Dec.{eqb}
use lib.ListN.{get_or}
use Rattle.demands.specs.Coincide.{WithPools, WithSlots, WithOutput, WithScratch, One, Coincide}
use Rattle.desk.specs.Passing.{Load, Change, Listing, Insertion, load, change, listing, insertion as desk_insertion}
use Rattle.desk.specs.declared.ChangedAnswer.{ChangedAnswer}
use Rattle.desk.specs.declared.InsertedAnswer.{InsertedAnswer}
use Rattle.desk.specs.declared.ListedAnswer.{ListedAnswer}
use Rattle.desk.specs.declared.LoadedAnswer.{LoadedAnswer}
use Rattle.insert.specs.Inserting.{Insert, insertion, inserted, tidying_number}
use Rattle.insert.specs.declared.Inserted.{Inserted}
use Rattle.insert.specs.declared.Tidying.{Tidying}
use Rattle.insert.specs.declared.Tidying.TheVariants.{NotDue, Tidied, PutOff, WholeTree}
use Rattle.laws.specs.Answers.{Answer, as_number}
use Rattle.laws.specs.Pick.{pick}
use Rattle.model.proofs.Answering.{slotted-one, chosen-one}
use Rattle.model.specs.Choice.{chosen}
use Rattle.model.specs.Slots.{slotted}
use Rattle.pool.specs.Memory.{Mem, mem}
use Rattle.rebuild.specs.Rebuilding.{scratch}
use Rattle.sounding.proofs.Determined.{packed_injective, unpacked_injective}
use Rattle.sounding.specs.Studio.{packed, unpacked}
use Rattle.store.specs.Bands.{Band, band, listed}
use Rattle.store.specs.Calls.{Call, call, looked, changed}
use Rattle.store.specs.Loading.{loaded}
use Rattle.store.specs.declared.Changing.{Changing}
use Rattle.store.specs.declared.Handle.{Handle}
use Rattle.listing.specs.declared.Listed.{Listed}
use Rattle.std.specs.Prelude.{Bool, true, false, Result, Ok, Err}
use Rattle.laws.proofs.Refusals.{refusal_in, back-refused}
use Rattle.laws.specs.declared.Refusal.{Refusal}
use Rattle.store.specs.declared.Looked.{Looked}

-- The argument. What is told of an exit is told of that exit alone: then it coincides with every other that tells the same.
abbrev pub Injective : {X Y : Type 0} → (X → Y) → Type 0
Injective {X} tell = (x y : X) → tell x ≡ tell y → x ≡ y

pub at_most_one : {X Y : Type 0} (tell : X → Y) → Injective tell → (whole : Y) → One (λ (x : X). tell x ≡ whole)
at_most_one tell one whole x y p q = one x y (p ∙ sym q)

pub told : {X Y : Type 0} (tell : X → Y) (back : Y → X) → ((x : X) → back (tell x) ≡ x) → Injective tell
told tell back same x y e = sym (same x) ∙ ap back e ∙ same y

pub itself : {X : Type 0} → Injective (λ (x : X). x)
itself x y e = e

-- From an answer back to the case of the code's enum: by its number, with what is returned besides.
back_looked : Answer ℕ → Result Looked Refusal
back_looked a = pick (eqb a.number 0) (Ok (record { payload = get_or a.values 0 0; visits = get_or a.values 1 0 })) (Err (refusal_in a))

looked_back : (r : Result Looked Refusal) → back_looked (looked r) ≡ r
unfolding looked back_looked
looked_back (Ok l) = refl
looked_back (Err e) = back-refused _ e

pub looked_injective : Injective looked
looked_injective = told looked back_looked looked_back

back_changed : Answer ℕ → Result (Unit {0}) Refusal
back_changed a = pick (eqb a.number 0) (Ok tt) (Err (refusal_in a))

changed_back : (r : Result (Unit {0}) Refusal) → back_changed (changed r) ≡ r
unfolding changed back_changed
changed_back (Ok u) = refl
changed_back (Err e) = back-refused _ e

-- the number of a thing that is so or not, read back
so_back : (b : Bool) → eqb (as_number b) 1 ≡ b
so_back true = refl
so_back false = refl

back_listed : Answer ℕ → Result Listed Refusal
back_listed a = pick (eqb a.number 0) (Ok (record { count = get_or a.values 0 0; more = eqb (get_or a.values 1 0) 1 })) (Err (refusal_in a))

listed_back : (r : Result Listed Refusal) → back_listed (listed r) ≡ r
unfolding listed back_listed
listed_back (Ok l) = ap (λ (b : Bool). Ok (record { count = l.count; more = b })) (so_back l.more)
listed_back (Err e) = back-refused _ e

tidying_in : ℕ → Tidying
tidying_in n = pick (eqb n 0) NotDue (pick (eqb n 1) Tidied (pick (eqb n 2) PutOff WholeTree))

tidying_back : (t : Tidying) → tidying_in (tidying_number t) ≡ t
unfolding tidying_in
tidying_back NotDue = refl
tidying_back Tidied = refl
tidying_back PutOff = refl
tidying_back WholeTree = refl

back_inserted : Answer ℕ → Result Inserted Refusal
back_inserted a =
    pick (eqb a.number 0) (Ok (record { conflict = eqb (get_or a.values 0 0) 1; tidying = tidying_in (get_or a.values 1 0) })) (Err (refusal_in a))

inserted_back : (r : Result Inserted Refusal) → back_inserted (inserted r) ≡ r
unfolding inserted back_inserted
inserted_back (Ok d) =
    ap (λ (b : Bool). Ok (record { conflict = b; tidying = tidying_in (tidying_number d.tidying) })) (so_back d.conflict)
    ∙ ap (λ (t : Tidying). Ok (record { conflict = d.conflict; tidying = t })) (tidying_back d.tidying)
inserted_back (Err e) = back-refused _ e

-- a load that is done tells its handle
back_loaded : Answer ℕ → Handle → Result Handle Refusal
back_loaded a h = pick (eqb a.number 0) (Ok h) (Err (refusal_in a))

loaded_back : (r : Result Handle Refusal) (m : Mem) → back_loaded (loaded r m).answer (loaded r m).handle ≡ r
unfolding loaded back_loaded
loaded_back (Ok h) m = refl
loaded_back (Err e) m = back-refused _ e

loaded-memory : (r : Result Handle Refusal) (m : Mem) → (loaded r m).memory ≡ m
unfolding loaded
loaded-memory (Ok h) m = refl
loaded-memory (Err e) m = refl

-- What the contract of each call tells of its exit, and the way back.
tell_load : WithPools (Result Handle Refusal) → Call
tell_load x = loaded x.r (mem x.nodes x.slots x.used)

load_told : Injective tell_load
unfolding tell_load
load_told = told tell_load (λ (c : Call). record { r = back_loaded c.answer c.handle; nodes = c.memory.nodes; slots = c.memory.slots; used = c.memory.used }) same
  where
    same : (x : WithPools (Result Handle Refusal)) → record { r = back_loaded (tell_load x).answer (tell_load x).handle; nodes = (tell_load x).memory.nodes; slots = (tell_load x).memory.slots; used = (tell_load x).memory.used } ≡ x
    same x =
        let m = mem x.nodes x.slots x.used in
        let e = loaded_back x.r m in
        let f = loaded-memory x.r m in
        λ i. record { r = e i; nodes = (f i).nodes; slots = (f i).slots; used = (f i).used }

-- replace and delete tell the same
module _ (nodes used : List ℕ) where
  tell_change : WithSlots (Changing (Unit {0})) → Call
  tell_change x = call (changed x.r.answer) x.r.handle (mem nodes x.slots used)

  change-told : Injective tell_change
  unfolding tell_change
  change-told = told tell_change (λ (c : Call). record { r = record { answer = back_changed c.answer; handle = c.handle }; slots = c.memory.slots }) same
    where
      same : (x : WithSlots (Changing (Unit {0}))) → record { r = record { answer = back_changed (changed x.r.answer); handle = x.r.handle }; slots = x.slots } ≡ x
      same x = let e = changed_back x.r.answer in λ i. record { r = record { answer = e i; handle = x.r.handle }; slots = x.slots }

tell_band : WithOutput (Result Listed Refusal) → Band
tell_band x = band (listed x.r) x.keys x.payloads

band-told : Injective tell_band
unfolding tell_band
band-told = told tell_band (λ (b : Band). record { r = back_listed b.answer; keys = b.keys; payloads = b.payloads }) same
  where
    same : (x : WithOutput (Result Listed Refusal)) → record { r = back_listed (listed x.r); keys = x.keys; payloads = x.payloads } ≡ x
    same x = let e = listed_back x.r in λ i. record { r = e i; keys = x.keys; payloads = x.payloads }

tell_insert : WithScratch (Changing Inserted) → Insert
tell_insert x = insertion (inserted x.r.answer) x.r.handle (mem x.nodes x.slots x.used) (scratch x.keys x.payloads x.places)

back_insert : Insert → WithScratch (Changing Inserted)
back_insert i = record {
  r = record { answer = back_inserted i.answer; handle = i.handle };
  nodes = i.memory.nodes;
  slots = i.memory.slots;
  used = i.memory.used;
  keys = i.scratch.keys;
  payloads = i.scratch.payloads;
  places = i.scratch.places;
}

insert-told : Injective tell_insert
unfolding tell_insert back_insert
insert-told = told tell_insert back_insert same
  where
    same : (x : WithScratch (Changing Inserted)) → back_insert (tell_insert x) ≡ x
    same x =
        let e = inserted_back x.r.answer in
        λ i. record {
          r = record { answer = e i; handle = x.r.handle };
          nodes = x.nodes;
          slots = x.slots;
          used = x.used;
          keys = x.keys;
          payloads = x.payloads;
          places = x.places;
        }

-- the desk library's structs stand in what is told as they are
tell_desk_load : WithPools LoadedAnswer → Load
tell_desk_load x = load x.r (mem x.nodes x.slots x.used)

desk_load-told : Injective tell_desk_load
unfolding tell_desk_load
desk_load-told = told tell_desk_load (λ (l : Load). record { r = l.answer; nodes = l.memory.nodes; slots = l.memory.slots; used = l.memory.used }) (λ x. refl)

module _ (nodes used : List ℕ) where
  tell_desk_change : WithSlots ChangedAnswer → Change
  tell_desk_change x = change x.r (mem nodes x.slots used)

  desk_change-told : Injective tell_desk_change
  unfolding tell_desk_change
  desk_change-told = told tell_desk_change (λ (c : Change). record { r = c.answer; slots = c.memory.slots }) (λ x. refl)

tell_desk_band : WithOutput ListedAnswer → Listing
tell_desk_band x = listing x.r x.keys x.payloads

desk_band-told : Injective tell_desk_band
unfolding tell_desk_band
desk_band-told = told tell_desk_band (λ (l : Listing). record { r = l.answer; keys = l.keys; payloads = l.payloads }) (λ x. refl)

tell_desk_insert : WithScratch InsertedAnswer → Insertion
tell_desk_insert x = desk_insertion x.r (mem x.nodes x.slots x.used) (scratch x.keys x.payloads x.places)

back_desk_insert : Insertion → WithScratch InsertedAnswer
back_desk_insert i = record {
  r = i.answer;
  nodes = i.memory.nodes;
  slots = i.memory.slots;
  used = i.memory.used;
  keys = i.scratch.keys;
  payloads = i.scratch.payloads;
  places = i.scratch.places;
}

desk_insert-told : Injective tell_desk_insert
unfolding tell_desk_insert back_desk_insert
desk_insert-told = told tell_desk_insert back_desk_insert (λ x. refl)

-- The theorem.
pub coincide : Coincide
unfolding tell_load tell_change tell_band tell_insert tell_desk_load tell_desk_change tell_desk_band tell_desk_insert
coincide = record {
  pack = λ depth number. at_most_one packed packed_injective _;
  unpack = λ key. at_most_one unpacked unpacked_injective _;
  slot-choice = λ key m. at_most_one slotted slotted-one _;
  model-choice = λ bytes. at_most_one chosen chosen-one _;
  load = λ capacity keys payloads nodes slots used. at_most_one tell_load load_told _;
  lookup = λ h key nodes slots used. at_most_one looked looked_injective _;
  replace = λ h key payload nodes slots used. at_most_one (tell_change nodes used) (change-told nodes used) _;
  delete = λ h key nodes slots used. at_most_one (tell_change nodes used) (change-told nodes used) _;
  band = λ h u v nodes slots used keys payloads. at_most_one tell_band band-told _;
  insert = λ h key payload nodes slots used keys payloads places. at_most_one tell_insert insert-told _;
  edge-pack = λ depth number. at_most_one (λ r. r) itself _;
  edge_slot_choice = λ key lo w l. at_most_one (λ r. r) itself _;
  edge_model_choice = λ keys. at_most_one (λ r. r) itself _;
  desk_unpack = λ key. at_most_one (λ r. r) itself _;
  desk_load = λ capacity keys payloads nodes slots used. at_most_one tell_desk_load desk_load-told _;
  desk_lookup = λ h key nodes slots used. at_most_one (λ r. r) itself _;
  desk_replace = λ h key payload nodes slots used. at_most_one (tell_desk_change nodes used) (desk_change-told nodes used) _;
  desk_delete = λ h key nodes slots used. at_most_one (tell_desk_change nodes used) (desk_change-told nodes used) _;
  desk_band = λ h u v nodes slots used keys payloads. at_most_one tell_desk_band desk_band-told _;
  desk_insert = λ h key payload nodes slots used keys payloads places. at_most_one tell_desk_insert desk_insert-told _;
}
