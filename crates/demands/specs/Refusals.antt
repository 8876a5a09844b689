-- The causes of refusal of every call, in the order in which document 01 has them ("Load: 1, 7, then the first place with 2 or 4 (2 wins at
-- one place), 8. Others: 1, 2, 3, 9 on the path or walk, 5 or 6, 7, 9 in a subtree to be rebuilt, 8"), and what it means that an answer
-- goes by them. Definitions only.
use Rattle.std.specs.Prelude.{Bool, true, false, ◌&&◌, not, List, [], ◌∷◌, ◌++◌, ◌⊎◌, ◌≡◌, ℕ, ◌/◌, ◌%◌, ltb, leb, eqb, ℤ, length, get_or, None, Option, Some}
use Rattle.build.specs.Building.{Out, out, build}
use Rattle.counters.specs.Counters.{due_in}
use Rattle.insert.specs.Inserting.{scratch_fits, sound_due}
use Rattle.laws.specs.Answers.{Answer, done, refused_with, wrong_sizes, out_of_range, reversed, not_rising, held, not_held, full, no_room, damage}
use Rattle.laws.specs.Bytes.{key_bytes, keys_in}
use Rattle.laws.specs.Keys.{key_bound, first_fall}
use Rattle.laws.specs.Pick.{pick}
use Rattle.listing.specs.Listing.{listing}
use Rattle.model.specs.Choice.{most_keys}
use Rattle.model.specs.Slots.{in_range}
use Rattle.model.specs.declared.Model.{Model}
use Rattle.pool.specs.Memory.{Mem, payload_word}
use Rattle.rebuild.specs.Pairs.{pair_of}
use Rattle.rebuild.specs.Rebuilding.{Scratch, rebuild_of}
use Rattle.sounding.specs.Studio.{depth_in_range, number_in_range}
use Rattle.sounding.specs.declared.Sounding.{Sounding}
use Rattle.store.specs.Bands.{band_items}
use Rattle.store.specs.Handles.{handle_fits}
use Rattle.store.specs.Loading.{emptied, first_fault, load_fits}
use Rattle.store.specs.declared.Fault.{Fault}
use Rattle.store.specs.declared.Fault.TheVariants.{OutOfRange, NotRising}
use Rattle.store.specs.declared.Handle.{Handle}
use Rattle.walk.specs.Walks.{Walk, longest_path, walk_of}
use Rattle.walk.specs.declared.End.{End}
use Rattle.walk.specs.declared.End.TheVariants.{Empty, Key, Damage}

-- a cause: the number that it is answered with, what is returned besides, and whether it holds
pub record Cause (A : Type 0) : Type 0 where
  pub number : ℕ
  pub besides : List A
  pub holds : Bool

-- "Returned besides: nothing"
abbrev pub refuse : {A : Type 0} → ℕ → Bool → Cause A
refuse n b = record { number = n; besides = []; holds = b }

abbrev pub refuse_with : {A : Type 0} → ℕ → List A → Bool → Cause A
refuse_with n vs b = record { number = n; besides = vs; holds = b }

-- the answer of the first cause that holds; where none holds, done with these values
unfoldable pub first_cause : {A : Type 0} → List (Cause A) → List A → Answer A
first_cause [] vs = done vs
first_cause (c ∷ cs) vs = pick c.holds (refused_with c.number c.besides) (first_cause cs vs)

-- an answer goes by these causes: it is that of the first one that holds, and its number is 0 exactly where none holds
abbrev pub GoesBy : {A : Type 0} → List (Cause A) → Answer A → Type 0
GoesBy cs a = a ≡ first_cause cs a.values

-- x is one of these numbers
abbrev pub OneOf : ℕ → List ℕ → Type 0
OneOf x [] = ⊥
OneOf x (n ∷ ns) = (x ≡ n) ⊎ OneOf x ns

-- pack, unpack, slot choice, model choice
abbrev pub pack_causes : ℤ → ℕ → List (Cause ℕ)
pack_causes depth number = refuse out_of_range (not (depth_in_range depth && number_in_range number)) ∷ []

abbrev pub unpack_causes : ℕ → List (Cause Sounding)
unpack_causes key = refuse out_of_range (leb key_bound key) ∷ []

abbrev pub slot_causes : ℕ → Model → List (Cause ℕ)
slot_causes key m = refuse out_of_range (leb key_bound key) ∷ refuse damage (not (in_range m)) ∷ []

abbrev pub model_causes : List ℕ → List (Cause ℕ)
model_causes bytes =
    refuse wrong_sizes (not (eqb (length bytes % key_bytes) 0))
    ∷ refuse wrong_sizes (ltb most_keys (length bytes / key_bytes))
    ∷ refuse_with not_rising (first_fall (keys_in bytes) ∷ []) (ltb (first_fall (keys_in bytes)) (length (keys_in bytes)))
    ∷ []

-- load: the first place with a fault, and whether a build found no room
abbrev pub is_range : Option Fault → Bool
is_range None = false
is_range (Some OutOfRange) = true
is_range (Some (NotRising p)) = false

abbrev pub is_fall : Option Fault → Bool
is_fall None = false
is_fall (Some OutOfRange) = false
is_fall (Some (NotRising p)) = true

abbrev pub place_of : Option Fault → List ℕ
place_of None = []
place_of (Some OutOfRange) = []
place_of (Some (NotRising p)) = p ∷ []

abbrev pub is_roomless : Option ℕ → Bool
is_roomless (Some r) = false
is_roomless None = true

abbrev pub load_causes : ℕ → List ℕ → List ℕ → Mem → List (Cause ℕ)
load_causes capacity keys payloads m =
    refuse wrong_sizes (not (load_fits capacity keys payloads m))
    ∷ refuse full (ltb capacity (length keys))
    ∷ refuse out_of_range (is_range (first_fault keys))
    ∷ refuse_with not_rising (place_of (first_fault keys)) (is_fall (first_fault keys))
    ∷ refuse no_room (is_roomless (build longest_path keys payloads (emptied m)).built)
    ∷ []

-- the end of a key's path: damage, a DATA slot, or one with this very key
abbrev pub is_damage : End → Bool
is_damage (Empty q) = false
is_damage (Key q j) = false
is_damage (Damage c) = true

abbrev pub is_data : End → Bool
is_data (Empty q) = false
is_data (Key q j) = true
is_data (Damage c) = false

abbrev pub holds_key : ℕ → End → Bool
holds_key k (Empty q) = false
holds_key k (Key q j) = eqb j k
holds_key k (Damage c) = false

-- the path of a key from the handle's root, and what stands at its end
abbrev pub path_to : Handle → ℕ → Mem → Walk
path_to h k m = walk_of m h.root k

-- lookup and replace; delete has one cause more
abbrev pub search_causes : Handle → ℕ → Mem → List (Cause ℕ)
search_causes h k m =
    refuse wrong_sizes (not (handle_fits h m))
    ∷ refuse out_of_range (leb key_bound k)
    ∷ refuse damage (is_damage (path_to h k m).end)
    ∷ refuse_with not_held (length (path_to h k m).path ∷ []) (not (holds_key k (path_to h k m).end))
    ∷ []

abbrev pub delete_causes : Handle → ℕ → Mem → List (Cause ℕ)
delete_causes h k m = search_causes h k m ++ (refuse damage (eqb h.count 0) ∷ [])

abbrev pub band_causes : Handle → ℕ → ℕ → Mem → List ℕ → List ℕ → List (Cause ℕ)
band_causes h u v m keys payloads =
    refuse wrong_sizes (not (handle_fits h m && eqb (length keys) (length payloads)))
    ∷ refuse out_of_range (not (ltb u key_bound && ltb v key_bound))
    ∷ refuse reversed (ltb v u)
    ∷ refuse damage (not (listing u v (length keys) (band_items h u v m)).sound)
    ∷ []

-- insert: "where the path already has 24 nodes" and another key at its end, "the whole tree is built afresh"
abbrev pub too_deep : Walk → Bool
too_deep w = is_data w.end && leb longest_path (length w.path)

-- the place on the path, from 0, of the node whose subtree is to be rebuilt: the root, or the due node nearest the root; past the path's
-- end if there is none
abbrev pub rebuilt_at : Mem → Walk → ℕ
rebuilt_at m w = pick (too_deep w) 0 (due_in m.nodes (is_data w.end) w.path)

-- the two-key node of a conflict; where there is none nothing is built
abbrev pub pair_at : ℕ → ℕ → Mem → End → Out
pair_at k p m (Empty q) = out (Some 0) m
pair_at k p m (Key q j) = pair_of k p j (get_or m.slots (payload_word q) 0) m
pair_at k p m (Damage c) = out (Some 0) m

-- "no room for the .. two-key node or whole rebuild"
abbrev pub lacks_room : Handle → ℕ → ℕ → Mem → Scratch → Walk → Bool
lacks_room h k p m s w =
    pick (too_deep w) (is_roomless (rebuild_of h.capacity k p 0 h.root m s).out.built) (is_roomless (pair_at k p m w.end).built)

abbrev pub insert_causes : Handle → ℕ → ℕ → Mem → Scratch → List (Cause ℕ)
insert_causes h k p m s =
    refuse wrong_sizes (not (handle_fits h m && scratch_fits h.capacity s))
    ∷ refuse out_of_range (leb key_bound k)
    ∷ refuse damage (is_damage (path_to h k m).end)
    ∷ refuse held (holds_key k (path_to h k m).end)
    ∷ refuse full (eqb h.count h.capacity)
    ∷ refuse damage (not (sound_due h.capacity k (path_to h k m).path (rebuilt_at m (path_to h k m)) m))
    ∷ refuse no_room (lacks_room h k p m s (path_to h k m))
    ∷ []
