-- Demand 2: "Load, lookup, band, insert, replace and delete answer as the ordered map of the LIPP paper (2.1); tree and memory are
-- document 01's. Listing an accepted load whole gives its list." Said of any store, on memory that is Good;
-- ours meets it.
-- Statements only; the proofs are proofs/Demand2.
use Rattle.std.specs.Prelude.{Bool, true, false, List, [], ◌∷◌, ◌≡◌, ℕ, ◌+◌, ◌*◌, ◌<◌, ◌≤◌, min, ltb, length, get_or, take}
use Rattle.std.proofs.lemmas.List.Edits.{sets}
use Rattle.delete.specs.Deleting.{one_less}
use Rattle.insert.specs.Inserting.{Insert, scratch_fits, one_more_at}
use Rattle.laws.specs.Answers.{Answer, done, refused, refused_with, not_held, no_room, damage}
use Rattle.laws.specs.Keys.{key_bound, Rising}
use Rattle.laws.specs.Pick.{pick}
use Rattle.marks.specs.Used.{used_at}
use Rattle.pool.specs.Memory.{Mem, records_in, slots_in, record_words, slot_words, kind_word, kind_unit}
use Rattle.rebuild.specs.Rebuilding.{Scratch, last_key}
use Rattle.store.specs.Bands.{Band, band}
use Rattle.store.specs.Calls.{Call, call}
use Rattle.store.specs.Handles.{new_handle, no_handle}
use Rattle.store.specs.Loading.{emptied, load_fits}
use Rattle.store.specs.declared.Handle.{Handle}
use Rattle.walk.specs.Walks.{longest_path}
use Rattle.demands.specs.Growing.{Grown, is as grown, no_room as roomless, grow}
use Rattle.demands.specs.Map.{Map, Found, is, nil, member, lookup, range, insert, delete, update, bulkload, size, keys_of, payloads_of}
use Rattle.demands.specs.Paths.{path_b, end_b, graft_end}
use Rattle.demands.specs.Settling.{Settled, refuses, settles, grow_over, within, insert_t}
use Rattle.demands.specs.Stores.{Store}
use Rattle.demands.specs.Placed.{Head, Branch, null, leaf, sub, Forest, flat_b, flat_f, Good, Holds}

-- how many nodes lie on the path of k
abbrev pub visits : ℕ → Head → Forest → ℕ
visits k t g = length (path_b k (sub t g))

-- "lookup gives M's payload and the number of nodes on the key's path, or 6 with that number"
abbrev pub found_as : ℕ → Found → Answer ℕ
found_as v (is p) = done (p ∷ v ∷ [])
found_as v nil = refused_with not_held (v ∷ [])

abbrev pub LookupAnswers : Store → Type 0
LookupAnswers x =
    (h : Handle) (m : Mem) (t : Head) (g : Forest) → Good h m t g → (k : ℕ) → k < key_bound → x.look h k m ≡ found_as (visits k t g) (lookup k (flat_f g))

-- the heads stay as they are
abbrev pub same : Head → Head
same h = h

-- "replace and delete change exactly that key": of a key that is not held they say 6 and leave all; else the tree is the same but for
-- the slot at the end of the key's path, and its elements are the map's after the paper's update or delete
pub record Changes (h : Handle) (m : Mem) (t : Head) (g : Forest) (k : ℕ) (c : Call) (after : Handle) (n : Branch) (l : Map) : Type 0 where
  pub absent : member k (flat_f g) ≡ false → c ≡ call (refused_with not_held (visits k t g ∷ [])) h m
  pub answers : member k (flat_f g) ≡ true → c.answer ≡ done []
  pub handles : member k (flat_f g) ≡ true → c.handle ≡ after
  pub holds : member k (flat_f g) ≡ true → Holds after c.memory (graft_end same (sub t g) k n)
  pub lists : member k (flat_f g) ≡ true → flat_b (graft_end same (sub t g) k n) ≡ l

abbrev pub ReplaceAnswers : Store → Type 0
ReplaceAnswers x =
    (h : Handle) (m : Mem) (t : Head) (g : Forest) → Good h m t g → (k p : ℕ) → k < key_bound → Changes h m t g k (x.replace h k p m) h (leaf k p) (update k p (flat_f g))

abbrev pub DeleteAnswers : Store → Type 0
DeleteAnswers x =
    (h : Handle) (m : Mem) (t : Head) (g : Forest) → Good h m t g → (k : ℕ) → k < key_bound → Changes h m t g k (x.delete h k m) (one_less h) null (delete k (flat_f g))

-- "band gives the part of M from u to v, as much as fits, with how many and more right"; the output past that number is untouched
abbrev pub band_as : Map → List ℕ → List ℕ → Band
band_as r ks ps =
    band (done (min (length ks) (size r) ∷ pick (ltb (length ks) (size r)) 1 0 ∷ [])) (sets ks 0 (take (length ks) (keys_of r))) (sets ps 0 (take (length ks) (payloads_of r)))

abbrev pub BandAnswers : Store → Type 0
BandAnswers x =
    (h : Handle) (m : Mem) (t : Head) (g : Forest) → Good h m t g → (u v : ℕ) → v < key_bound → u ≤ v → (ks ps : List ℕ) → length ps ≡ length ks → x.list h u v m ks ps ≡ band_as (range u v (flat_f g)) ks ps

-- the tree that document 01 describes over a list, in the empty pools
abbrev pub load_tree : List ℕ → List ℕ → Mem → Grown
load_tree ks ps m = grow longest_path (records_in m.nodes) (slots_in m.slots) (emptied m).used ks ps

abbrev pub load_handle : ℕ → ℕ → ℕ → Mem → Handle
load_handle root count capacity m = new_handle root count capacity (records_in m.nodes) (slots_in m.slots)

-- a load whose list is right and fits: where the tree has room it stands in memory, and reading it in slot order gives the list; else 8
abbrev pub LoadLeaves : ℕ → List ℕ → List ℕ → Mem → Call → Grown → Type 0
LoadLeaves c ks ps m x (grown null u) = ⊥
LoadLeaves c ks ps m x (grown (leaf k p) u) = ⊥
LoadLeaves c ks ps m x (grown (sub t g) u) =
    (x.answer ≡ done []) × (x.handle ≡ load_handle t.at (length ks) c m) × Good x.handle x.memory t g × (flat_f g ≡ bulkload ks ps) × (x.memory.used ≡ u)
LoadLeaves c ks ps m x roomless = x ≡ call (refused no_room) no_handle m

abbrev pub LoadAnswers : Store → Type 0
LoadAnswers x =
    (c : ℕ) (ks ps : List ℕ) (m : Mem) → load_fits c ks ps m ≡ true → length ks ≤ c → Rising ks → LoadLeaves c ks ps m (x.load c ks ps m) (load_tree ks ps m)

-- "insert gives M with the key added, or 5 exactly when it is held, 7 exactly when the count is the capacity, 8 exactly when document 01's
-- room is lacking (for the two-key node, or for the whole rebuild), never 9": it does what Settling says of the tree
abbrev pub root_of : Branch → ℕ
root_of null = 0
root_of (leaf k p) = 0
root_of (sub t g) = t.at

abbrev pub InsertLeaves : Handle → Mem → Forest → ℕ → ℕ → Insert → Settled → Type 0
InsertLeaves h m g k p x (refuses n) = (x.answer ≡ refused n) × (x.handle ≡ h) × (x.memory ≡ m)
InsertLeaves h m g k p x (settles conflict tidying b) =
    (x.answer ≡ done (conflict ∷ tidying ∷ [])) × (x.handle ≡ one_more_at (root_of b) h) × Holds x.handle x.memory b × (flat_b b ≡ insert k p (flat_f g))

abbrev pub InsertAnswers : Store → Type 0
InsertAnswers x =
    (h : Handle) (m : Mem) (t : Head) (g : Forest) → Good h m t g → (k p : ℕ) → k < key_bound → (s : Scratch) → scratch_fits h.capacity s ≡ true
    → InsertLeaves h m g k p (x.insert h k p m s) (insert_t h (sub t g) m.used k p)

-- the numbers of insert, said of the map and of room
abbrev pub is_roomless : Grown → Bool
is_roomless (grown b u) = false
is_roomless roomless = true

-- "8 exactly when document 01's room is lacking (for the two-key node, or for the whole rebuild)": by what the path ends at
abbrev pub lacks_at : Handle → Branch → List ℕ → ℕ → ℕ → Branch → Bool
lacks_at h t u k p null = false
lacks_at h t u k p (leaf j q) =
    pick (ltb (length (path_b k t)) longest_path) (is_roomless (grow_over h u (insert k p ((j, q) ∷ [])))) (is_roomless (within 0 (grow_over h u (insert k p (flat_b t)))))
lacks_at h t u k p (sub s g) = false

abbrev pub lacks_room : Handle → Branch → List ℕ → ℕ → ℕ → Bool
lacks_room h t u k p = lacks_at h t u k p (end_b t k)

abbrev pub Exactly : Type 0 → Type 0 → Type 0
Exactly A B = (A → B) × (B → A)

pub record InsertNumbers (h : Handle) (m : Mem) (t : Head) (g : Forest) (k p n : ℕ) : Type 0 where
  pub held : Exactly (n ≡ 5) (member k (flat_f g) ≡ true)
  pub full : Exactly (n ≡ 7) ((member k (flat_f g) ≡ false) × (h.count ≡ h.capacity))
  pub lacks : Exactly (n ≡ 8) ((member k (flat_f g) ≡ false) × (h.count < h.capacity) × (lacks_room h (sub t g) m.used k p ≡ true))
  pub sound : n ≡ damage → ⊥

abbrev pub InsertRefuses : Store → Type 0
InsertRefuses x =
    (h : Handle) (m : Mem) (t : Head) (g : Forest) → Good h m t g → (k p : ℕ) → k < key_bound → (s : Scratch) → scratch_fits h.capacity s ≡ true
    → InsertNumbers h m t g k p (x.insert h k p m s).answer.number

-- "Load: accepted exactly when the list is right, fits and has room"
abbrev pub LoadAccepts : Store → Type 0
LoadAccepts x =
    (c : ℕ) (ks ps : List ℕ) (m : Mem)
    → Exactly ((x.load c ks ps m).answer.number ≡ 0) ((load_fits c ks ps m ≡ true) × (length ks ≤ c) × Rising ks × (is_roomless (load_tree ks ps m) ≡ false))

-- "Listing an accepted load whole (a band over all keys with room enough) gives its list"
abbrev pub LoadLists : Store → Type 0
LoadLists x =
    (c : ℕ) (ks ps : List ℕ) (m : Mem) → (x.load c ks ps m).answer.number ≡ 0 → (out_k out_p : List ℕ) → length out_p ≡ length out_k → length ks ≤ length out_k
    → x.list (x.load c ks ps m).handle 0 last_key (x.load c ks ps m).memory out_k out_p ≡ band (done (length ks ∷ 0 ∷ [])) (sets out_k 0 ks) (sets out_p 0 ps)

-- "One tree in one set of places has one memory image"
abbrev pub OneImage : Type 0
OneImage = (h : Handle) (m n : Mem) (t : Head) (g : Forest) → Good h m t g → Good h n t g → m ≡ n

-- "unused records, unused slots and NULL slots are zeros"
pub record Zeros (h : Handle) (m : Mem) : Type 0 where
  pub records : (r i : ℕ) → r < h.records → used_at m.used r ≡ false → i < record_words → get_or m.nodes (r * record_words + i) 0 ≡ 0
  pub slots : (q i : ℕ) → used_at m.used (h.records + q) ≡ false → i < slot_words → get_or m.slots (q * slot_words + i) 0 ≡ 0
  pub nulls : (q i : ℕ) → get_or m.slots (kind_word q) 0 < kind_unit → i < slot_words → get_or m.slots (q * slot_words + i) 0 ≡ 0

abbrev pub ZeroElsewhere : Type 0
ZeroElsewhere = (h : Handle) (m : Mem) (t : Head) (g : Forest) → Good h m t g → Zeros h m

pub record Demand2 (x : Store) : Type 0 where
  pub load : LoadAnswers x
  pub load_accepts : LoadAccepts x
  pub load_lists : LoadLists x
  pub lookup : LookupAnswers x
  pub band : BandAnswers x
  pub insert : InsertAnswers x
  pub insert_refuses : InsertRefuses x
  pub replace : ReplaceAnswers x
  pub delete : DeleteAnswers x
  pub one_image : OneImage
  pub zeros : ZeroElsewhere
