-- Insert (document 01, "The calls" and "Numbers of the answers"), on every input: the answer, the next handle, every word of the pools
-- and of scratch. Refusals come in the order 1, 2, 9 on the path, 5, 7, 9 in a subtree to be rebuilt, 8. Definitions only.
use Rattle.std.specs.Prelude.{Bool, true, false, ◌&&◌, List, [], ◌∷◌, ℕ, zero, suc, ◌+◌, ltb, leb, eqb, length, get_or, take, None, Option, Some, Result, Ok, Err}
use Rattle.build.specs.Building.{Out}
use Rattle.counters.specs.Counters.{due_in, raise}
use Rattle.laws.specs.Answers.{Answer, as_number, done, refused, wrong_sizes, out_of_range, held, full, no_room, damage}
use Rattle.laws.specs.Keys.{key_bound}
use Rattle.laws.specs.Pick.{pick}
use Rattle.pool.specs.Memory.{Mem, mem, payload_word}
use Rattle.pool.specs.Reading.{node_in}
use Rattle.pool.specs.Writing.{put_data, put_child}
use Rattle.rebuild.specs.Pairs.{pair_if, pair_gone}
use Rattle.rebuild.specs.Rebuilding.{sound_below, keys_with, payloads_with, Scratch, Rebuilt, rebuild_over, rebuild_of}
use Rattle.rebuild.specs.Zeroing.{nodes_below}
use Rattle.store.specs.Handles.{with_root, with_count, handle_fits}
use Rattle.store.specs.declared.Handle.{Handle}
use Rattle.walk.specs.Walks.{longest_path, key_slot, walk_of}
use Rattle.walk.specs.declared.End.{End}
use Rattle.walk.specs.declared.End.TheVariants.{Empty, Key, Damage as EndDamage}
use Rattle.insert.specs.declared.Inserted.{Inserted}
use Rattle.insert.specs.declared.Tidying.{Tidying}
use Rattle.insert.specs.declared.Tidying.TheVariants.{NotDue, Tidied, PutOff, WholeTree}
use Rattle.laws.specs.Refusals.{refusal}
use Rattle.laws.specs.declared.Refusal.{Refusal}

-- what an insert leaves: its answer, the next handle, the memory, scratch
pub record Insert : Type 0 where
  pub answer : Answer ℕ
  pub handle : Handle
  pub memory : Mem
  pub scratch : Scratch

abbrev pub insertion : Answer ℕ → Handle → Mem → Scratch → Insert
insertion a h m s = record { answer = a; handle = h; memory = m; scratch = s }

-- row 1 of the answers: scratch is as long as the capacity, and its three lists are equally long
unfoldable pub scratch_fits : ℕ → Scratch → Bool
scratch_fits capacity s =
    leb capacity (length s.keys) && (eqb (length s.payloads) (length s.keys) && eqb (length s.places) (length s.keys))

-- "conflict (0 or 1) and tidying: 0 not due, 1 done, 2 put off, 3 whole tree for depth"
abbrev pub not_due : ℕ
not_due = 0

abbrev pub tidied : ℕ
tidied = 1

abbrev pub put_off : ℕ
put_off = 2

abbrev pub whole_tree : ℕ
whole_tree = 3

abbrev pub tidying_number : Tidying → ℕ
tidying_number NotDue = not_due
tidying_number Tidied = tidied
tidying_number PutOff = put_off
tidying_number WholeTree = whole_tree

-- one key more, under a root that may be new
abbrev pub one_more_at : ℕ → Handle → Handle
one_more_at root h = with_count (h.count + 1) (with_root root h)

-- An insert that is neither held nor refused as full: key k with payload p, whose path ends at slot q; in a conflict the key j is there.
pub record Fresh : Type 0 where
  pub key : ℕ
  pub payload : ℕ
  pub slot : ℕ
  pub conflict : Bool
  pub other : ℕ
  pub path : List ℕ

abbrev pub fresh : ℕ → ℕ → ℕ → Bool → ℕ → List ℕ → Fresh
fresh k p q c j path = record { key = k; payload = p; slot = q; conflict = c; other = j; path = path }

-- "At NULL the slot becomes DATA. At DATA with another key .. a two-key node takes the slot", which is at record c
unfoldable pub settled : Bool → ℕ → ℕ → ℕ → ℕ → List ℕ → List ℕ
settled conflict q k p c ss = pick conflict (put_child ss q c) (put_data ss q k p)

-- the insert stands with its counters, and so does the tree
unfoldable pub standing : Handle → Fresh → ℕ → ℕ → Mem → Scratch → Insert
standing h f t c m s =
    insertion (done (as_number f.conflict ∷ t ∷ [])) (one_more_at h.root h)
    (mem (raise m.nodes f.conflict f.path) (settled f.conflict f.slot f.key f.payload c m.slots) m.used) s

-- "the slot above" the node at place i of the path, by the words of the nodes ns: that of key k in the node before it. The root has none
unfoldable pub slot_above : List ℕ → List ℕ → ℕ → ℕ → ℕ
slot_above ns path k zero = 0
slot_above ns path k (suc i) = key_slot (node_in ns (get_or path i 0)) k

-- the new node r in place of the one at place i: in the slot above q, or as the root
unfoldable pub hung : ℕ → ℕ → ℕ → List ℕ → List ℕ
hung zero q r ss = ss
hung (suc i) q r ss = put_child ss q r

abbrev pub root_at : Handle → ℕ → ℕ → ℕ
root_at h zero r = r
root_at h (suc i) r = h.root

-- the node at place i is rebuilt: "Stores go in this order ..: new nodes, zeroing, the slot above, counters of path nodes not released"
unfoldable pub replaced : Handle → Fresh → ℕ → ℕ → ℕ → ℕ → Mem → Scratch → Insert
replaced h f i q c r m s =
    insertion (done (as_number f.conflict ∷ tidied ∷ [])) (one_more_at (root_at h i r) h)
    (mem (raise (pair_gone f.conflict c m).nodes f.conflict (take i f.path)) (hung i q r (pair_gone f.conflict c m).slots) (pair_gone f.conflict c m).used) s

-- done, or put off: "the insert stands with its counters, and no other store is made to the pools"
unfoldable pub tidy_ends : Handle → Fresh → ℕ → ℕ → ℕ → Option ℕ → Mem → Scratch → Insert
tidy_ends h f i q c (Some r) m s = replaced h f i q c r m s
tidy_ends h f i q c None m s = standing h f put_off c m s

abbrev pub tidy_by : Handle → Fresh → ℕ → ℕ → ℕ → Rebuilt → Insert
tidy_by h f i q c x = tidy_ends h f i q c x.out.built x.out.memory x.scratch

-- the node r at place i of the path built afresh in the memory m: over the live keys that it has in the memory before and the new one, and
-- in place of the nodes that it has there
abbrev pub rebuild_at : Handle → Fresh → ℕ → ℕ → Mem → Mem → Scratch → Rebuilt
rebuild_at h f i r before m s =
    rebuild_over i (nodes_below i r before) (keys_with h.capacity f.key i r before) (payloads_with h.capacity f.key f.payload i r before) m s

-- "Only the due node nearest the root is tidied": the one at place i, if there is one. Its keys are those of the memory before the two-key
-- node has its places
unfoldable pub tidy_of : Handle → Fresh → ℕ → ℕ → ℕ → Mem → Mem → Scratch → Insert
tidy_of h f i q c before m s =
    pick (ltb i (length f.path)) (tidy_by h f i q c (rebuild_at h f i (get_or f.path i 0) before m s)) (standing h f not_due c m s)

-- the two-key node's places come first: 8 without them
unfoldable pub pair_ends : Handle → Fresh → ℕ → ℕ → Mem → Scratch → Option ℕ → Mem → Insert
pair_ends h f i q before s (Some c) m = tidy_of h f i q c before m s
pair_ends h f i q before s None m = insertion (refused no_room) h before s

abbrev pub pair_by : Handle → Fresh → ℕ → ℕ → Mem → Scratch → Out → Insert
pair_by h f i q before s o = pair_ends h f i q before s o.built o.memory

-- the payload that the slot of the path's end holds
abbrev pub held_payload : Fresh → Mem → ℕ
held_payload f m = get_or m.slots (payload_word f.slot) 0

-- no rule is broken in the subtree to be rebuilt, if there is one: at place i of the path
unfoldable pub sound_due : ℕ → ℕ → List ℕ → ℕ → Mem → Bool
sound_due capacity k path i m = pick (ltb i (length path)) (sound_below capacity k i (get_or path i 0) m) true

-- 9 in the subtree, then 8 for the two-key node, then the tidying
unfoldable pub settle_at : Handle → Fresh → ℕ → Mem → Scratch → Insert
settle_at h f i m s =
    pick (sound_due h.capacity f.key f.path i m)
    (pair_by h f i (slot_above m.nodes f.path f.key i) m s (pair_if f.conflict f.key f.payload f.other (held_payload f m) m))
    (insertion (refused damage) h m s)

-- "Whether a subtree is to be rebuilt is judged as if the insert stood"
unfoldable pub settle_of : Handle → Fresh → Mem → Scratch → Insert
settle_of h f m s = settle_at h f (due_in m.nodes f.conflict f.path) m s

-- "where the path already has 24 nodes, the whole tree is built afresh over all keys and the new one"
unfoldable pub whole_ends : Handle → Mem → Option ℕ → Mem → Scratch → Insert
whole_ends h before (Some r) m s = insertion (done (1 ∷ whole_tree ∷ [])) (one_more_at r h) m s
whole_ends h before None m s = insertion (refused no_room) h before s

abbrev pub whole_by : Handle → Mem → Rebuilt → Insert
whole_by h before x = whole_ends h before x.out.built x.out.memory x.scratch

unfoldable pub whole_of : Handle → ℕ → ℕ → Mem → Scratch → Insert
whole_of h k p m s =
    pick (sound_below h.capacity k 0 h.root m) (whole_by h m (rebuild_of h.capacity k p 0 h.root m s)) (insertion (refused damage) h m s)

-- 7 comes after 5 and before all that the rebuild may refuse
unfoldable pub unless_full : Handle → Mem → Scratch → Insert → Insert
unless_full h m s x = pick (ltb h.count h.capacity) x (insertion (refused full) h m s)

-- what stands at the end of the path
unfoldable pub insert_end : Handle → ℕ → ℕ → Mem → Scratch → List ℕ → End → Insert
insert_end h k p m s path (EndDamage c) = insertion (refused damage) h m s
insert_end h k p m s path (Empty q) = unless_full h m s (settle_of h (fresh k p q false 0 path) m s)
insert_end h k p m s path (Key q j) =
    pick (eqb j k) (insertion (refused held) h m s)
    (unless_full h m s (pick (ltb (length path) longest_path) (settle_of h (fresh k p q true j path) m s) (whole_of h k p m s)))

unfoldable pub insert_of : Handle → ℕ → ℕ → Mem → Scratch → Insert
insert_of h k p m s =
    pick (handle_fits h m && scratch_fits h.capacity s)
    (pick (ltb k key_bound) (insert_end h k p m s (walk_of m h.root k).path (walk_of m h.root k).end) (insertion (refused out_of_range) h m s))
    (insertion (refused wrong_sizes) h m s)

-- what each case of the code's answer is in document 01
unfoldable pub inserted : Result Inserted Refusal → Answer ℕ
inserted (Ok d) = done (as_number d.conflict ∷ tidying_number d.tidying ∷ [])
inserted (Err e) = refusal e
