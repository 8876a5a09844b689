-- Insert on placed trees (document 01, "Insert"), without memory: the tree that it leaves, node for node with places and counters, or the
-- number of its refusal. Only the map of used places is looked at, to give new nodes their places. Definitions only.
use Rattle.std.specs.Prelude.{Bool, true, false, List, [], ◌∷◌, ℕ, zero, suc, ◌+◌, ltb, leb, eqb, length}
use Rattle.counters.specs.Counters.{one_more, raised_if, is_due}
use Rattle.insert.specs.Inserting.{not_due, tidied, put_off, whole_tree}
use Rattle.laws.specs.Answers.{as_number}
use Rattle.laws.specs.Answers.{held, full, no_room}
use Rattle.laws.specs.Pick.{pick}
use Rattle.store.specs.declared.Handle.{Handle}
use Rattle.walk.specs.Walks.{longest_path}
use Rattle.demands.specs.Growing.{Grown, is, no_room as roomless, grow}
use Rattle.demands.specs.Map.{Map, insert, keys_of, payloads_of}
use Rattle.demands.specs.Paths.{path_b, below_b, graft_b}
use Rattle.demands.specs.Placed.{Head, Branch, null, leaf, sub, Forest, nil, cons, len, flat_b, depth_b, slot_in}

-- what an insert comes to: refused with a number, or conflict, tidying and the tree it leaves
pub data Settled : Type 0 where
  refuses : ℕ → Settled
  settles : ℕ → ℕ → Branch → Settled

-- "every node on the old path gets elements + 1 and, after a conflict, conflicts + 1"
abbrev pub raised : Bool → Head → Head
raised conflict h = record {
  at = h.at;
  lo = h.lo;
  w = h.w;
  start = h.start;
  elements = one_more h.elements;
  built = h.built;
  conflicts = raised_if conflict h.conflicts;
}

-- "the due node nearest the root", judged as if the insert stood: its place on the path of k; the path's length if none is due
unfoldable mutual
  pub due_b : Bool → ℕ → Branch → ℕ
  due_b conflict k null = 0
  due_b conflict k (leaf j p) = 0
  due_b conflict k (sub h g) =
      pick (is_due (one_more h.elements) h.built (raised_if conflict h.conflicts) (len g)) 0 (1 + due_f conflict k g (slot_in h.lo h.w (len g) k))

  pub due_f : Bool → ℕ → Forest → ℕ → ℕ
  due_f conflict k nil j = 0
  due_f conflict k (cons b f) zero = due_b conflict k b
  due_f conflict k (cons b f) (suc j) = due_f conflict k f j

-- a tree built over a map, on a map of used places
abbrev pub grow_over : Handle → List ℕ → Map → Grown
grow_over h u l = grow longest_path h.records h.slots u (keys_of l) (payloads_of l)

-- "A tidying without room, or that would make a path longer than 24, is put off": below so many nodes
abbrev pub within : ℕ → Grown → Grown
within above (is b u) = pick (leb (above + depth_b b) longest_path) (is b u) roomless
within above roomless = roomless

-- An insert of k with payload p into the tree t, which is neither held nor refused as full, with what takes the slot at the path's end.
module _ (h : Handle) (t : Branch) (k p : ℕ) (conflict : Bool) where
  -- the insert stands with its counters
  abbrev pub stands : ℕ → Branch → Settled
  stands tidying n = settles (as_number conflict) tidying (graft_b (raised conflict) t (length (path_b k t)) k n)

  -- "its subtree is built afresh over its live keys and replaces it", the new key among them
  abbrev pub tidies : ℕ → Branch → Grown → Settled
  tidies i n (is b u) = settles (as_number conflict) tidied (graft_b (raised conflict) t i k b)
  tidies i n roomless = stands put_off n

  -- "Only the due node nearest the root is tidied"; the new two-key node holds its places meanwhile
  abbrev pub settle_at : ℕ → Branch → List ℕ → Settled
  settle_at i n u = pick (ltb i (length (path_b k t))) (tidies i n (within i (grow_over h u (insert k p (flat_b (below_b t i k)))))) (stands not_due n)

  abbrev pub settle : Branch → List ℕ → Settled
  settle n u = settle_at (due_b conflict k t) n u

-- "At DATA with another key there is a conflict: a two-key node takes the slot", or 8 without room for it
abbrev pub settle_pair : Handle → Branch → ℕ → ℕ → Grown → Settled
settle_pair h t k p (is n u) = settle h t k p true n u
settle_pair h t k p roomless = refuses no_room

-- "where the path already has 24 nodes, the whole tree is built afresh over all keys and the new one"
abbrev pub whole : Grown → Settled
whole (is b u) = settles 1 whole_tree b
whole roomless = refuses no_room

abbrev pub unless_full : Handle → Settled → Settled
unless_full h x = pick (ltb h.count h.capacity) x (refuses full)

-- by what the path ends at. It ends at no node: the last case has no use, and any refusal would do
abbrev pub insert_end : Handle → Branch → List ℕ → ℕ → ℕ → Branch → Settled
insert_end h t u k p null = unless_full h (settle h t k p false (leaf k p) u)
insert_end h t u k p (leaf j q) =
    pick (eqb j k) (refuses held)
    (unless_full h (pick (ltb (length (path_b k t)) longest_path) (settle_pair h t k p (grow_over h u (insert k p ((j, q) ∷ [])))) (whole (within 0 (grow_over h u (insert k p (flat_b t)))))))
insert_end h t u k p (sub s g) = refuses no_room

abbrev pub insert_t : Handle → Branch → List ℕ → ℕ → ℕ → Settled
insert_t h t u k p = insert_end h t u k p (below_b t (length (path_b k t)) k)
