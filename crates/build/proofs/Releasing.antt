-- Releasing a subtree: that it keeps every list's length and makes no mark, what is left of a good record afterwards (zeros, and no
-- mark), and the turns and exits of the loop that does it. Laws of the definitions alone. Assumes nothing.
use Rattle.std.specs.Prelude.{Err, Ok, Result}
use mathlib.Core.Bool.{false}
use mathlib.Core.List.{List, [], ◌∷◌, ◌++◌}
use mathlib.Core.Logic.{inl, inr, ⊎_elim}
use mathlib.Core.Path.{◌≡◌, refl, sym, ap, ◌∙◌}
use Prim.Native.Nat.{ℕ, zero, suc, ◌+◌, ◌-◌, ◌*◌, ◌^◌, ◌<◌, ◌≤◌}
use native.Mathlib.Omega.{arith}
use borrow.Author.Tests.{eqb-true, eqb-false}
use lib.Dec.{eqb}
use lib.ListN.{length, get_or, replicate}
use Rattle.laws.proofs.Tests.{both, le_or_lt}
use Rattle.marks.specs.Used.{used_at, clear_at, clear_run}
use Rattle.marks.proofs.Marks.{clear-same, clear-other, clear-length}
use Rattle.marks.proofs.Runs.{clear_run-length, clear_run_in, clear_run-out}
use Rattle.model.specs.Slots.{slot_of, in_range}
use Rattle.pool.specs.Memory.{Mem, mem, slot_place, record_words, lo_word, kind_word}
use Rattle.pool.specs.Reading.{node_in, node_fits, node_at, slot_says, slot_at}
use Rattle.pool.specs.Writing.{zero_record, zero_run}
use Rattle.pool.specs.declared.Node.{Node}
use Rattle.pool.specs.declared.Slot.{Slot}
use Rattle.pool.specs.declared.Slot.TheVariants.{Null, Data, Child}
use Rattle.pool.proofs.Nodes.{good-node, reads_unmarked}
use Rattle.pool.proofs.RecordStores.{length-zero_record, zero_record-inside}
use Rattle.pool.proofs.RunStores.{length-zero_run, zero_run-inside}
use Rattle.build.specs.Hints.{Sized}
use Rattle.build.specs.Releasing.{drop_node, release_slot, release_slots, release_record, release}
use Rattle.pool.specs.declared.Rule.{Rule}
use Rattle.pool.specs.declared.Rule.TheVariants.{UnusedRecord}

-- an unused place stays unused when another is cleared, or a run
pub clear-keeps_unused : (u : List ℕ) (p q : ℕ) → used_at u q ≡ false → used_at (clear_at u p) q ≡ false
clear-keeps_unused u p q e =
    both (eqb q p)
    (λ t. let d : q ≡ p = eqb-true _ _ t in rw d (clear-same u p))
    (λ t. clear-other u p q (eqb-false _ _ t) ∙ e)

pub clear_run-keeps_unused : (u : List ℕ) (p n q : ℕ) → used_at u q ≡ false → used_at (clear_run u p n) q ≡ false
clear_run-keeps_unused u p n q e =
    ⊎_elim
    (λ h. ⊎_elim (λ k. clear_run-out u p n q (inr k) ∙ e) (λ k. clear_run_in u p n q h k) (le_or_lt (p + n) q))
    (λ h. clear_run-out u p n q (inl h) ∙ e)
    (le_or_lt p q)

-- no list longer or shorter, and no mark more
pub record Frees (m m' : Mem) : Type 0 where
  pub nodes : length m'.nodes ≡ length m.nodes
  pub slots : length m'.slots ≡ length m.slots
  pub used : length m'.used ≡ length m.used
  pub unused : (p : ℕ) → used_at m.used p ≡ false → used_at m'.used p ≡ false

pub frees_same : (m : Mem) → Frees m m
frees_same m = record { nodes = refl; slots = refl; used = refl; unused = λ p e. e }

pub frees_both : (a b c : Mem) → Frees a b → Frees b c → Frees a c
frees_both a b c h k = record {
  nodes = k.nodes ∙ h.nodes;
  slots = k.slots ∙ h.slots;
  used = k.used ∙ h.used;
  unused = λ p e. k.unused p (h.unused p e);
}

pub drop_frees : (m : Mem) (r : ℕ) (n : Node) → Frees m (drop_node m r n)
unfolding drop_node
drop_frees m r n =
    let p = slot_place m.nodes n.start in
    let l = n.model.l in
    record {
      nodes = length-zero_record m.nodes r;
      slots = length-zero_run m.slots n.start l;
      used = clear-length (clear_run m.used p l) r ∙ clear_run-length m.used p l;
      unused = λ q e. clear-keeps_unused (clear_run m.used p l) r q (clear_run-keeps_unused m.used p l q e);
    }

module _ (below : Mem → ℕ → Mem) (k : (m : Mem) (r : ℕ) → Frees m (below m r)) where
  slot_frees : (m : Mem) (s : Result Slot Rule) → Frees m (release_slot below m s)
  unfolding release_slot
  slot_frees m (Ok Null) = frees_same m
  slot_frees m (Ok (Data x)) = frees_same m
  slot_frees m (Ok (Child c)) = k m c
  slot_frees m (Err c) = frees_same m

  slots_free : (node : Node) (n j : ℕ) (m : Mem) → Frees m (release_slots below node n j m)
  unfolding release_slots
  slots_free node zero j m = frees_same m
  slots_free node (suc n) j m =
      let m' = release_slot below m (slot_at m.slots node j) in
      frees_both m m' (release_slots below node n (j + 1) m') (slot_frees m (slot_at m.slots node j)) (slots_free node n (j + 1) m')

  record_frees : (m : Mem) (r : ℕ) (x : Result Node Rule) → Frees m (release_record below m r x)
  unfolding release_record
  record_frees m r (Ok n) =
      let m' = release_slots below n n.model.l 0 m in
      frees_both m m' (drop_node m' r n) (slots_free n n.model.l 0 m) (drop_frees m' r n)
  record_frees m r (Err c) = frees_same m

pub release_frees : (depth : ℕ) (m : Mem) (r : ℕ) → Frees m (release depth m r)
unfolding release
release_frees zero m r = frees_same m
release_frees (suc depth) m r = record_frees (release depth) (release_frees depth) m r (node_at m r)

-- sizes are sizes of lengths
pub frees_sized : (m m' : Mem) → Frees m m' → Sized m → Sized m'
frees_sized m m' k z = record {
  mapped = rw (k.nodes, k.slots, k.used) z.mapped;
  records = rw k.nodes z.records;
  slots = rw k.slots z.slots;
}

module _ (depth : ℕ) (m : Mem) (r : ℕ) where
  pub release-nodes-length : length (release depth m r).nodes ≡ length m.nodes
  release-nodes-length = (release_frees depth m r).nodes

  pub release_slots-length : length (release depth m r).slots ≡ length m.slots
  release_slots-length = (release_frees depth m r).slots

  pub release-used-length : length (release depth m r).used ≡ length m.used
  release-used-length = (release_frees depth m r).used

  pub release-keeps_unused : (p : ℕ) → used_at m.used p ≡ false → used_at (release depth m r).used p ≡ false
  release-keeps_unused = (release_frees depth m r).unused

  pub release-sized : Sized m → Sized (release depth m r)
  release-sized = frees_sized m (release depth m r) (release_frees depth m r)

  -- a record that is not good is passed over
  pub release-broken : (c : Rule) → node_at m r ≡ Err c → release (suc depth) m r ≡ m
  unfolding release release_record
  release-broken c e = rw e

  module _ (n : Node) (good : node_at m r ≡ Ok n) where
    pub release-good : release (suc depth) m r ≡ drop_node (release_slots (release depth) n n.model.l 0 m) r n
    unfolding release release_record
    release-good = rw good

    pub released_gone : used_at (release (suc depth) m r).used r ≡ false
    unfolding drop_node
    released_gone = rw release-good (clear-same _ r)

    pub released_zero : (i : ℕ) → lo_word r ≤ i → i < lo_word r + record_words → get_or (release (suc depth) m r).nodes i 0 ≡ 0
    unfolding drop_node
    released_zero i a b = rw release-good (zero_record-inside _ r i a b)

    pub released_run_gone : (q : ℕ) → n.start ≤ q → q < n.start + n.model.l → used_at (release (suc depth) m r).used (slot_place m.nodes q) ≡ false
    unfolding drop_node
    released_run_gone q a b =
        let e : length (release_slots (release depth) n n.model.l 0 m).nodes ≡ length m.nodes
        = (slots_free (release depth) (release_frees depth) n n.model.l 0 m).nodes in
        rw release-good (clear-keeps_unused _ r _ (rw e (clear_run_in _ (slot_place m.nodes n.start) n.model.l _ (omega arith) (omega arith))))

    pub released_run_zero : (i : ℕ) → kind_word n.start ≤ i → i < kind_word (n.start + n.model.l) → get_or (release (suc depth) m r).slots i 0 ≡ 0
    unfolding drop_node
    released_run_zero i a b = rw release-good (zero_run-inside _ n.start n.model.l i a b)

    -- so a second release passes it over
    pub released_unread : node_at (release (suc depth) m r) r ≡ Err UnusedRecord
    released_unread =
        let e = (release_frees (suc depth) m r).nodes in
        reads_unmarked (release (suc depth) m r) r (rw e (good-node m r n good).inside) released_gone

-- What the code keeps while it goes through the slots of the node n: the lengths, and that to release what is left from slot j on, in
-- the memory as it is now, is to release all of them in the memory at the start.
pub record Left (depth : ℕ) (n : Node) (j : ℕ) (start m : Mem) : Type 0 where
  pub nodes : length m.nodes ≡ length start.nodes
  pub slots : length m.slots ≡ length start.slots
  pub used : length m.used ≡ length start.used
  pub within : j ≤ n.model.l
  pub left : release_slots (release depth) n (n.model.l - j) j m ≡ release_slots (release depth) n n.model.l 0 start

pub left-start : (depth : ℕ) (n : Node) (m : Mem) → Left depth n 0 m m
left-start depth n m =
    let e : n.model.l - 0 ≡ n.model.l = omega arith in
    record { nodes = refl; slots = refl; used = refl; within = omega arith; left = rw e }

pub left-sized : {depth : ℕ} {n : Node} {j : ℕ} {start m : Mem} → Left depth n j start m → Sized start → Sized m
left-sized h z = record {
  mapped = rw (h.nodes, h.slots, h.used) z.mapped;
  records = rw h.nodes z.records;
  slots = rw h.slots z.slots;
}

other-slot : (below : Mem → ℕ → Mem) (m : Mem) (s : Result Slot Rule) → ((c : ℕ) → s ≡ Ok (Child c) → ⊥) → release_slot below m s ≡ m
unfolding release_slot
other-slot below m (Ok Null) none = refl
other-slot below m (Ok (Data x)) none = refl
other-slot below m (Ok (Child c)) none = absurd (none c refl)
other-slot below m (Err c) none = refl

-- a turn: slot j, read in the memory as it is now
module _ {depth : ℕ} {n : Node} {j : ℕ} {start m : Mem} (h : Left depth n j start m) (here : j < n.model.l) (s : Result Slot Rule) (reads : s ≡ slot_at m.slots n j) where
  left_step : (m' : Mem) → m' ≡ release_slot (release depth) m s → Frees m m' → Left depth n (j + 1) start m'
  unfolding release_slots
  left_step m' e k =
      let f : n.model.l - j ≡ suc (n.model.l - (j + 1)) = omega arith in
      let g : release_slots (release depth) n (suc (n.model.l - (j + 1))) j m ≡ release_slots (release depth) n n.model.l 0 start = rw f at h.left in
      record {
        nodes = k.nodes ∙ h.nodes;
        slots = k.slots ∙ h.slots;
        used = k.used ∙ h.used;
        within = omega arith;
        left = rw (e, reads) g;
      }

  pub left-child : (c : ℕ) (m' : Mem) → s ≡ Ok (Child c) → m' ≡ release depth m c → Left depth n (j + 1) start m'
  unfolding release_slot
  left-child c m' q e = left_step m' (rw (q, e)) (rw e (release_frees depth m c))

  pub left_other : ((c : ℕ) → s ≡ Ok (Child c) → ⊥) → Left depth n (j + 1) start m
  left_other none = left_step m (sym (other-slot (release depth) m s none)) (frees_same m)

-- the exits: no fuel, a record that is not good, and the end of the slots
module _ (fuel : ℕ) (m : Mem) (r : ℕ) where
  pub ends_no_fuel : fuel < 1 → m ≡ release fuel m r
  unfolding release
  ends_no_fuel h = let e : fuel ≡ 0 = omega arith in rw e

  module _ (some : 1 ≤ fuel) (x : Result Node Rule) (reads : x ≡ node_at m r) where
    fueled : fuel ≡ suc (fuel - 1)
    fueled = omega arith

    pub ends-broken : (c : Rule) → x ≡ Err c → m ≡ release fuel m r
    ends-broken c e = rw fueled (sym (release-broken (fuel - 1) m r c (sym reads ∙ e)))

    pub ends_dropped : (n : Node) (j : ℕ) (m' after : Mem) → x ≡ Ok n → Left (fuel - 1) n j m m' → n.model.l ≤ j → after ≡ drop_node m' r n → after ≡ release fuel m r
    unfolding release_slots
    ends_dropped n j m' after e h done d =
        let z : n.model.l - j ≡ 0 = omega arith in
        let g : m' ≡ release_slots (release (fuel - 1)) n n.model.l 0 m = rw z at h.left in
        rw fueled (d ∙ ap (λ (y : Mem). drop_node y r n) g ∙ sym (release-good (fuel - 1) m r n (sym reads ∙ e)))

-- By computation: record 0 with slots 0 to 3 leads by its slot 2 to record 1 with slots 4 to 7; record 2 with slots 8 to 11 is another
-- tree. Result Node Rule 0's tree goes and the other stays.
record_of : ℕ → List ℕ → List ℕ
record_of start rest = 10 ∷ 5 ∷ 4 ∷ start ∷ 1 ∷ 1 ∷ 0 ∷ 0 ∷ rest

two_trees : Mem
two_trees =
    mem
    (record_of 0 (record_of 4 (record_of 8 [])))
    (0 ∷ 0 ∷ 0 ∷ 0 ∷ (2 * 2 ^ 48 + 1) ∷ 0 ∷ 0 ∷ 0 ∷ 0 ∷ 0 ∷ 0 ∷ 0 ∷ (2 ^ 48 + 12) ∷ 7 ∷ 0 ∷ 0 ∷ 0 ∷ 0 ∷ (2 ^ 48 + 10) ∷ 8 ∷ 0 ∷ 0 ∷ 0 ∷ 0 ∷ [])
    ((2 ^ 15 - 1) ∷ [])

released_tree : release 2 two_trees 0
    ≡ mem
    (replicate 16 0 ++ record_of 8 [])
    (replicate 18 0 ++ ((2 ^ 48 + 10) ∷ 8 ∷ 0 ∷ 0 ∷ 0 ∷ 0 ∷ []))
    ((4 + 2 ^ 11 * 15) ∷ [])
unfolding record_of two_trees used_at clear_at clear_run in_range slot_of node_in node_fits node_at slot_says slot_at zero_record zero_run drop_node release_slot release_slots release_record release
released_tree = refl
