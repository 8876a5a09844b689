-- Reading after a store: what was stored is read, and what another slot, run or record says is as it was. What a node's record
-- and a slot say hangs on four words and on one. Assumes nothing.
use Rattle.std.specs.Prelude.{Ok}
use mathlib.Core.List.{List}
use mathlib.Core.Logic.{◌⊎◌, ⊎_elim, inl, inr}
use mathlib.Core.Path.{◌≡◌, ap}
use Prim.Native.Nat.{ℕ, ◌+◌, ◌*◌, ◌<◌, ◌≤◌}
use native.Mathlib.Omega.{arith}
use lib.ListN.{length, get_or, set}
use lib.Seq.{get_or-set_other}
use Rattle.model.specs.Slots.{value_of, slot_of}
use Rattle.pool.specs.Memory.{record_words, lo_word, w_word, l_word, start_word, kind_word, payload_word, kind_unit}
use Rattle.pool.specs.Reading.{node_in, slot_says, slot_at}
use Rattle.pool.specs.Writing.{put_node, put_data, put_child, put_null, zero_record, zero_run}
use Rattle.pool.specs.declared.Node.{Node}
use Rattle.pool.specs.declared.Slot.TheVariants.{Null, Data, Child}
use Rattle.pool.proofs.RecordStores.{last_word, put_node-lo, put_node-w, put_node-l, put_node-start, put_node-other, zero_record-other}
use Rattle.pool.proofs.RunStores.{zero_run-inside, zero_run_outside}
use Rattle.pool.proofs.SlotStores.{put_data_kind, put_data-other, put_child_kind, put_child-other, put_null_kind, put_null-other}
use Rattle.pool.proofs.Slots.{null-reads, data_reads, child-reads}

-- a node is its record's first four words
pub node_from_words : (ns : List ℕ) (r : ℕ) (n : Node)
    → get_or ns (lo_word r) 0 ≡ n.model.lo → get_or ns (w_word r) 0 ≡ n.model.w → get_or ns (l_word r) 0 ≡ n.model.l → get_or ns (start_word r) 0 ≡ n.start
    → node_in ns r ≡ n
unfolding node_in
node_from_words ns r n a b c d = rw (a, b, c, d)

pub node-same : (ns ms : List ℕ) (r : ℕ) → ((k : ℕ) → k < 4 → get_or ns (r * record_words + k) 0 ≡ get_or ms (r * record_words + k) 0) → node_in ns r ≡ node_in ms r
unfolding node_in
node-same ns ms r f =
    let e : r * record_words + 0 ≡ r * record_words = omega arith in
    let a : get_or ns (lo_word r) 0 ≡ get_or ms (lo_word r) 0 = rw e at (f 0 (omega arith)) in
    rw (a, f 1 (omega arith), f 2 (omega arith), f 3 (omega arith))

module _ (ns : List ℕ) (r : ℕ) where
  pub node-put : (n : Node) (count : ℕ) → last_word r < length ns → node_in (put_node ns r n count) r ≡ n
  node-put n count h =
      node_from_words (put_node ns r n count) r n
      (put_node-lo ns r n count h)
      (put_node-w ns r n count h)
      (put_node-l ns r n count h)
      (put_node-start ns r n count h)

  pub node-put-other : (n : Node) (count q : ℕ) → (q ≡ r → ⊥) → node_in (put_node ns r n count) q ≡ node_in ns q
  node-put-other n count q d = node-same _ ns q (λ k h. put_node-other ns r n count q k d (omega arith))

  pub node_zero_other : (q : ℕ) → (q ≡ r → ⊥) → node_in (zero_record ns r) q ≡ node_in ns q
  node_zero_other q d = node-same _ ns q (λ k h. zero_record-other ns r q k d (omega arith))

  -- a counter of any record is no part of a node
  pub node_counter : (k x q : ℕ) → 4 ≤ k → k < record_words → node_in (set ns (r * record_words + k) x) q ≡ node_in ns q
  node_counter k x q a b = node-same _ ns q (λ i h. get_or-set_other ns (r * record_words + k) (q * record_words + i) x 0 (λ e. omega arith))

-- a slot is what its first word says
pub slot_same : (ss ts : List ℕ) (n : Node) (j : ℕ) → get_or ss (kind_word (n.start + j)) 0 ≡ get_or ts (kind_word (n.start + j)) 0 → slot_at ss n j ≡ slot_at ts n j
unfolding slot_at
slot_same ss ts n j e = ap (slot_says n j) e

module _ (ss : List ℕ) (n : Node) (j : ℕ) where
  pub slot-put_data : (key payload : ℕ) → payload_word (n.start + j) < length ss → key < kind_unit → slot_of n.model (value_of key) ≡ j → slot_at (put_data ss (n.start + j) key payload) n j ≡ Ok (Data key)
  slot-put_data key payload h small belongs =
      data_reads _ n j key (record { word = put_data_kind ss (n.start + j) key payload h; small = small; belongs = belongs })

  pub slot-put_child : (child : ℕ) → payload_word (n.start + j) < length ss → child < kind_unit → slot_at (put_child ss (n.start + j) child) n j ≡ Ok (Child child)
  slot-put_child child h small =
      child-reads _ n j child (record { word = put_child_kind ss (n.start + j) child h; small = small })

  pub slot-put_null : payload_word (n.start + j) < length ss → slot_at (put_null ss (n.start + j)) n j ≡ Ok Null
  slot-put_null h = null-reads _ n j (rw (put_null_kind ss (n.start + j) h))

  pub slot-zero_run : (start l : ℕ) → start ≤ n.start + j → n.start + j < start + l → slot_at (zero_run ss start l) n j ≡ Ok Null
  slot-zero_run start l a b = null-reads _ n j (rw (zero_run-inside ss start l (kind_word (n.start + j)) (omega arith) (omega arith)))

  pub slot-put_data-other : (q key payload : ℕ) → (n.start + j ≡ q → ⊥) → slot_at (put_data ss q key payload) n j ≡ slot_at ss n j
  slot-put_data-other q key payload d =
      slot_same _ ss n j (put_data-other ss q key payload _ (λ e. d (omega arith)) (λ e. omega arith))

  pub slot-put_child-other : (q child : ℕ) → (n.start + j ≡ q → ⊥) → slot_at (put_child ss q child) n j ≡ slot_at ss n j
  slot-put_child-other q child d = slot_same _ ss n j (put_child-other ss q child _ (λ e. d (omega arith)) (λ e. omega arith))

  pub slot-put_null-other : (q : ℕ) → (n.start + j ≡ q → ⊥) → slot_at (put_null ss q) n j ≡ slot_at ss n j
  slot-put_null-other q d = slot_same _ ss n j (put_null-other ss q _ (λ e. d (omega arith)) (λ e. omega arith))

  pub slot-zero_run-other : (start l : ℕ) → (n.start + j < start) ⊎ (start + l ≤ n.start + j) → slot_at (zero_run ss start l) n j ≡ slot_at ss n j
  slot-zero_run-other start l h =
      slot_same _ ss n j
      (zero_run_outside ss start l _ (⊎_elim (λ a. inl (omega arith)) (λ a. inr (omega arith)) h))
