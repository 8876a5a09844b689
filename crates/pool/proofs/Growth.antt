-- A memory that grows: no list gets longer or shorter, every mark stays, and what is marked used keeps its words. What was read of marked
-- places alone is read of the grown memory too: a good node, a slot that is marked, a run that is wholly marked. Assumes nothing.
use Rattle.std.specs.Prelude.{Ok}
use mathlib.Core.Bool.{true, false}
use mathlib.Core.List.{List}
use mathlib.Core.Path.{◌≡◌, refl, sym, subst, ◌∙◌}
use Prim.Native.Nat.{ℕ, ◌+◌, ◌*◌, ◌<◌}
use native.Mathlib.Omega.{arith}
use lib.ListN.{length, get_or}
use Rattle.laws.proofs.Tests.{true_not_false}
use Rattle.marks.proofs.Runs.{full_run_at, full_run_is}
use Rattle.marks.specs.Used.{used_at, full_run}
use Rattle.pool.specs.Memory.{Mem, mem, record_words, slot_words, records_in, slots_in, slot_place, kind_word, payload_word}
use Rattle.pool.specs.Reading.{node_at, slot_at}
use Rattle.pool.specs.declared.Node.{Node}
use Rattle.pool.proofs.AfterStores.{node-same, slot_same}
use Rattle.pool.proofs.Nodes.{good-node, good-reads}

-- no list longer or shorter, and no mark less
pub record Keeps (m m' : Mem) : Type 0 where
  pub nodes : length m'.nodes ≡ length m.nodes
  pub slots : length m'.slots ≡ length m.slots
  pub used : length m'.used ≡ length m.used
  pub marks : (p : ℕ) → used_at m.used p ≡ true → used_at m'.used p ≡ true

-- and no word of a used record or of a used slot another
pub record Grows (m m' : Mem) : Type 0 where
  pub keeps : Keeps m m'
  pub records : (r : ℕ) → r < records_in m.nodes → used_at m.used r ≡ true
      → (i : ℕ) → i < record_words → get_or m'.nodes (r * record_words + i) 0 ≡ get_or m.nodes (r * record_words + i) 0
  pub runs : (q : ℕ) → q < slots_in m.slots → used_at m.used (slot_place m.nodes q) ≡ true
      → (i : ℕ) → i < slot_words → get_or m'.slots (q * slot_words + i) 0 ≡ get_or m.slots (q * slot_words + i) 0

pub grows_same : (m : Mem) → Grows m m
grows_same m = record {
  keeps = record { nodes = refl; slots = refl; used = refl; marks = λ p e. e };
  records = λ r lt e i h. refl;
  runs = λ q lt e i h. refl;
}

pub keeps_both : (a b c : Mem) → Keeps a b → Keeps b c → Keeps a c
keeps_both a b c h k = record {
  nodes = k.nodes ∙ h.nodes;
  slots = k.slots ∙ h.slots;
  used = k.used ∙ h.used;
  marks = λ p e. k.marks p (h.marks p e);
}

pub grows_both : (a b c : Mem) → Grows a b → Grows b c → Grows a c
grows_both a b c h k = record {
  keeps = keeps_both a b c h.keeps k.keeps;
  records = λ r lt e i li. k.records r (rw h.keeps.nodes lt) (h.keeps.marks r e) i li ∙ h.records r lt e i li;
  runs = λ q lt e i li. k.runs q (rw h.keeps.slots lt) (rw h.keeps.nodes (h.keeps.marks (slot_place a.nodes q) e)) i li ∙ h.runs q lt e i li;
}

-- a place that is used is none that is not
pub used-apart : (u : List ℕ) (p q : ℕ) → used_at u p ≡ true → used_at u q ≡ false → p ≡ q → ⊥
used-apart u p q e f d = true_not_false (sym e ∙ subst (λ (x : ℕ). used_at u x ≡ false) (sym d) f)

-- words stored in a slot that the memory before did not use
pub grows_slot_stored : (m x : Mem) → Grows m x → (q : ℕ) → used_at m.used (slot_place m.nodes q) ≡ false
    → (ss : List ℕ) → length ss ≡ length x.slots → ((i : ℕ) → (i ≡ kind_word q → ⊥) → (i ≡ payload_word q → ⊥) → get_or ss i 0 ≡ get_or x.slots i 0)
    → Grows m (mem x.nodes ss x.used)
grows_slot_stored m x g q free ss long other = record {
  keeps = record { nodes = g.keeps.nodes; slots = long ∙ g.keeps.slots; used = g.keeps.used; marks = g.keeps.marks };
  records = g.records;
  runs = λ y lt e i li.
      let apart : y ≡ q → ⊥ = λ d. used-apart m.used (slot_place m.nodes y) (slot_place m.nodes q) e free (omega arith) in
      other (y * slot_words + i) (λ d. apart (omega arith)) (λ d. apart (omega arith)) ∙ g.runs y lt e i li;
}

-- what is read of a grown memory
module _ (m m' : Mem) (g : Grows m m') where
  pub grows_good : (r : ℕ) (n : Node) → node_at m r ≡ Ok n → node_at m' r ≡ Ok n
  grows_good r n e =
      let h = good-node m r n e in
      good-reads m' r n (record {
        inside = rw g.keeps.nodes h.inside;
        marked = g.keeps.marks r h.marked;
        is = h.is ∙ sym (node-same m'.nodes m.nodes r (λ k lt. g.records r h.inside h.marked k (omega arith)));
        fits = rw g.keeps.slots h.fits;
        range = h.range;
      })

  module _ (q : ℕ) (inside : q < slots_in m.slots) (marked : used_at m.used (slot_place m.nodes q) ≡ true) where
    pub grows_kind : get_or m'.slots (kind_word q) 0 ≡ get_or m.slots (kind_word q) 0
    grows_kind = let e : q * slot_words + 0 ≡ kind_word q = omega arith in rw e at (g.runs q inside marked 0 (omega arith))

    pub grows_payload : get_or m'.slots (payload_word q) 0 ≡ get_or m.slots (payload_word q) 0
    grows_payload = g.runs q inside marked 1 (omega arith)

  pub grows_slot : (n : Node) (j : ℕ) → n.start + j < slots_in m.slots → used_at m.used (slot_place m.nodes (n.start + j)) ≡ true
      → slot_at m'.slots n j ≡ slot_at m.slots n j
  grows_slot n j inside marked = slot_same m'.slots m.slots n j (grows_kind (n.start + j) inside marked)

  pub grows_full : (p n : ℕ) → full_run m.used p n ≡ true → full_run m'.used p n ≡ true
  grows_full p n e = full_run_is m'.used p n (λ q a l. g.keeps.marks q (full_run_at m.used p n e q a l))
