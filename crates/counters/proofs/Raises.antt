-- Raising the counters of a path: which words it leaves, and that every record reads as before. Assumes
-- nothing.
use mathlib.Core.Bool.{Bool, true, false}
use mathlib.Core.List.{List, [], ◌∷◌}
use mathlib.Core.Path.{◌≡◌, refl, ◌∙◌}
use Prim.Native.Nat.{ℕ, ◌+◌, ◌*◌, ◌<◌, ◌≤◌}
use native.Mathlib.Omega.{arith}
use lib.ListN.{length, get_or, set, length-set}
use lib.Seq.{get_or-set_other}
use Rattle.marks.proofs.Marks.{store_words}
use Rattle.pool.proofs.AfterStores.{node-same}
use Rattle.pool.proofs.Sets.{Words}
use Rattle.pool.specs.Memory.{mem, record_words, records_in, elements_word, conflicts_word}
use Rattle.pool.specs.Reading.{node_in, node_at}
use Rattle.counters.specs.Counters.{counter_stop, one_more, raise_elements, raise_conflicts, raise_node, raise}

-- a counter stops
pub one_more-stops : (x : ℕ) → one_more x ≤ counter_stop
unfolding one_more
one_more-stops x = omega arith

-- what holds of the nodes' words, and still holds after one counter of one record is set, holds after the raising
module _ (P : List ℕ → Type 0) (kept : (ns : List ℕ) (r x : ℕ) → P ns → P (set ns (elements_word r) (one_more x))) (kept-too : (ns : List ℕ) (r x : ℕ) → P ns → P (set ns (conflicts_word r) (one_more x))) where
  raise_node-keeps : (ns : List ℕ) (conflict : Bool) (r : ℕ) → P ns → P (raise_node ns conflict r)
  unfolding raise_node raise_elements raise_conflicts
  raise_node-keeps ns true r h = kept-too _ r _ (kept ns r _ h)
  raise_node-keeps ns false r h = kept ns r _ h

  raise-keeps : (ns : List ℕ) (conflict : Bool) (p : List ℕ) → P ns → P (raise ns conflict p)
  unfolding raise
  raise-keeps ns conflict [] h = h
  raise-keeps ns conflict (r ∷ p) h = raise-keeps (raise_node ns conflict r) conflict p (raise_node-keeps ns conflict r h)

pub length-raise : (ns : List ℕ) (conflict : Bool) (p : List ℕ) → length (raise ns conflict p) ≡ length ns
length-raise ns conflict p =
    raise-keeps (λ (ms : List ℕ). length ms ≡ length ns) (λ ms q x h. simp length-set h) (λ ms q x h. simp length-set h) ns conflict p refl

pub records-raise : (ns : List ℕ) (conflict : Bool) (p : List ℕ) → records_in (raise ns conflict p) ≡ records_in ns
records-raise ns conflict p = rw (length-raise ns conflict p)

-- word k of record q, if it is neither elements nor conflicts
pub raise_leaves : (ns : List ℕ) (conflict : Bool) (p : List ℕ) (q k : ℕ) → k < record_words → (k ≡ 4 → ⊥) → (k ≡ 6 → ⊥)
    → get_or (raise ns conflict p) (q * record_words + k) 0 ≡ get_or ns (q * record_words + k) 0
raise_leaves ns conflict p q k h a b =
    raise-keeps (λ (ms : List ℕ). get_or ms (q * record_words + k) 0 ≡ get_or ns (q * record_words + k) 0)
    (λ ms r x f. get_or-set_other ms (elements_word r) (q * record_words + k) (one_more x) 0 (λ e. a (omega arith)) ∙ f)
    (λ ms r x f. get_or-set_other ms (conflicts_word r) (q * record_words + k) (one_more x) 0 (λ e. b (omega arith)) ∙ f)
    ns conflict p refl

-- so every record is the same node
pub node-raise : (ns : List ℕ) (conflict : Bool) (p : List ℕ) (q : ℕ) → node_in (raise ns conflict p) q ≡ node_in ns q
node-raise ns conflict p q = node-same _ ns q (λ k h. raise_leaves ns conflict p q k (omega arith) (λ e. omega arith) (λ e. omega arith))

pub reads-raise : (ns ss us : List ℕ) (conflict : Bool) (p : List ℕ) (q : ℕ) → node_at (mem (raise ns conflict p) ss us) q ≡ node_at (mem ns ss us) q
unfolding node_at
reads-raise ns ss us conflict p q = rw (length-raise ns conflict p, node-raise ns conflict p q)

pub raise-words : (ns : List ℕ) (conflict : Bool) (p : List ℕ) → Words ns → Words (raise ns conflict p)
raise-words ns conflict p w =
    raise-keeps Words
    (λ ms r x h. store_words ms (elements_word r) (one_more x) h (omega (arith, one_more-stops x)))
    (λ ms r x h. store_words ms (conflicts_word r) (one_more x) h (omega (arith, one_more-stops x)))
    ns conflict p w

-- the stores, one after the other
module _ (ns : List ℕ) (conflict : Bool) (r elements : ℕ) (one : elements ≡ one_more (get_or ns (elements_word r) 0)) where
  pub raise_elements_stored : conflict ≡ false → set ns (elements_word r) elements ≡ raise_node ns conflict r
  unfolding raise_node raise_elements
  raise_elements_stored e = rw (e, one)

  pub raise_both_stored : (conflicts : ℕ) → conflicts ≡ one_more (get_or (set ns (elements_word r) elements) (conflicts_word r) 0) → conflict ≡ true
      → set (set ns (elements_word r) elements) (conflicts_word r) conflicts ≡ raise_node ns conflict r
  unfolding raise_node raise_elements raise_conflicts
  raise_both_stored conflicts two e = rw (e, two, one)
