-- Storing a node's record and zeroing one: its eight words afterwards, every word outside it, the length, and that words of 64
-- bits stay such. Assumes nothing.
use mathlib.Core.List.{List, [], ◌∷◌}
use mathlib.Core.Logic.{◌⊎◌, inl, inr, ⊎_elim}
use mathlib.Core.Path.{◌≡◌}
use Prim.Native.Nat.{ℕ, zero, suc, ◌+◌, ◌*◌, ◌^◌, ◌<◌, ◌≤◌}
use native.Mathlib.Omega.{arith}
use lib.ListN.{length, get_or, set, replicate}
use lib.Seq.{length-sets}
use Rattle.laws.proofs.Tests.{le_or_lt}
use Rattle.pool.specs.Memory.{record_words, lo_word, w_word, l_word, start_word, elements_word, built_word, conflicts_word}
use Rattle.pool.specs.Writing.{put_node, zero_record}
use Rattle.pool.specs.declared.Node.{Node}
use Rattle.pool.proofs.Sets.{Words, sets_before, sets_past, sets_within, sets_zeros, sets_words, sets_eight, zeros-words}

-- the eighth word of a record, which is 0
abbrev pub last_word : ℕ → ℕ
last_word r = r * record_words + 7

-- the words of a new node's record
abbrev pub words_of : Node → ℕ → List ℕ
words_of n count = n.model.lo ∷ n.model.w ∷ n.model.l ∷ n.start ∷ count ∷ count ∷ 0 ∷ 0 ∷ []

-- word k of another record lies outside
other-record : (q r k : ℕ) → (q ≡ r → ⊥) → k < record_words → (q * record_words + k < lo_word r) ⊎ (lo_word r + record_words ≤ q * record_words + k)
other-record q r k d h = ⊎_elim (λ a. inr (omega (arith, d, a))) (λ a. inl (omega (arith, a))) (le_or_lt r q)

module _ (ns : List ℕ) (r : ℕ) (n : Node) (count : ℕ) where
  -- the stores, one after the other
  pub put_node_stores :
      set (set (set (set (set (set (set (set ns (lo_word r) n.model.lo) (w_word r) n.model.w) (l_word r) n.model.l) (start_word r) n.start) (elements_word r) count) (built_word r) count) (conflicts_word r) 0) (last_word r) 0
      ≡ put_node ns r n count
  unfolding put_node
  put_node_stores = sets_eight ns (lo_word r) _ _ _ _ _ _ _ _

  pub length-put_node : length (put_node ns r n count) ≡ length ns
  unfolding put_node
  length-put_node = length-sets ns (lo_word r) (words_of n count)

  pub put_node_outside : (i : ℕ) → (i < lo_word r) ⊎ (lo_word r + record_words ≤ i) → get_or (put_node ns r n count) i 0 ≡ get_or ns i 0
  unfolding put_node
  put_node_outside i h = ⊎_elim (λ a. sets_before ns (lo_word r) (words_of n count) i a) (λ a. sets_past ns (lo_word r) (words_of n count) i a) h

  pub put_node-other : (q k : ℕ) → (q ≡ r → ⊥) → k < record_words → get_or (put_node ns r n count) (q * record_words + k) 0 ≡ get_or ns (q * record_words + k) 0
  put_node-other q k d h = put_node_outside _ (other-record q r k d h)

  pub put_node-words : Words ns → n.model.lo < 2 ^ 64 → n.model.w < 2 ^ 64 → n.model.l < 2 ^ 64 → n.start < 2 ^ 64 → count < 2 ^ 64 → Words (put_node ns r n count)
  unfolding put_node
  put_node-words w a b c d e = sets_words ns (lo_word r) (words_of n count) w words
    where
      words : Words (words_of n count)
      words zero = a
      words (suc zero) = b
      words (suc (suc zero)) = c
      words (suc (suc (suc zero))) = d
      words (suc (suc (suc (suc zero)))) = e
      words (suc (suc (suc (suc (suc zero))))) = e
      words (suc (suc (suc (suc (suc (suc k)))))) = zeros-words 2 k

  module _ (within : last_word r < length ns) where
    pub put_node-lo : get_or (put_node ns r n count) (lo_word r) 0 ≡ n.model.lo
    unfolding put_node
    put_node-lo = let e : lo_word r + 0 ≡ lo_word r = omega arith in rw e at (sets_within ns (lo_word r) (words_of n count) 0 (omega arith) (omega arith))

    pub put_node-w : get_or (put_node ns r n count) (w_word r) 0 ≡ n.model.w
    unfolding put_node
    put_node-w = sets_within ns (lo_word r) (words_of n count) 1 (omega arith) (omega arith)

    pub put_node-l : get_or (put_node ns r n count) (l_word r) 0 ≡ n.model.l
    unfolding put_node
    put_node-l = sets_within ns (lo_word r) (words_of n count) 2 (omega arith) (omega arith)

    pub put_node-start : get_or (put_node ns r n count) (start_word r) 0 ≡ n.start
    unfolding put_node
    put_node-start = sets_within ns (lo_word r) (words_of n count) 3 (omega arith) (omega arith)

    pub put_node-elements : get_or (put_node ns r n count) (elements_word r) 0 ≡ count
    unfolding put_node
    put_node-elements = sets_within ns (lo_word r) (words_of n count) 4 (omega arith) (omega arith)

    pub put_node-built : get_or (put_node ns r n count) (built_word r) 0 ≡ count
    unfolding put_node
    put_node-built = sets_within ns (lo_word r) (words_of n count) 5 (omega arith) (omega arith)

    pub put_node-conflicts : get_or (put_node ns r n count) (conflicts_word r) 0 ≡ 0
    unfolding put_node
    put_node-conflicts = sets_within ns (lo_word r) (words_of n count) 6 (omega arith) (omega arith)

    pub put_node_last : get_or (put_node ns r n count) (last_word r) 0 ≡ 0
    unfolding put_node
    put_node_last = sets_within ns (lo_word r) (words_of n count) 7 (omega arith) (omega arith)

module _ (ns : List ℕ) (r : ℕ) where
  pub zero_record_stores :
      set (set (set (set (set (set (set (set ns (lo_word r) 0) (w_word r) 0) (l_word r) 0) (start_word r) 0) (elements_word r) 0) (built_word r) 0) (conflicts_word r) 0) (last_word r) 0
      ≡ zero_record ns r
  unfolding zero_record
  zero_record_stores = sets_eight ns (lo_word r) 0 0 0 0 0 0 0 0

  pub length-zero_record : length (zero_record ns r) ≡ length ns
  unfolding zero_record
  length-zero_record = length-sets ns (lo_word r) (replicate record_words 0)

  pub zero_record-inside : (i : ℕ) → lo_word r ≤ i → i < lo_word r + record_words → get_or (zero_record ns r) i 0 ≡ 0
  unfolding zero_record
  zero_record-inside i a b = sets_zeros ns (lo_word r) record_words i a b

  pub zero_record_outside : (i : ℕ) → (i < lo_word r) ⊎ (lo_word r + record_words ≤ i) → get_or (zero_record ns r) i 0 ≡ get_or ns i 0
  unfolding zero_record
  zero_record_outside i h = ⊎_elim (λ a. sets_before ns (lo_word r) (replicate record_words 0) i a) (λ a. sets_past ns (lo_word r) (replicate record_words 0) i a) h

  pub zero_record-other : (q k : ℕ) → (q ≡ r → ⊥) → k < record_words → get_or (zero_record ns r) (q * record_words + k) 0 ≡ get_or ns (q * record_words + k) 0
  zero_record-other q k d h = zero_record_outside _ (other-record q r k d h)

  pub zero_record-words : Words ns → Words (zero_record ns r)
  unfolding zero_record
  zero_record-words w = sets_words ns (lo_word r) (replicate record_words 0) w (zeros-words record_words)
