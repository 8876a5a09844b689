-- Storing a slot, a key with its payload, a child or nothing: its two words afterwards, every other word, the length, and that
-- words of 64 bits stay such. The three stores are one, of two words. Assumes nothing.
use mathlib.Core.List.{List}
use mathlib.Core.Path.{◌≡◌, ◌∙◌}
use Prim.Native.Nat.{ℕ, ◌+◌, ◌*◌, ◌^◌, ◌<◌}
use native.Mathlib.Omega.{arith}
use lib.ListN.{length, get_or, set, length-set}
use lib.Seq.{get_or-set_same, get_or-set_other}
use Rattle.marks.proofs.Marks.{store_words}
use Rattle.pool.specs.Memory.{kind_word, payload_word, kind_unit, data_kind, node_kind}
use Rattle.pool.specs.Writing.{put_data, put_child, put_null}
use Rattle.pool.proofs.Sets.{Words}

-- two words x and y stored in slot q
module _ (ss : List ℕ) (q x y : ℕ) where
  abbrev two : List ℕ
  two = set (set ss (kind_word q) x) (payload_word q) y

  length_two : length two ≡ length ss
  length_two = simp length-set

  two_kind : payload_word q < length ss → get_or two (kind_word q) 0 ≡ x
  two_kind h =
      get_or-set_other (set ss (kind_word q) x) (payload_word q) (kind_word q) y 0 (λ e. omega arith)
      ∙ get_or-set_same ss (kind_word q) x 0 (omega arith)

  two-payload : payload_word q < length ss → get_or two (payload_word q) 0 ≡ y
  two-payload h = get_or-set_same (set ss (kind_word q) x) (payload_word q) y 0 (simp length-set (omega arith))

  two-other : (i : ℕ) → (i ≡ kind_word q → ⊥) → (i ≡ payload_word q → ⊥) → get_or two i 0 ≡ get_or ss i 0
  two-other i a b =
      get_or-set_other (set ss (kind_word q) x) (payload_word q) i y 0 b ∙ get_or-set_other ss (kind_word q) i x 0 a

  two-words : Words ss → x < 2 ^ 64 → y < 2 ^ 64 → Words two
  two-words w a b = store_words (set ss (kind_word q) x) (payload_word q) y (store_words ss (kind_word q) x w a) b

module _ (ss : List ℕ) (q key payload : ℕ) where
  pub length-put_data : length (put_data ss q key payload) ≡ length ss
  unfolding put_data
  length-put_data = length_two ss q _ _

  pub put_data_kind : payload_word q < length ss → get_or (put_data ss q key payload) (kind_word q) 0 ≡ data_kind * kind_unit + key
  unfolding put_data
  put_data_kind h = two_kind ss q _ _ h

  pub put_data-payload : payload_word q < length ss → get_or (put_data ss q key payload) (payload_word q) 0 ≡ payload
  unfolding put_data
  put_data-payload h = two-payload ss q _ _ h

  pub put_data-other : (i : ℕ) → (i ≡ kind_word q → ⊥) → (i ≡ payload_word q → ⊥) → get_or (put_data ss q key payload) i 0 ≡ get_or ss i 0
  unfolding put_data
  put_data-other i a b = two-other ss q _ _ i a b

  pub put_data-words : Words ss → key < kind_unit → payload < 2 ^ 64 → Words (put_data ss q key payload)
  unfolding put_data
  put_data-words w a b = two-words ss q _ _ w (omega arith) b

module _ (ss : List ℕ) (q child : ℕ) where
  pub length-put_child : length (put_child ss q child) ≡ length ss
  unfolding put_child
  length-put_child = length_two ss q _ _

  pub put_child_kind : payload_word q < length ss → get_or (put_child ss q child) (kind_word q) 0 ≡ node_kind * kind_unit + child
  unfolding put_child
  put_child_kind h = two_kind ss q _ _ h

  pub put_child-payload : payload_word q < length ss → get_or (put_child ss q child) (payload_word q) 0 ≡ 0
  unfolding put_child
  put_child-payload h = two-payload ss q _ _ h

  pub put_child-other : (i : ℕ) → (i ≡ kind_word q → ⊥) → (i ≡ payload_word q → ⊥) → get_or (put_child ss q child) i 0 ≡ get_or ss i 0
  unfolding put_child
  put_child-other i a b = two-other ss q _ _ i a b

  pub put_child-words : Words ss → child < kind_unit → Words (put_child ss q child)
  unfolding put_child
  put_child-words w a = two-words ss q _ _ w (omega arith) (omega arith)

module _ (ss : List ℕ) (q : ℕ) where
  pub length-put_null : length (put_null ss q) ≡ length ss
  unfolding put_null
  length-put_null = length_two ss q _ _

  pub put_null_kind : payload_word q < length ss → get_or (put_null ss q) (kind_word q) 0 ≡ 0
  unfolding put_null
  put_null_kind h = two_kind ss q _ _ h

  pub put_null-payload : payload_word q < length ss → get_or (put_null ss q) (payload_word q) 0 ≡ 0
  unfolding put_null
  put_null-payload h = two-payload ss q _ _ h

  pub put_null-other : (i : ℕ) → (i ≡ kind_word q → ⊥) → (i ≡ payload_word q → ⊥) → get_or (put_null ss q) i 0 ≡ get_or ss i 0
  unfolding put_null
  put_null-other i a b = two-other ss q _ _ i a b

  pub put_null-words : Words ss → Words (put_null ss q)
  unfolding put_null
  put_null-words w = two-words ss q _ _ w (omega arith) (omega arith)
