-- Zeroing a run of slots: what stands at each place afterwards, and the length. Assumes nothing.
use mathlib.Core.List.{List}
use mathlib.Core.Logic.{◌⊎◌, ⊎_elim}
use mathlib.Core.Path.{◌≡◌}
use Prim.Native.Nat.{ℕ, ◌+◌, ◌-◌, ◌*◌, ◌<◌, ◌≤◌}
use native.Mathlib.Omega.{arith}
use lib.ListN.{length, get_or, replicate, length-replicate}
use lib.Seq.{sets, length-sets}
use Rattle.pool.specs.Memory.{kind_word, slot_words}
use Rattle.pool.specs.Writing.{zero_run}
use Rattle.pool.proofs.Sets.{Words, sets_before, sets_past, sets_zeros, sets_words, zeros-words}

module _ (ss : List ℕ) (start l : ℕ) where
  -- the words from the run's first to its last, zeroed
  pub zero_run-start : sets ss (kind_word start) (replicate (kind_word (start + l) - kind_word start) 0) ≡ zero_run ss start l
  unfolding zero_run
  zero_run-start = let e : kind_word (start + l) - kind_word start ≡ l * slot_words = omega arith in rw e

  pub length-zero_run : length (zero_run ss start l) ≡ length ss
  unfolding zero_run
  length-zero_run = length-sets ss (kind_word start) (replicate (l * slot_words) 0)

  pub zero_run-inside : (i : ℕ) → kind_word start ≤ i → i < kind_word (start + l) → get_or (zero_run ss start l) i 0 ≡ 0
  unfolding zero_run
  zero_run-inside i a b = sets_zeros ss (kind_word start) (l * slot_words) i a (omega arith)

  pub zero_run_outside : (i : ℕ) → (i < kind_word start) ⊎ (kind_word (start + l) ≤ i) → get_or (zero_run ss start l) i 0 ≡ get_or ss i 0
  unfolding zero_run
  zero_run_outside i h =
      ⊎_elim
      (λ a. sets_before ss (kind_word start) (replicate (l * slot_words) 0) i a)
      (λ a. let n : length {A = ℕ} (replicate (l * slot_words) 0) ≡ l * slot_words = length-replicate (l * slot_words) 0 in sets_past ss (kind_word start) (replicate (l * slot_words) 0) i (omega arith))
      h

  pub zero_run-words : Words ss → Words (zero_run ss start l)
  unfolding zero_run
  zero_run-words w = sets_words ss (kind_word start) (replicate (l * slot_words) 0) w (zeros-words (l * slot_words))
