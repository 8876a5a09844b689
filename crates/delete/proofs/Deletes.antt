-- Delete as what it makes of the search (crates/store/proofs/Searching), and a law for each way out where the key was found.
-- Assumes nothing.
use mathlib.Core.List.{List, []}
use mathlib.Core.Path.{◌≡◌, sym}
use Prim.Native.Nat.{ℕ, ◌<◌, ◌≤◌}
use borrow.Author.Tests.{le-leb, lt-leb}
use lib.Dec.{leb}
use Rattle.delete.specs.Deleting.{one_less, delete_of}
use Rattle.laws.specs.Answers.{done, refused, damage}
use Rattle.laws.specs.Pick.{pick}
use Rattle.pool.specs.Memory.{Mem, mem}
use Rattle.pool.specs.Writing.{put_null}
use Rattle.store.specs.Calls.{call, search_of, answer_by}
use Rattle.std.specs.Prelude.{Result, Ok}
use Rattle.laws.specs.declared.Refusal.{Refusal}
use Rattle.store.specs.declared.Handle.{Handle}
use Rattle.store.specs.declared.Held.{Held}

module _ (h : Handle) (k : ℕ) (m : Mem) where
  pub delete_by : (s : Result Held Refusal) → s ≡ search_of h k m
      → answer_by (λ a. call a h m)
      (λ q v. pick (leb 1 h.count) (call (done []) (one_less h) (mem m.nodes (put_null m.slots q) m.used)) (call (refused damage) h m)) s
      ≡ delete_of h k m
  unfolding delete_of
  delete_by s e = rw e

  -- the key was found: with a count of 0 it is damage, else the slot becomes NULL
  module _ (f : Held) (e : search_of h k m ≡ Ok f) where
    pub delete-none : h.count < 1 → call (refused damage) h m ≡ delete_of h k m
    delete-none lt = rw (lt-leb 1 h.count lt) at (delete_by (Ok f) (sym e))

    pub delete-done : 1 ≤ h.count → (ss : List ℕ) → ss ≡ put_null m.slots f.slot → call (done []) (one_less h) (mem m.nodes ss m.used) ≡ delete_of h k m
    delete-done le ss g = rw g (rw (le-leb 1 h.count le) at (delete_by (Ok f) (sym e)))
