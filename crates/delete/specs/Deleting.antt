-- Delete (document 01, "The calls" and "Numbers of the answers"), on every input: the answer, the next handle and every lent word.
-- Refusals come in the order 1, 2, 9, 6, as in lookup and replace (crates/store/specs/Calls). Definitions only.
use Rattle.std.specs.Prelude.{[], ℕ, ◌-◌, leb}
use Rattle.laws.specs.Answers.{done, refused, damage}
use Rattle.laws.specs.Pick.{pick}
use Rattle.pool.specs.Memory.{Mem, mem}
use Rattle.pool.specs.Writing.{put_null}
use Rattle.store.specs.Calls.{Call, call, search_of, answer_by}
use Rattle.store.specs.Handles.{with_count}
use Rattle.store.specs.declared.Handle.{Handle}

-- the handle with one key less
abbrev pub one_less : Handle → Handle
one_less h = with_count (h.count - 1) h

-- "makes the slot NULL and lowers the count of keys; counters and nodes stay"; damage: "in a delete that found its key a count of 0"
unfoldable pub delete_of : Handle → ℕ → Mem → Call
delete_of h k m =
    answer_by (λ a. call a h m)
    (λ q v.
    pick (leb 1 h.count)
    (call (done []) (one_less h) (mem m.nodes (put_null m.slots q) m.used))
    (call (refused damage) h m))
    (search_of h k m)
