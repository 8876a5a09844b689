-- Where paths of the pool's records come from: a walk that ends without damage leaves one, and stores that keep the pool's size
-- keep it one. Assumes nothing.
use mathlib.Core.List.{List}
use mathlib.Core.Path.{◌≡◌, subst}
use Prim.Native.Nat.{ℕ}
use Rattle.pool.specs.Memory.{Mem, records_in}
use Rattle.walk.proofs.Paths.{Undamaged, path-short, path_inside, traced_end, traced_len, traced_at}
use Rattle.walk.specs.Walks.{trace_of}
use Rattle.walk.specs.declared.Path.{Path}
use Rattle.walk.specs.declared.Traced.{Traced}
use Rattle.counters.specs.Counters.{OnPath}

pub traced_on_path : (m : Mem) (root k : ℕ) (t : Traced) → t ≡ trace_of m root k → Undamaged t.end → OnPath m.nodes t.path
traced_on_path m root k t is u =
    let len = traced_len m root k t is in
    record {
      short = rw len (path-short m k root);
      within =
          λ i h.
          rw (traced_at m root k t is i h) (path_inside m k root (subst Undamaged (traced_end m root k t is) u) i (rw len at h));
    }

pub on_path_stays : (ns ms : List ℕ) (p : Path) → records_in ms ≡ records_in ns → OnPath ns p → OnPath ms p
on_path_stays ns ms p e on = record { short = on.short; within = λ i h. rw e (on.within i h) }
