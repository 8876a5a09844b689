-- How an insert ends that is not refused: it stands with its counters, or the due node is replaced. Assumes nothing.
use mathlib.Core.Bool.{Bool}
use mathlib.Core.List.{List}
use mathlib.Core.Path.{◌≡◌, refl}
use Prim.Native.Nat.{ℕ, zero, suc, ◌<◌, ◌≤◌}
use native.Mathlib.Omega.{arith}
use lib.ListN.{take}
use lib.Seq.{take-take}
use Rattle.counters.specs.Counters.{raise}
use Rattle.insert.specs.Inserting.{Insert, insertion, tidying_number, one_more_at, fresh, settled, hung, root_at, standing, replaced, inserted}
use Rattle.std.specs.Prelude.{Ok}
use Rattle.insert.specs.declared.Inserted.{Inserted}
use Rattle.insert.specs.declared.Tidying.{Tidying}
use Rattle.insert.specs.declared.Tidying.TheVariants.{Tidied}
use Rattle.store.specs.declared.Changing.{Changing}
use Rattle.pool.specs.Memory.{Mem, mem}
use Rattle.rebuild.specs.Pairs.{pair_gone}
use Rattle.rebuild.specs.Rebuilding.{Scratch}
use Rattle.store.specs.declared.Handle.{Handle}
use Rattle.walk.specs.declared.Path.{Path}

-- the code's answer with what it leaves
abbrev pub leaves : Changing Inserted → Mem → Scratch → Insert
leaves r m s = insertion (inserted r.answer) r.handle m s

abbrev pub done_at : ℕ → Handle → Bool → Tidying → Changing Inserted
done_at root h c t = record { answer = Ok (record { conflict = c; tidying = t }); handle = one_more_at root h }

root-new : (h : Handle) (i r : ℕ) → i < 1 → root_at h i r ≡ r
root-new h zero r e = refl
root-new h (suc i) r e = absurd (omega arith)

root-old : (h : Handle) (i r : ℕ) → 1 ≤ i → root_at h i r ≡ h.root
root-old h zero r e = absurd (omega arith)
root-old h (suc i) r e = refl

module _ (h : Handle) (k p q : ℕ) (c : Bool) (j : ℕ) (path : Path) (t : Tidying) (d : ℕ) (ns ss us ns' ss' : List ℕ) (r : Changing Inserted) where
  pub stands : r ≡ done_at h.root h c t → ss' ≡ settled c q k p d ss → ns' ≡ raise ns c (take path.len path.nodes)
      → (s : Scratch) → leaves r (mem ns' ss' us) s ≡ standing h (fresh k p q c j (take path.len path.nodes)) (tidying_number t) d (mem ns ss us) s
  unfolding standing inserted
  stands e a f s = rw (e, a, f)

module _ (h : Handle) (k p q : ℕ) (c : Bool) (j : ℕ) (path : Path) (i above d r : ℕ) (m : Mem) (ns ss us ns' ss' : List ℕ) (a : Changing Inserted)
    (within : i ≤ path.len) (gone : mem ns ss us ≡ pair_gone c d m) (slots : ss' ≡ hung i above r ss) (nodes : ns' ≡ raise ns c (take i path.nodes)) where
  replaced_by : (root : ℕ) → root_at h i r ≡ root → a ≡ done_at root h c Tidied
      → (s : Scratch) → leaves a (mem ns' ss' us) s ≡ replaced h (fresh k p q c j (take path.len path.nodes)) i above d r m s
  unfolding replaced inserted
  replaced_by root x e s =
      rw (e, slots, nodes, x, take-take i path.len path.nodes within, ← gone)

  pub replaced-root : i < 1 → a ≡ done_at r h c Tidied
      → (s : Scratch) → leaves a (mem ns' ss' us) s ≡ replaced h (fresh k p q c j (take path.len path.nodes)) i above d r m s
  replaced-root z e s = replaced_by r (root-new h i r z) e s

  pub replaced-below : 1 ≤ i → a ≡ done_at h.root h c Tidied
      → (s : Scratch) → leaves a (mem ns' ss' us) s ≡ replaced h (fresh k p q c j (take path.len path.nodes)) i above d r m s
  replaced-below z e s = replaced_by h.root (root-old h i r z) e s
