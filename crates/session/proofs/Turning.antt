-- A turn put together from the block's run and the move of what is left; and what the first state says of its lists. Assumes nothing.
use mathlib.Core.Bool.{Bool}
use mathlib.Core.List.{List, [], ◌++◌}
use mathlib.Core.Path.{◌≡◌, sym, ap, ◌∙◌}
use Prim.Native.Nat.{ℕ, ◌+◌, ◌-◌}
use lib.ListN.{length, replicate, take, drop}
use Rattle.pool.specs.Memory.{Mem, mem}
use Rattle.rebuild.specs.Rebuilding.{scratch}
use Rattle.store.specs.Loading.{load_of, loaded}
use Rattle.store.specs.declared.Handle.{Handle}
use Rattle.std.specs.Prelude.{Result, Ok}
use Rattle.laws.specs.declared.Refusal.{Refusal}
use Rattle.operations.specs.Blocks.{left_after}
use Rattle.operations.specs.Runs.{RunsTo}
use Rattle.operations.specs.Sessions.{start}
use Rattle.operations.specs.Stepping.{State, state}
use Rattle.operations.specs.declared.blocks.Pause.{Pause}

-- the rest of the session is that of the bytes moved
pub turned : (o held taken : ℕ) (input moved printed : List ℕ) (last : Bool) (p : Pause) (s t : State)
    → RunsTo last o (take held input) s printed p (o + taken) (drop taken (take held input)) t
    → take (held - taken) moved ≡ drop taken (take held input)
    → RunsTo last o (take held input) s printed p (o + taken) (take (held - taken) moved) t
turned o held taken input moved printed last p s t e m more q =
    e more q ∙ ap (λ (l : List ℕ). printed ++ left_after p (o + taken) (l ++ more) t) (sym m)

-- the lists of a band hold 64
pub first-lists : (s : State) → s ≡ start → (length s.keys ≡ 64) × (length s.payloads ≡ 64)
unfolding start
first-lists s e = (ap (λ (x : State). length x.keys) e, ap (λ (x : State). length x.payloads) e)

-- the empty load into zeros, with zeros in all other lists, is the first state
pub begun : (nodes slots used : List ℕ) (m : Mem) (r : Result Handle Refusal) (h : Handle) (keys payloads places ks ps : List ℕ)
    → r ≡ Ok h → loaded r m ≡ load_of 512 [] [] (mem nodes slots used)
    → nodes ≡ replicate 2048 0 → slots ≡ replicate 4096 0 → used ≡ replicate 36 0
    → keys ≡ replicate 512 0 → payloads ≡ replicate 512 0 → places ≡ replicate 512 0 → ks ≡ replicate 64 0 → ps ≡ replicate 64 0
    → state h m (scratch keys payloads places) ks ps ≡ start
unfolding start loaded
begun nodes slots used m r h keys payloads places ks ps d e en es eu ek ep ea ef eg =
    let l : load_of 512 [] [] (mem (replicate 2048 0) (replicate 4096 0) (replicate 36 0)) ≡ loaded (Ok h) m = sym (rw (d, en, es, eu) at e) in
    rw (l, ek, ep, ea, ef, eg)
