-- `counters::raise` meets its contract. The loop's invariant: what is left to raise from here is the whole. Assumes nothing.
use mathlib.Core.Bool.{Bool}
use mathlib.Core.List.{List}
use mathlib.Core.Path.{◌≡◌, ap, ◌∙◌, sym}
use native.Mathlib.Omega.{arith}
use Prim.Native.Nat.{ℕ, ◌≤◌}
use Rattle.std.proofs.Common.{length, drop}
use Rattle.std.proofs.lemmas.List.{at_drop_more, at_drop_all}
use Rattle.counters.specs.Counters.{raise}
use Rattle.counters.proofs.raise.Goals as goal

-- past the last of the nodes xs, which are the nodes ys, the records are raised
raised : (ns old : List ℕ) (conflict : Bool) (xs ys : List ℕ) (i : ℕ) → length xs ≤ i → raise ns conflict (drop i xs) ≡ raise old conflict xs → xs ≡ ys → ns ≡ raise old conflict ys
unfolding raise
raised ns old conflict xs ys i le e same = sym (at_drop_all (raise ns conflict) xs i le) ∙ e ∙ ap (raise old conflict) same

pub loop-r-preserved : goal.loop-r-preserved
unfolding raise
loop-r-preserved c =
    rw c.raise_node.ensures (sym (at_drop_more (raise c.loop-r.nodes c.args.conflict) _ c.loop-r.r-index 0 c.loop-r-test.true) ∙ c.loop-r.invariant)

pub returns : goal.returns
returns c = raised _ _ _ _ _ _ c.loop-r-test.false c.loop-r.invariant (grind arith)
