-- `model::keys::first_fall` meets its contract. The loop's invariant: what is left to search from here is the whole search.
-- Assumes nothing.
use mathlib.Core.Path.{◌≡◌}
use Prim.Native.Nat.{◌-◌}
use lib.ListN.{get_or, drop}
use Rattle.laws.specs.Keys.{first_fall, fall_from}
use Rattle.model.proofs.keys.first_fall.Given as goal

abbrev pub invariant-loop-i : goal.invariant-loop-i
invariant-loop-i g l =
    let ks = g.K.Keys.keys l.keys in
    (l.before ≡ get_or ks (l.i - 1) 0) × (fall_from l.i l.before (drop l.i ks) ≡ first_fall ks)
