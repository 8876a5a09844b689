-- `model::keys::model_of` meets its contract. The loop tries 1, 2, .. and stays at or before the T of the definition, which exists
-- (proofs/Least): that is why it finds one. Assumes nothing.
use Prim.Native.Nat.{◌≤◌}
use Rattle.model.specs.Choice.{t_of}
use Rattle.model.proofs.keys.model_of.Given as goal

abbrev pub invariant-loop-t : goal.invariant-loop-t
invariant-loop-t g l = l.t ≤ t_of (g.K.Keys.keys l.keys)
