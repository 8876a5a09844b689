-- The group of a slot (document 01: "More than one makes it NODE, whose child is built over just those keys"), and where in the
-- list it stands. Definitions only; that a group is a part of the list is a theorem (proofs/Groups).
use Rattle.std.specs.Prelude.{List, [], ◌∷◌, ℕ, suc, ltb, eqb}
use Rattle.laws.specs.Pick.{pick}
use Rattle.model.specs.Slots.{value_of, slot_of}
use Rattle.model.specs.declared.Model.{Model}

-- just the keys that go to slot s
unfoldable pub keys_to : Model → ℕ → List ℕ → List ℕ
keys_to m s [] = []
keys_to m s (k ∷ ks) = pick (eqb (slot_of m (value_of k)) s) (k ∷ keys_to m s ks) (keys_to m s ks)

-- how many keys go to slots before s
unfoldable pub count_before : Model → ℕ → List ℕ → ℕ
count_before m s [] = 0
count_before m s (k ∷ ks) = pick (ltb (slot_of m (value_of k)) s) (suc (count_before m s ks)) (count_before m s ks)
