-- What a build over a list of keys needs, before anything is stored: the L of each of its nodes in the order in which they take
-- their places, and how many nodes its longest path has. Definitions only.
use Rattle.std.specs.Prelude.{List, [], ◌∷◌, ◌++◌, ℕ, zero, suc, ◌+◌, max}
use Rattle.model.specs.Choice.{model_of}
use Rattle.model.specs.Groups.{keys_to}
use Rattle.model.specs.declared.Model.{Model}

-- of the keys of one slot: those of a child, if there are several
abbrev pub of_group : {A : Type 0} → A → (List ℕ → A) → List ℕ → A
of_group none S [] = none
of_group none S (k ∷ []) = none
of_group none S (k ∷ j ∷ ks) = S (k ∷ j ∷ ks)

-- the children in slot order: n slots from slot s on
unfoldable pub sizes_under : (List ℕ → List ℕ) → Model → ℕ → ℕ → List ℕ → List ℕ
sizes_under S md zero s ks = []
sizes_under S md (suc n) s ks = of_group [] S (keys_to md s ks) ++ sizes_under S md n (s + 1) ks

-- the L of each node: the parent's, then the children's
unfoldable pub sizes_of : ℕ → List ℕ → List ℕ
sizes_of zero ks = []
sizes_of (suc depth) ks = (model_of ks).l ∷ sizes_under (sizes_of depth) (model_of ks) (model_of ks).l 0 ks

-- the highest of the children
unfoldable pub depth_under : (List ℕ → ℕ) → Model → ℕ → ℕ → List ℕ → ℕ
depth_under D md zero s ks = 0
depth_under D md (suc n) s ks = max (of_group 0 D (keys_to md s ks)) (depth_under D md n (s + 1) ks)

-- nodes on the longest path
unfoldable pub depth_of : ℕ → List ℕ → ℕ
depth_of zero ks = 0
depth_of (suc depth) ks = 1 + depth_under (depth_of depth) (model_of ks) (model_of ks).l 0 ks

-- the sum of a list of sizes
unfoldable pub total : List ℕ → ℕ
total [] = 0
total (l ∷ ls) = l + total ls
