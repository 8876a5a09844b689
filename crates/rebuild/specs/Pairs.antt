-- The two-key node of a conflict (document 01, "Insert": "a two-key node takes the slot"), built over the key that was there and the
-- new one as every node is. Definitions only.
use Rattle.std.specs.Prelude.{Bool, true, [], ◌∷◌, ◌≡◌, ℕ, ◌<◌, ltb, Some}
use Rattle.build.specs.Building.{Out, out, build}
use Rattle.laws.specs.Keys.{key_bound}
use Rattle.laws.specs.Pick.{pick}
use Rattle.pool.specs.Memory.{Mem}
use Rattle.pool.specs.Reading.{node_at}
use Rattle.rebuild.specs.Zeroing.{node_alone, zeroed}
use Rattle.walk.specs.Walks.{longest_path}

-- keys a and b with the payloads p and q, the lower key first
unfoldable pub pair_of : ℕ → ℕ → ℕ → ℕ → Mem → Out
pair_of a p b q m =
    pick (ltb a b) (build longest_path (a ∷ b ∷ []) (p ∷ q ∷ []) m) (build longest_path (b ∷ a ∷ []) (q ∷ p ∷ []) m)

-- after a conflict; without one there is no such node, and nothing is stored
unfoldable pub pair_if : Bool → ℕ → ℕ → ℕ → ℕ → Mem → Out
pair_if conflict a p b q m = pick conflict (pair_of a p b q m) (out (Some 0) m)

-- the two-key node at record c zeroed again
unfoldable pub pair_gone : Bool → ℕ → Mem → Mem
pair_gone conflict c m = pick conflict (zeroed (node_alone c (node_at m c)) m) m

-- what the code asks of the two keys, where there is a conflict
pub record PairFits (conflict : Bool) (a b : ℕ) : Type 0 where
  pub first : conflict ≡ true → a < key_bound
  pub second : conflict ≡ true → b < key_bound
  pub apart : conflict ≡ true → a ≡ b → ⊥
