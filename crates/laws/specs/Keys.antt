-- Keys and lists of keys (document 01, "What the index holds"). What a key is, what a rising list is, and where a list that
-- does not rise first fails to. Definitions only.
use Rattle.std.specs.Prelude.{List, [], ◌∷◌, ℕ, ◌+◌, ◌^◌, ◌<◌, length, get_or, ltb}
use Rattle.laws.specs.Pick.{pick}

-- keys are whole numbers below this
abbrev pub key_bound : ℕ
key_bound = 2 ^ 48

-- the first place from i on whose key is not above its forerunner, which is p at first; past the last place if there is none
unfoldable pub fall_from : ℕ → ℕ → List ℕ → ℕ
fall_from i p [] = i
fall_from i p (k ∷ ks) = pick (ltb p k) (fall_from (i + 1) k ks) i

-- the place, from 0, of the first key not above its forerunner; the length of a list that rises
unfoldable pub first_fall : List ℕ → ℕ
first_fall [] = 0
first_fall (k ∷ ks) = fall_from 1 k ks

-- a list of keys that rises strictly
pub record Rising (ks : List ℕ) : Type 0 where
  pub below : (i : ℕ) → i < length ks → get_or ks i 0 < key_bound
  pub rises : (i j : ℕ) → i < j → j < length ks → get_or ks i 0 < get_or ks j 0
