-- The ordered map of the LIPP paper (section 2.1): "member, lookup, range, insert, delete, update, bulkload", on lists of elements, a
-- key with its payload, whose keys rise. Nothing of trees or memory is here. Definitions only.
use Rattle.std.specs.Prelude.{Bool, true, false, ◌&&◌, List, [], ◌∷◌, ℕ, suc, ◌<◌, ltb, leb, eqb}
use Rattle.laws.specs.Pick.{pick}

abbrev pub Map : Type 0
Map = List (ℕ × ℕ)

-- every key of a map is so
abbrev pub EachKey : (ℕ → Type 0) → Map → Type 0
EachKey P [] = Unit
EachKey P (x ∷ l) = P x.0 × EachKey P l

-- the keys rise, each standing once
abbrev pub Rises : Map → Type 0
Rises [] = Unit
Rises (x ∷ l) = EachKey (λ k. x.0 < k) l × Rises l

-- what a lookup finds: the payload, or "NIL otherwise"
pub data Found : Type 0 where
  is : ℕ → Found
  nil : Found

abbrev pub member : ℕ → Map → Bool
member k [] = false
member k (x ∷ l) = pick (eqb x.0 k) true (member k l)

abbrev pub lookup : ℕ → Map → Found
lookup k [] = nil
lookup k (x ∷ l) = pick (eqb x.0 k) (is x.1) (lookup k l)

-- "returns the elements whose keys" lie from u to v
abbrev pub range : ℕ → ℕ → Map → Map
range u v [] = []
range u v (x ∷ l) = pick (leb u x.0 && leb x.0 v) (x ∷ range u v l) (range u v l)

-- the element goes before the first greater key; where the key is held its payload is the new one
abbrev pub insert : ℕ → ℕ → Map → Map
insert k p [] = (k, p) ∷ []
insert k p (x ∷ l) = pick (ltb x.0 k) (x ∷ insert k p l) (pick (eqb x.0 k) ((k, p) ∷ l) ((k, p) ∷ x ∷ l))

abbrev pub delete : ℕ → Map → Map
delete k [] = []
delete k (x ∷ l) = pick (eqb x.0 k) l (x ∷ delete k l)

-- "implemented with the delete(x) followed by insert(x, nv)"
abbrev pub update : ℕ → ℕ → Map → Map
update k p l = insert k p (delete k l)

-- keys with their payloads, in the order given
abbrev pub bulkload : List ℕ → List ℕ → Map
bulkload [] ps = []
bulkload (k ∷ ks) [] = []
bulkload (k ∷ ks) (p ∷ ps) = (k, p) ∷ bulkload ks ps

-- the keys and the payloads of a map, in its order
abbrev pub keys_of : Map → List ℕ
keys_of [] = []
keys_of (x ∷ l) = x.0 ∷ keys_of l

abbrev pub payloads_of : Map → List ℕ
payloads_of [] = []
payloads_of (x ∷ l) = x.1 ∷ payloads_of l

-- how many elements
abbrev pub size : Map → ℕ
size [] = 0
size (x ∷ l) = suc (size l)
