-- A key's path in a placed tree: the nodes on it, what stands at its end, and the tree with another branch at a place of the path.
-- Definitions only.
use Rattle.std.specs.Prelude.{List, [], ◌∷◌, ℕ, zero, suc, length}
use Rattle.demands.specs.Placed.{Head, Branch, null, leaf, sub, Forest, nil, cons, len, slot_in}

-- the records of the nodes on the path of k, the root first
unfoldable mutual
  pub path_b : ℕ → Branch → List ℕ
  path_b k null = []
  path_b k (leaf j p) = []
  path_b k (sub h g) = h.at ∷ path_f k g (slot_in h.lo h.w (len g) k)

  pub path_f : ℕ → Forest → ℕ → List ℕ
  path_f k nil j = []
  path_f k (cons b f) zero = path_b k b
  path_f k (cons b f) (suc j) = path_f k f j

-- what stands at place i of the path: the root at 0; past the last node what the path ends at
unfoldable mutual
  pub below_b : Branch → ℕ → ℕ → Branch
  below_b null i k = null
  below_b (leaf j p) i k = leaf j p
  below_b (sub h g) zero k = sub h g
  below_b (sub h g) (suc i) k = below_f g (slot_in h.lo h.w (len g) k) i k

  pub below_f : Forest → ℕ → ℕ → ℕ → Branch
  below_f nil j i k = null
  below_f (cons b f) zero i k = below_b b i k
  below_f (cons b f) (suc j) i k = below_f f j i k

-- the tree with branch n in place of what stands there; the heads of the nodes above it changed by `up`
unfoldable mutual
  pub graft_b : (Head → Head) → Branch → ℕ → ℕ → Branch → Branch
  graft_b up null i k n = n
  graft_b up (leaf j p) i k n = n
  graft_b up (sub h g) zero k n = n
  graft_b up (sub h g) (suc i) k n = sub (up h) (graft_f up g (slot_in h.lo h.w (len g) k) i k n)

  pub graft_f : (Head → Head) → Forest → ℕ → ℕ → ℕ → Branch → Forest
  graft_f up nil j i k n = nil
  graft_f up (cons b f) zero i k n = cons (graft_b up b i k n) f
  graft_f up (cons b f) (suc j) i k n = cons b (graft_f up f j i k n)

-- what the whole path ends at: NULL or DATA
abbrev pub end_b : Branch → ℕ → Branch
end_b t k = below_b t (length (path_b k t)) k

-- the tree with another branch at the end of the path
abbrev pub graft_end : (Head → Head) → Branch → ℕ → Branch → Branch
graft_end up t k n = graft_b up t (length (path_b k t)) k n
