-- A key's path and the frames of it: what the frames plug together is the tree, the path is their records, and another branch at the
-- end of them is the graft. Every good tree is the frames of a key and what stands at their end. Assumes nothing.
use mathlib.Core.List.{List, [], ◌∷◌, ◌++◌, map, append-nil}
use mathlib.Core.Path.{◌≡◌, refl, sym, subst, ap, ◌∙◌}
use native.Mathlib.Nat.{add-zero, zero-add}
use native.Mathlib.Omega.{arith}
use Prim.Native.Nat.{ℕ, suc, ◌+◌}
use lib.ListN.{length}
use Rattle.pool.specs.Memory.{Mem}
use Rattle.walk.specs.Walks.{longest_path}
use Rattle.demands.specs.Demand2.{root_of}
use Rattle.demands.specs.Paths.{path_b, path_f, below_b, below_f, end_b, graft_b, graft_f}
use Rattle.demands.specs.Placed.{Head, Branch, null, leaf, sub, Forest, nil, cons, len, app, Frame, plug, Follows, slot_in}
use Rattle.demands.proofs.Changing.{Count, up}
use Rattle.demands.proofs.Plugs.{len_app, End, find}
use Rattle.demands.proofs.Walking.{Kept, records_on, records-length}

path_at : (k : ℕ) (f : Forest) (b : Branch) (g : Forest) → path_f k (app f (cons b g)) (len f) ≡ path_b k b
unfolding path_f
path_at k nil b g = refl
path_at k (cons a f) b g = path_at k f b g

path-end : (k : ℕ) (b : Branch) → End b → path_b k b ≡ []
unfolding path_b
path-end k null e = refl
path-end k (leaf j p) e = refl
path-end k (sub h g) e = absurd e

-- the path goes along the frames, and on below them
pub path_along : (k : ℕ) (c : List Frame) (b : Branch) → Follows k c → path_b k (plug c b) ≡ records_on c ++ path_b k b
unfolding path_b
path_along k [] b w = refl
path_along k (f ∷ c) b w =
    rw (len_app f.left (cons (plug c b) f.right), w.0, path_at k f.left (plug c b) f.right) (ap (λ (l : List ℕ). f.head.at ∷ l) (path_along k c b w.1))

pub path-plug : (k : ℕ) (c : List Frame) (b : Branch) → Follows k c → End b → path_b k (plug c b) ≡ records_on c
path-plug k c b w e = path_along k c b w ∙ ap (λ (l : List ℕ). records_on c ++ l) (path-end k b e) ∙ append-nil (records_on c)

below_at : (i k : ℕ) (f : Forest) (b : Branch) (g : Forest) → below_f (app f (cons b g)) (len f) i k ≡ below_b b i k
unfolding below_f
below_at i k nil b g = refl
below_at i k (cons a f) b g = below_at i k f b g

below_none : (k : ℕ) (b : Branch) → below_b b 0 k ≡ b
unfolding below_b
below_none k null = refl
below_none k (leaf j p) = refl
below_none k (sub h g) = refl

below_step : (h : Head) (g : Forest) (i k j : ℕ) → slot_in h.lo h.w (len g) k ≡ j → below_b (sub h g) (suc i) k ≡ below_f g j i k
unfolding below_b
below_step h g i k j e = ap (λ (x : ℕ). below_f g x i k) e

-- what stands below the frames, and further down
pub below_along : (k : ℕ) (c : List Frame) (b : Branch) (i : ℕ) → Follows k c → below_b (plug c b) (length c + i) k ≡ below_b b i k
below_along k [] b i w = ap (λ (x : ℕ). below_b b x k) (zero-add i)
below_along k (f ∷ c) b i w =
    let e : slot_in f.head.lo f.head.w (len (app f.left (cons (plug c b) f.right))) k ≡ len f.left = rw (len_app f.left (cons (plug c b) f.right)) w.0 in
    let s : suc (length c) + i ≡ suc (length c + i) = omega arith in
    ap (λ (x : ℕ). below_b (plug (f ∷ c) b) x k) s
    ∙ below_step f.head (app f.left (cons (plug c b) f.right)) (length c + i) k (len f.left) e
    ∙ below_at (length c + i) k f.left (plug c b) f.right
    ∙ below_along k c b i w.1

pub below-plug : (k : ℕ) (c : List Frame) (b : Branch) → Follows k c → below_b (plug c b) (length c) k ≡ b
below-plug k c b w = ap (λ (x : ℕ). below_b (plug c b) x k) (sym (add-zero (length c))) ∙ below_along k c b 0 w ∙ below_none k b

-- heads changed by counters alone
abbrev pub head_by : Count → Head → Head
head_by n h = record { at = h.at; lo = h.lo; w = h.w; start = h.start; elements = n.elements h.elements; built = h.built; conflicts = n.conflicts h.conflicts }

graft_at : (u : Head → Head) (i k : ℕ) (f : Forest) (b : Branch) (g : Forest) (n : Branch) → graft_f u (app f (cons b g)) (len f) i k n ≡ app f (cons (graft_b u b i k n) g)
unfolding graft_f
graft_at u i k nil b g n = refl
graft_at u i k (cons a f) b g n = ap (cons a) (graft_at u i k f b g n)

graft_none : (u : Head → Head) (k : ℕ) (b n : Branch) → graft_b u b 0 k n ≡ n
unfolding graft_b
graft_none u k null n = refl
graft_none u k (leaf j p) n = refl
graft_none u k (sub h g) n = refl

-- the graft below the frames
pub graft_plug : (x : Count) (k : ℕ) (c : List Frame) (b n : Branch) → Follows k c → graft_b (head_by x) (plug c b) (length c) k n ≡ plug (map (up x) c) n
unfolding graft_b
graft_plug x k [] b n w = graft_none (head_by x) k b n
graft_plug x k (f ∷ c) b n w =
    rw (len_app f.left (cons (plug c b) f.right), w.0, graft_at (head_by x) (length c) k f.left (plug c b) f.right n, graft_plug x k c b n w.1)

-- a kept tree is the frames of a key and its end
pub record Way (R S : ℕ) (m : Mem) (k : ℕ) (h : Head) (g : Forest) : Type 0 where
  pub first : Frame
  pub rest : List Frame
  pub end : Branch
  pub eq : sub h g ≡ plug (first ∷ rest) end
  pub root : h.at ≡ first.head.at
  pub is_end : End end
  pub follows : Follows k (first ∷ rest)
  pub kept : Kept R S m (plug (first ∷ rest) end)

pub way : (R S : ℕ) (m : Mem) (k : ℕ) (h : Head) (g : Forest) → Kept R S m (sub h g) → Way R S m k h g
way R S m k h g d = let z = find R S k longest_path (sub h g) d.okay d.deep in go z.ctx z.end z.eq z.is_end z.follows
  where
    go : (c : List Frame) (b : Branch) → sub h g ≡ plug c b → End b → Follows k c → Way R S m k h g
    go [] b e i w = absurd (subst End (sym e) i)
    go (f ∷ c) b e i w = record { first = f; rest = c; end = b; eq = e; root = ap root_of e; is_end = i; follows = w; kept = subst (Kept R S m) e d }

-- where it ends
module _ (R S : ℕ) (m : Mem) (k : ℕ) (h : Head) (g : Forest) (z : Way R S m k h g) where
  pub way_path : path_b k (sub h g) ≡ records_on (z.first ∷ z.rest)
  way_path = ap (path_b k) z.eq ∙ path-plug k (z.first ∷ z.rest) z.end z.follows z.is_end

  pub way_end : end_b (sub h g) k ≡ z.end
  way_end =
      ap (λ (i : ℕ). below_b (sub h g) i k) (ap length way_path ∙ records-length (z.first ∷ z.rest))
      ∙ ap (λ (x : Branch). below_b x (length (z.first ∷ z.rest)) k) z.eq ∙ below-plug k (z.first ∷ z.rest) z.end z.follows
