-- Another branch takes a place of a tree that memory holds: one that was built in free places while the old nodes held theirs, which
-- are then released. Counters rise on the way. Assumes nothing.
use mathlib.Core.Bool.{Bool}
use mathlib.Core.List.{List, [], ◌∷◌, map}
use mathlib.Core.Path.{◌≡◌, refl, ◌∙◌}
use native.Mathlib.Omega.{arith}
use Prim.Native.Nat.{ℕ, ◌+◌, ◌≤◌}
use lib.ListN.{length, length-set}
use Rattle.counters.specs.Counters.{raise}
use Rattle.pool.specs.Memory.{Mem}
use Rattle.walk.specs.Walks.{longest_path}
use Rattle.demands.specs.Map.{EachKey}
use Rattle.demands.specs.Placed.{Branch, flat_b, depth_b, cell_of, Word, bit, cell_w, at, in_b, view, OkB, Frame, plug, Follows}
use Rattle.demands.proofs.Adding.{Fine, Added, sized_as}
use Rattle.demands.proofs.Changing.{up, heads, in_plug, Delta, good-plug, cell_delta, hole_reads, place_in}
use Rattle.demands.proofs.Growing.{link_at}
use Rattle.demands.proofs.Plugs.{at_same, at_none, none-b, frame_of}
use Rattle.demands.proofs.Raising.{with_nodes, more, HeadsIn, heads_in, raise_delta, raise-length}
use Rattle.demands.proofs.Reading.{Holds, holds-below, bit_small}
use Rattle.demands.proofs.Removing.{Removed}
use Rattle.demands.proofs.Walking.{Sized, Kept, holds-all, place_of, records_on}

-- heads stay where memory stays at their places
pub heads_same : (R : ℕ) (m o : Mem) (c : List Frame) → ((x : ℕ) → 1 ≤ heads (cell_w bit) x c → (w : Word) → view R o x w ≡ view R m x w) → HeadsIn R m c → HeadsIn R o c
heads_same R m o [] same h = tt
heads_same R m o (f ∷ c) same h =
    (h.0, λ w. same f.head.at (omega (arith, at_same f.head.at 1)) w ∙ h.1 w, heads_same R m o c (λ x l w. same x (omega arith) w) h.2)

-- what stands at the end of a way is held
pub holds-end : (R : ℕ) (m : Mem) (c : List Frame) (b : Branch) → Holds R m (plug c b) → Holds R m b
holds-end R m [] b h = h
holds-end R m (f ∷ c) b h = holds-end R m c b (holds-below R m f (plug c b) h)

pub okay-end : (R S : ℕ) (c : List Frame) (b : Branch) → OkB R S (plug c b) → OkB R S b
okay-end R S [] b o = o
okay-end R S (f ∷ c) b o = okay-end R S c b (frame_of R S f (plug c b) o).below

-- Memory m holds a tree with the branch b at the end of the frames. Then an extra branch e and the new branch n were built, b and e were
-- released, which leaves m4; the slot leads to n, and the counters on the way are raised.
module _ (R S : ℕ) (k : Bool) (m m1 m2 m3 m4 : Mem) (f : Frame) (c : List Frame) (b e n : Branch) (g : Kept R S m (plug (f ∷ c) b)) (ok : OkB R S n)
    (keys : EachKey (λ x. Follows x (f ∷ c)) (flat_b n)) (deep : length (f ∷ c) + depth_b n ≤ longest_path)
    (a1 : Added R S m m1 (λ x φ. in_b R φ x e)) (a2 : Added R S m1 m2 (λ x φ. in_b R φ x n)) (r1 : Removed R S m2 m3 (λ x φ. in_b R φ x b)) (r2 : Removed R S m3 m4 (λ x φ. in_b R φ x e)) where
  abbrev place : ℕ
  place = place_of f c

  abbrev linked : Mem
  linked = link_at m4 place n

  abbrev final : Mem
  final = with_nodes linked (raise m4.nodes k (records_on (f ∷ c)))

  -- no place twice
  once : (x : ℕ) → heads (cell_w bit) x (f ∷ c) + (at (R + place) 1 x + (in_b R (cell_w bit) x b + (in_b R (cell_w bit) x e + in_b R (cell_w bit) x n))) ≤ 1
  once x = omega (arith, in_plug R x (cell_w bit) f c b, g.image x bit, a1.law x bit, a2.law x bit, bit_small R m2 x)

  -- what memory says after the releases
  left : (x : ℕ) (w : Word) → view R m4 x w + in_b R (cell_w w) x b ≡ view R m x w + in_b R (cell_w w) x n
  left x w = omega (arith, a1.law x w, a2.law x w, r1.law x w, r2.law x w)

  reads : (w : Word) → view R m4 (R + place) w ≡ cell_w w (cell_of b)
  reads w =
      let x = R + place in
      let o = once x in
      let s = at_same x 1 in
      omega (arith, left x w, none-b R (cell_w w) x b (omega arith), none-b R (cell_w w) x n (omega arith), hole_reads R m f c b (holds-all R S m _ g) w)

  z : Sized R S m4
  z = r2.fine.sized

  link : (x : ℕ) (w : Word) → view R linked x w + at (R + place) (cell_w w (cell_of b)) x ≡ view R m4 x w + at (R + place) (cell_w w (cell_of n)) x
  link x w = cell_delta R m4 place _ _ (omega (arith, place_in R S f c b g.okay, z.slots)) b n refl refl reads x w

  heads_there : HeadsIn R linked (f ∷ c)
  heads_there =
      heads_same R m linked (f ∷ c)
      (λ x l w.
      omega (arith, once x, link x w, at_none (R + place) (cell_w w (cell_of b)) x (omega (arith, once x)), at_none (R + place) (cell_w w (cell_of n)) x (omega (arith, once x)), left x w, none-b R (cell_w w) x b (omega (arith, once x)), none-b R (cell_w w) x n (omega (arith, once x))))
      (heads_in R S m f c b (holds-all R S m _ g) g.okay)

  pub graft_kept : Kept R S (with_nodes (link_at m4 (place_of f c) n) (raise m4.nodes k (records_on (f ∷ c)))) (plug (map (up (more k)) (f ∷ c)) n)
  graft_kept = good-plug R S m final (more k) f c b n g delta ok keys deep sized r2.fine.words
    where
      delta : Delta R m final (more k) f c b n
      delta x w = omega (arith, left x w, link x w, raise_delta R k (f ∷ c) linked z.nodes (λ y. omega (arith, once y)) heads_there x w)

      sized : Sized R S final
      sized = sized_as R S m4 final z (raise-length (records_on (f ∷ c)) m4.nodes k) (simp length-set) refl

-- The same at the root: the new tree stands alone.
pub root_kept : (R S : ℕ) (m m1 m2 m3 m4 : Mem) (b e n : Branch) → Kept R S m b → OkB R S n → depth_b n ≤ longest_path
    → Added R S m m1 (λ x φ. in_b R φ x e) → Added R S m1 m2 (λ x φ. in_b R φ x n) → Removed R S m2 m3 (λ x φ. in_b R φ x b) → Removed R S m3 m4 (λ x φ. in_b R φ x e) → Kept R S m4 n
root_kept R S m m1 m2 m3 m4 b e n g ok deep a1 a2 r1 r2 = record {
  image = λ x w. omega (arith, g.image x w, a1.law x w, a2.law x w, r1.law x w, r2.law x w);
  okay = ok;
  deep = deep;
  sized = r2.fine.sized;
  words = r2.fine.words;
}

-- nothing built, nothing released
pub adds_end : (R S : ℕ) (m : Mem) (b : Branch) → Fine R S m → ((x : ℕ) (w : Word) → in_b R (cell_w w) x b ≡ 0) → Added R S m m (λ x φ. in_b R φ x b)
adds_end R S m b f h = record { fine = f; law = λ x w. omega (arith, h x w) }

pub drops_end : (R S : ℕ) (m : Mem) (b : Branch) → Fine R S m → ((x : ℕ) (w : Word) → in_b R (cell_w w) x b ≡ 0) → Removed R S m m (λ x φ. in_b R φ x b)
drops_end R S m b f h = record { fine = f; law = λ x w. omega (arith, h x w) }

-- a branch that memory m holds is held while others are added in free places
pub holds_added : (R S : ℕ) (m o : Mem) (b e : Branch) → Holds R m b → Added R S m o (λ x φ. in_b R φ x e) → Holds R o b
holds_added R S m o b e h a x l w =
    let s = h x l bit in
    omega (arith, h x l w, a.law x w, none-b R (cell_w w) x e (omega (arith, a.law x bit, bit_small R o x)))

-- and while others are released
pub holds_removed : (R S : ℕ) (m o : Mem) (b e : Branch) → ((x : ℕ) → in_b R (cell_w bit) x b + in_b R (cell_w bit) x e ≤ 1) → Holds R m b → Removed R S m o (λ x φ. in_b R φ x e) → Holds R o b
holds_removed R S m o b e once h a x l w = omega (arith, h x l w, a.law x w, none-b R (cell_w w) x e (omega (arith, once x)))

-- what was built is held
pub holds-built : (R S : ℕ) (m o : Mem) (e : Branch) → Fine R S m → Added R S m o (λ x φ. in_b R φ x e) → Holds R o e
holds-built R S m o e f a x l w = omega (arith, a.law x w, f.clean x (omega (arith, a.law x bit, bit_small R o x)) w)
