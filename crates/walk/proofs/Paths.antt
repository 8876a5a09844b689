-- The path that a walk leaves: at least the root and at most 24 records, each of which reads as a good node but for a last one
-- that is damaged; and the array in which the code holds it. Assumes nothing.
use Rattle.std.specs.Prelude.{Err, Ok, Result}
use mathlib.Core.List.{List, [], ◌∷◌, ◌++◌}
use mathlib.Core.Logic.{⊎_elim}
use mathlib.Core.Path.{◌≡◌, refl, sym, ap, subst, ◌∙◌}
use Prim.Native.Nat.{ℕ, zero, suc, ◌+◌, ◌<◌, ◌≤◌, min}
use native.Mathlib.Omega.{arith}
use lib.ListN.{length, get_or, take, drop, replicate, length-append, get_or-append}
use lib.Seq.{length-sets, sets-eq, take-append-le, take-length, get_or-append_seam}
use Rattle.laws.proofs.Tests.{le_or_lt}
use Rattle.pool.proofs.Nodes.{good-node}
use Rattle.pool.specs.Memory.{Mem, records_in}
use Rattle.pool.specs.Reading.{node_in, node_at}
use Rattle.walk.specs.Walks.{longest_path, step_at, step_of, Walk, walk, after, path_of, walk_from, walk_of, trace_of}
use Rattle.walk.specs.declared.End.{End}
use Rattle.walk.specs.declared.End.TheVariants.{Empty, Key, Damage}
use Rattle.walk.specs.declared.Path.{Path}
use Rattle.walk.specs.declared.Step.{Step}
use Rattle.walk.specs.declared.Step.TheVariants.{Down, Stop}
use Rattle.walk.specs.declared.Traced.{Traced}
use Rattle.pool.specs.declared.Node.{Node}
use Rattle.pool.specs.declared.Rule.{Rule}

-- a walk ended without damage
abbrev pub Undamaged : End → Type 0
Undamaged (Empty q) = Unit
Undamaged (Key q k) = Unit
Undamaged (Damage c) = ⊥

-- record r reads as the node that its words say
abbrev pub ReadsGood : Mem → ℕ → Type 0
ReadsGood m r = node_at m r ≡ Ok (node_in m.nodes r)

abbrev pub AllGood : Mem → List ℕ → Type 0
AllGood m p = (i : ℕ) → i < length p → ReadsGood m (get_or p i 0)

abbrev pub AllButLastGood : Mem → List ℕ → Type 0
AllButLastGood m p = (i : ℕ) → i + 1 < length p → ReadsGood m (get_or p i 0)

-- what holds of a walk that goes on and of one that stops holds after the step
after_holds : (P : Walk → Type 0) (s : Step) (p : List ℕ) (go : ℕ → Walk) → ((c : ℕ) → s ≡ Down c → P (go c)) → ((e : End) → s ≡ Stop e → P (walk e p)) → P (after s p go)
unfolding after
after_holds P (Down c) p go down stop = down c refl
after_holds P (Stop e) p go down stop = stop e refl

one_longer : (p : List ℕ) (r : ℕ) → length (p ++ (r ∷ [])) ≡ length p + 1
one_longer p r = length-append p (r ∷ [])

module _ (m : Mem) (k : ℕ) where
  no_longer : (f r : ℕ) (p : List ℕ) → length (walk_from m k f r p).path ≤ length p + f
  unfolding walk_from
  no_longer zero r p = omega arith
  no_longer (suc f) r p =
      after_holds (λ (w : Walk). length w.path ≤ length p + suc f) (step_of m r k) (p ++ (r ∷ [])) (λ c. walk_from m k f c (p ++ (r ∷ [])))
      (λ c e. omega (arith, no_longer f c (p ++ (r ∷ [])), one_longer p r))
      (λ x e. omega (arith, one_longer p r))

  no_shorter : (f r : ℕ) (p : List ℕ) → length p + min 1 f ≤ length (walk_from m k f r p).path
  unfolding walk_from
  no_shorter zero r p = omega arith
  no_shorter (suc f) r p =
      after_holds (λ (w : Walk). length p + min 1 (suc f) ≤ length w.path) (step_of m r k) (p ++ (r ∷ [])) (λ c. walk_from m k f c (p ++ (r ∷ [])))
      (λ c e. omega (arith, no_shorter f c (p ++ (r ∷ [])), one_longer p r))
      (λ x e. omega (arith, one_longer p r))

  -- a step that goes down, or stops without damage, read a good node
  abbrev Sound : Step → Type 0
  Sound (Down c) = Unit
  Sound (Stop e) = Undamaged e

  sound_read : (r : ℕ) (x : Result Node Rule) → node_at m r ≡ x → Sound (step_at m k x) → ReadsGood m r
  unfolding step_at
  sound_read r (Ok n) e s = e ∙ ap Ok (good-node m r n e).is
  sound_read r (Err c) e s = absurd s

  sound-step : (r : ℕ) (s : Step) → step_of m r k ≡ s → Sound s → ReadsGood m r
  unfolding step_of
  sound-step r s e h = sound_read r (node_at m r) refl (subst Sound (sym e) h)

  add_good : (p : List ℕ) (r : ℕ) → AllGood m p → ReadsGood m r → AllGood m (p ++ (r ∷ []))
  add_good p r h g i lt =
      ⊎_elim
      (λ a.
      let s : i ≡ length p = omega (arith, one_longer p r) in
      rw (s, get_or-append_seam p r [] 0) g)
      (λ a. rw (get_or-append p (r ∷ []) 0 i a) (h i a))
      (le_or_lt (length p) i)

  record PathReads (w : Walk) : Type 0 where
    above : AllButLastGood m w.path
    all : Undamaged w.end → AllGood m w.path

  path-reads_from : (f r : ℕ) (p : List ℕ) → AllGood m p → PathReads (walk_from m k f r p)
  unfolding walk_from
  path-reads_from zero r p h = record { above = λ i lt. h i (omega arith); all = λ u. h }
  path-reads_from (suc f) r p h =
      after_holds PathReads (step_of m r k) (p ++ (r ∷ [])) (λ c. walk_from m k f c (p ++ (r ∷ [])))
      (λ c e. path-reads_from f c (p ++ (r ∷ [])) (add_good p r h (sound-step r (Down c) e tt)))
      (λ x e. record {
        above = λ i lt. let a : i < length p = omega (arith, one_longer p r) in rw (get_or-append p (r ∷ []) 0 i a) (h i a);
        all = λ u. add_good p r h (sound-step r (Stop x) e u);
      })

  module _ (root : ℕ) where
    pub path-short : length (walk_of m root k).path ≤ longest_path
    unfolding walk_of
    path-short = no_longer longest_path root []

    pub path_not_empty : 1 ≤ length (walk_of m root k).path
    unfolding walk_of
    path_not_empty = no_shorter longest_path root []

    path-reads : PathReads (walk_of m root k)
    unfolding walk_of
    path-reads = path-reads_from longest_path root [] (λ i lt. absurd (omega arith))

    pub path-above-good : AllButLastGood m (walk_of m root k).path
    path-above-good = path-reads.above

    pub path-good : Undamaged (walk_of m root k).end → AllGood m (walk_of m root k).path
    path-good u = path-reads.all u

    pub path_inside : Undamaged (walk_of m root k).end → (i : ℕ) → i < length (walk_of m root k).path → get_or (walk_of m root k).path i 0 < records_in m.nodes
    path_inside u i lt = (good-node m _ _ (path-good u i lt)).inside

-- the array that holds a path
pub path-len : (p : List ℕ) → (path_of p).len ≡ length p
unfolding path_of
path-len p = refl

pub path-sized : (p : List ℕ) → length (path_of p).nodes ≡ longest_path
unfolding path_of
path-sized p = length-sets (replicate longest_path 0) 0 p

module _ (p : List ℕ) (short : length p ≤ longest_path) where
  path-array : (path_of p).nodes ≡ p ++ drop (0 + length p) (replicate longest_path 0)
  unfolding path_of
  path-array = sets-eq p (replicate longest_path 0) 0 (omega arith)

  pub path-take : (i : ℕ) → i ≤ length p → take i (path_of p).nodes ≡ take i p
  path-take i h = rw path-array (take-append-le i p _ h)

  pub path-whole : take (length p) (path_of p).nodes ≡ p
  path-whole = path-take (length p) (omega arith) ∙ take-length p

  pub path_at : (i : ℕ) → i < length p → get_or (path_of p).nodes i 0 ≡ get_or p i 0
  path_at i h = rw path-array (get_or-append p _ 0 i h)

-- what the code's walk leaves
module _ (m : Mem) (root k : ℕ) (t : Traced) (is : t ≡ trace_of m root k) where
  traced_path : t.path ≡ path_of (walk_of m root k).path
  unfolding trace_of
  traced_path = ap (λ (x : Traced). x.path) is

  pub traced_end : t.end ≡ (walk_of m root k).end
  unfolding trace_of
  traced_end = ap (λ (x : Traced). x.end) is

  pub traced_len : t.path.len ≡ length (walk_of m root k).path
  traced_len = ap (λ (x : Path). x.len) traced_path ∙ path-len (walk_of m root k).path

  pub traced_take : (i : ℕ) → i ≤ t.path.len → take i t.path.nodes ≡ take i (walk_of m root k).path
  traced_take i h = ap (λ (x : Path). take i x.nodes) traced_path ∙ path-take _ (path-short m k root) i (rw (← traced_len) h)

  pub traced_whole : take t.path.len t.path.nodes ≡ (walk_of m root k).path
  traced_whole = traced_take t.path.len (omega arith) ∙ rw traced_len (take-length (walk_of m root k).path)

  pub traced_at : (i : ℕ) → i < t.path.len → get_or t.path.nodes i 0 ≡ get_or (walk_of m root k).path i 0
  traced_at i h = ap (λ (x : Path). get_or x.nodes i 0) traced_path ∙ path_at _ (path-short m k root) i (rw (← traced_len) h)
