-- The tidying of an insert and the whole rebuild, way by way, and what each asks. Assumes nothing.
use Rattle.std.specs.Prelude.{None, Option, Some, Err}
use mathlib.Core.Bool.{Bool, true, false}
use mathlib.Core.List.{List}
use mathlib.Core.Path.{◌≡◌, refl, sym, ap, subst⁻¹, ◌∙◌}
use Prim.Native.Nat.{ℕ, ◌+◌, ◌^◌, ◌<◌, ◌≤◌}
use native.Mathlib.Omega.{arith}
use borrow.Author.Tests.{lt-ltb, le-ltb}
use lib.Dec.{leb, ltb}
use lib.ListN.{length, get_or, take}
use Rattle.build.proofs.Kept.{build-within}
use Rattle.build.specs.Building.{Out, out}
use Rattle.build.specs.Sizes.{depth_of}
use Rattle.counters.specs.Counters.{due_in}
use Rattle.insert.proofs.Leaves.{path-length, path-place}
use Rattle.insert.proofs.Standings.{leaves, done_at}
use Rattle.insert.specs.Inserting.{Insert, not_due, put_off, Fresh, fresh, held_payload, slot_above, sound_due, standing, replaced, tidy_ends, tidy_of, pair_ends, settle_at, settle_of, whole_ends, whole_of, inserted}
use Rattle.insert.specs.Steps.{Ready, Sized}
use Rattle.insert.specs.declared.Inserted.{Inserted}
use Rattle.insert.specs.declared.Tidying.TheVariants.{WholeTree}
use Rattle.laws.specs.declared.Refusal.TheVariants.{NoRoom, Damage}
use Rattle.store.specs.declared.Changing.{Changing}
use Rattle.laws.proofs.Tests.{both}
use Rattle.pool.proofs.Growth.{Grows}
use Rattle.pool.specs.Memory.{Mem, records_in}
use Rattle.rebuild.proofs.Conflicts.{pair-roomless}
use Rattle.rebuild.proofs.Grown.{pair_grows, grown-sound, grown-nodes, grown-keys, grown-payloads}
use Rattle.rebuild.specs.Judging.{Pooled, Rebuildable}
use Rattle.rebuild.specs.Pairs.{PairFits, pair_if, pair_of}
use Rattle.rebuild.specs.Rebuilding.{sound_below, keys_with, payloads_with, afresh, swapped, in_place, Scratch, Rebuilt, rebuilt, rebuild_over, rebuild_of}
use Rattle.rebuild.specs.Zeroing.{Met, nodes_below}
use Rattle.store.specs.declared.Handle.{Handle}
use Rattle.walk.specs.Walks.{longest_path}
use Rattle.walk.specs.declared.Path.{Path}

pub ready_rebuildable : (h : Handle) (k above top : ℕ) (m : Mem) (s : Scratch) → Ready h k m s → above < longest_path → sound_below h.capacity k above top m ≡ true → Rebuildable h.capacity k above top m s
ready_rebuildable h k above top m s r lt sound = record {
  gather = record { least = r.least; most = r.most; room = r.keys; same = r.payloads; is_key = r.is_key; high = lt };
  pools = r.pools;
  places = r.places;
  sound = sound;
}

roomless_not_at : (r : ℕ) (b : Option ℕ) → b ≡ None → b ≡ Some r → ⊥
roomless_not_at r b e f = let z : ◌≡◌ {A = ℕ} 0 1 = cc in omega arith

-- what a rebuild answers is what its build answers
swap-same : (old : List Met) (m : Mem) (b : Option ℕ) (after : Mem) → (swapped old m b after).built ≡ b
unfolding swapped
swap-same old m (Some r) after = refl
swap-same old m None after = refl

-- the new top node is one of the pool's records
afresh-within : (above : ℕ) (ks ps : List ℕ) (m : Mem) (r : ℕ) → (afresh above ks ps m).built ≡ Some r → r < records_in m.nodes
unfolding afresh
afresh-within above ks ps m r e =
    both (leb (above + depth_of longest_path ks) longest_path)
    (λ t. build-within longest_path ks ps m r (rw t at e))
    (λ t. absurd (roomless_not_at r None refl (rw t at e)))

pub rebuilt-within : (capacity k p above top : ℕ) (m : Mem) (s : Scratch) (r : ℕ) → (rebuild_of capacity k p above top m s).out.built ≡ Some r → r < records_in m.nodes
unfolding rebuild_of rebuild_over in_place
rebuilt-within capacity k p above top m s r e =
    let ks = keys_with capacity k above top m in
    let ps = payloads_with capacity k p above top m in
    afresh-within above ks ps m r (sym (swap-same (nodes_below above top m) m (afresh above ks ps m).built (afresh above ks ps m).memory) ∙ e)

-- a rebuild without room leaves the memory as it was
swap-roomless : (old : List Met) (m : Mem) (b : Option ℕ) (after : Mem) → b ≡ None → (swapped old m b after).memory ≡ m
unfolding swapped
swap-roomless old m (Some r) after e = absurd (roomless_not_at r (Some r) e refl)
swap-roomless old m None after e = refl

pub rebuilt-roomless : (capacity k p above top : ℕ) (m : Mem) (s : Scratch) → (rebuild_of capacity k p above top m s).out.built ≡ None → (rebuild_of capacity k p above top m s).out.memory ≡ m
unfolding rebuild_of rebuild_over in_place
rebuilt-roomless capacity k p above top m s e =
    let ks = keys_with capacity k above top m in
    let ps = payloads_with capacity k p above top m in
    swap-roomless (nodes_below above top m) m (afresh above ks ps m).built (afresh above ks ps m).memory (sym (swap-same (nodes_below above top m) m (afresh above ks ps m).built (afresh above ks ps m).memory) ∙ e)

-- the two-key node's record is a small number
pub pair-within : (c : Bool) (a p b q : ℕ) (m : Mem) (r : ℕ) → Pooled m → (pair_if c a p b q m).built ≡ Some r → r < 2 ^ 48
unfolding pair_if pair_of
pair-within c a p b q m r o e =
    both c
    (λ t.
    both (ltb a b)
    (λ l. omega (arith, o.records, build-within longest_path _ _ m r (rw (t, l) at e)))
    (λ l. omega (arith, o.records, build-within longest_path _ _ m r (rw (t, l) at e))))
    (λ t. let z : Some 0 ≡ Some r = rw t at e in let y : 0 ≡ r = cc in omega arith)

pub pair_small : (c : Bool) (a p b q : ℕ) (m : Mem) (x : Option ℕ) (m' : Mem) → out x m' ≡ pair_if c a p b q m → (d : ℕ) → x ≡ Some d → Pooled m → d < 2 ^ 48
pair_small c a p b q m x m' e d g o = pair-within c a p b q m d o (sym (ap (λ (y : Out). y.built) e) ∙ g)

-- the ways of a tidying
module _ (h : Handle) (k p q : ℕ) (c : Bool) (j : ℕ) (path : Path) (z : Sized path) (i above d : ℕ) (m : Mem) (s : Scratch) (x : Insert) where
  pub tidy-none : path.len ≤ i → x ≡ standing h (fresh k p q c j (take path.len path.nodes)) not_due d m s
      → x ≡ tidy_of h (fresh k p q c j (take path.len path.nodes)) i above d m m s
  unfolding tidy_of
  tidy-none le e = rw (le-ltb i (length (take path.len path.nodes)) (omega (arith, path-length path z))) e

  module _ (lt : i < path.len) (b : Option ℕ) (m' : Mem) (s' : Scratch) (r : rebuilt (out b m') s' ≡ rebuild_of h.capacity k p i (get_or path.nodes i 0) m s) where
    tidy_is : tidy_ends h (fresh k p q c j (take path.len path.nodes)) i above d b m' s' ≡ tidy_of h (fresh k p q c j (take path.len path.nodes)) i above d m m s
    unfolding tidy_of rebuild_of
    tidy_is = rw (lt-ltb i (length (take path.len path.nodes)) (omega (arith, path-length path z)), path-place path z i lt, ← r)

    pub tidy-done : (t : ℕ) → b ≡ Some t → x ≡ replaced h (fresh k p q c j (take path.len path.nodes)) i above d t m' s'
        → x ≡ tidy_of h (fresh k p q c j (take path.len path.nodes)) i above d m m s
    unfolding tidy_ends
    tidy-done t f e = e ∙ (rw f at tidy_is)

    pub tidy-put_off : b ≡ None → x ≡ standing h (fresh k p q c j (take path.len path.nodes)) put_off d m' s'
        → x ≡ tidy_of h (fresh k p q c j (take path.len path.nodes)) i above d m m s
    unfolding tidy_ends
    tidy-put_off f e = e ∙ (rw f at tidy_is)

-- the new top node's record is a small number
pub new-within : (h : Handle) (k p i top : ℕ) (m : Mem) (s : Scratch) (b : Option ℕ) (m' : Mem) (s' : Scratch) → rebuilt (out b m') s' ≡ rebuild_of h.capacity k p i top m s
    → (t : ℕ) → b ≡ Some t → Pooled m → t < 2 ^ 48
new-within h k p i top m s b m' s' r t f o =
    let e : (rebuild_of h.capacity k p i top m s).out.built ≡ Some t = sym (ap (λ (y : Rebuilt). y.out.built) r) ∙ f in
    omega (arith, o.records, rebuilt-within h.capacity k p i top m s t e)

-- A sound subtree has the same live keys once the memory has grown, so a tidying that reads them then is the one of the keys before.
pub tidy_before : (h : Handle) (f : Fresh) (i above d : ℕ) (m m' : Mem) (s : Scratch) → sound_due h.capacity f.key f.path i m ≡ true → Grows m m'
    → tidy_of h f i above d m' m' s ≡ tidy_of h f i above d m m' s
unfolding tidy_of sound_due
tidy_before h f i above d m m' s sound g =
    both (ltb i (length f.path))
    (λ e.
    let inside : sound_below h.capacity f.key i (get_or f.path i 0) m ≡ true = rw e at sound in
    rw (e, grown-nodes h.capacity f.key i (get_or f.path i 0) m inside m' g, grown-keys h.capacity f.key i (get_or f.path i 0) m inside m' g, grown-payloads h.capacity f.key i (get_or f.path i 0) m inside m' g f.payload))
    (λ e. rw e)

-- what a tidying asks of its node
pub node-sound : (capacity k : ℕ) (path : Path) → Sized path → (i : ℕ) (m : Mem) → i < path.len → sound_due capacity k (take path.len path.nodes) i m ≡ true
    → sound_below capacity k i (get_or path.nodes i 0) m ≡ true
unfolding sound_due
node-sound capacity k path z i m lt e = rw (lt-ltb i (length (take path.len path.nodes)) (omega (arith, path-length path z)), path-place path z i lt) at e

-- the two-key node leaves it sound
paired_grows : (c : Bool) (a p b q : ℕ) (m : Mem) (x : Option ℕ) (m' : Mem) → out x m' ≡ pair_if c a p b q m → Grows m m'
paired_grows c a p b q m x m' e = subst⁻¹ (Grows m) (ap (λ (o : Out). o.memory) e) (pair_grows c a p b q m)

pub still_sound : (capacity k : ℕ) (path : List ℕ) (i : ℕ) (m : Mem) → sound_due capacity k path i m ≡ true
    → (c : Bool) (a p b q : ℕ) (x : Option ℕ) (m' : Mem) → out x m' ≡ pair_if c a p b q m → sound_due capacity k path i m' ≡ true
unfolding sound_due
still_sound capacity k path i m sound c a p b q x m' e =
    both (ltb i (length path))
    (λ t. rw t (grown-sound capacity k i (get_or path i 0) m (rw t at sound) m' (paired_grows c a p b q m x m' e)))
    (λ t. rw t)

-- the steps before it
module _ (h : Handle) (k p q : ℕ) (c : Bool) (j : ℕ) (path : List ℕ) (m : Mem) (s : Scratch) (i : ℕ) (due : i ≡ due_in m.nodes c path) where
  pub settle-damage : (r : Changing Inserted) → r ≡ record { answer = Err Damage; handle = h } → sound_due h.capacity k path i m ≡ false
      → leaves r m s ≡ settle_of h (fresh k p q c j path) m s
  unfolding settle_of settle_at inserted
  settle-damage r e f = rw (← due, e, f)

  module _ (sound : sound_due h.capacity k path i m ≡ true) (above : ℕ) (slot : above ≡ slot_above m.nodes path k i)
      (b : Option ℕ) (m' : Mem) (pair : out b m' ≡ pair_if c k p j (held_payload (fresh k p q c j path) m) m) where
    settle_is : pair_ends h (fresh k p q c j path) i above m s b m' ≡ settle_of h (fresh k p q c j path) m s
    unfolding settle_of settle_at
    settle_is = rw (← due, sound, ← slot, ← pair)

    pub settle-roomless : (r : Changing Inserted) → r ≡ record { answer = Err NoRoom; handle = h } → PairFits c k j → b ≡ None → leaves r m' s ≡ settle_of h (fresh k p q c j path) m s
    unfolding pair_ends inserted
    settle-roomless r e f g =
        let n : (pair_if c k p j (held_payload (fresh k p q c j path) m) m).built ≡ None = sym (ap (λ (o : Out). o.built) pair) ∙ g in
        let u : m' ≡ m = ap (λ (o : Out). o.memory) pair ∙ pair-roomless c k p j (held_payload (fresh k p q c j path) m) m f n in
        rw (e, u) (rw g at settle_is)

    pub settle-tidy : (x : Insert) (d : ℕ) → b ≡ Some d → x ≡ tidy_of h (fresh k p q c j path) i above d m' m' s → x ≡ settle_of h (fresh k p q c j path) m s
    unfolding pair_ends
    settle-tidy x d g e = e ∙ tidy_before h (fresh k p q c j path) i above d m m' s sound (paired_grows c k p j _ m b m' pair) ∙ (rw g at settle_is)

-- the whole tree
module _ (h : Handle) (k p : ℕ) (m : Mem) (s : Scratch) (r : Changing Inserted) where
  pub whole-damage : r ≡ record { answer = Err Damage; handle = h } → sound_below h.capacity k 0 h.root m ≡ false → leaves r m s ≡ whole_of h k p m s
  unfolding whole_of inserted
  whole-damage e f = rw (e, f)

  module _ (sound : sound_below h.capacity k 0 h.root m ≡ true) (b : Option ℕ) (m' : Mem) (s' : Scratch)
      (is : rebuilt (out b m') s' ≡ rebuild_of h.capacity k p 0 h.root m s) where
    whole_is : whole_ends h m b m' s' ≡ whole_of h k p m s
    unfolding whole_of
    whole_is = rw (sound, ← is)

    pub whole-done : (t : ℕ) → b ≡ Some t → r ≡ done_at t h true WholeTree → leaves r m' s' ≡ whole_of h k p m s
    unfolding whole_ends inserted
    whole-done t f e = rw e (rw f at whole_is)

    pub whole-roomless : b ≡ None → r ≡ record { answer = Err NoRoom; handle = h } → leaves r m' s' ≡ whole_of h k p m s
    unfolding whole_ends inserted
    whole-roomless f e =
        let g : (rebuild_of h.capacity k p 0 h.root m s).out.built ≡ None = sym (ap (λ (y : Rebuilt). y.out.built) is) ∙ f in
        let u : m' ≡ m = ap (λ (y : Rebuilt). y.out.memory) is ∙ rebuilt-roomless h.capacity k p 0 h.root m s g in
        rw (e, u) (rw f at whole_is)
