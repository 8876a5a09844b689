-- An insert that stands: the branch at the path's end is another and the counters on the path are raised; or a node on the path is
-- built afresh. Assumes nothing.
use mathlib.Core.Bool.{Bool}
use mathlib.Core.List.{List, [], ◌∷◌, ◌++◌, map}
use mathlib.Core.Logic.{⊎_elim}
use mathlib.Core.Path.{◌≡◌, refl, sym, subst, subst⁻¹, ap, ◌∙◌}
use native.Mathlib.Omega.{arith}
use Prim.Native.Nat.{ℕ, ◌+◌, ◌<◌, ◌≤◌}
use lib.ListN.{length, get_or, take}
use Rattle.build.specs.Building.{Out}
use Rattle.build.specs.Releasing.{release}
use Rattle.counters.specs.Counters.{raise}
use Rattle.insert.specs.Inserting.{Fresh, fresh, settled, standing, hung, root_at, replaced, tidy_ends, tidy_by, rebuild_at, one_more_at, put_off, tidied}
use Rattle.laws.specs.Answers.{as_number}
use Rattle.laws.proofs.Tests.{le_or_lt}
use Rattle.laws.specs.Keys.{key_bound}
use Rattle.pool.proofs.Growth.{Grows, grows_both}
use Rattle.pool.specs.Memory.{Mem, mem}
use Rattle.pool.specs.Writing.{put_child}
use Rattle.rebuild.proofs.Grown.{afresh_grows}
use Rattle.rebuild.proofs.Soundness.{grown-release}
use Rattle.rebuild.specs.Pairs.{pair_gone}
use Rattle.rebuild.specs.Rebuilding.{afresh, swapped, swap, in_place, Scratch, rebuild_over}
use Rattle.rebuild.specs.Zeroing.{nodes_below, zeroed}
use Rattle.store.proofs.Fitting.{Limits}
use Rattle.store.specs.declared.Handle.{Handle}
use Rattle.walk.specs.Walks.{longest_path}
use Rattle.demands.specs.Demand2.{InsertLeaves, root_of}
use Rattle.demands.specs.Growing.{Grown, is, no_room}
use Rattle.demands.specs.Map.{Map, EachKey, Rises, insert, size, keys_of, payloads_of}
use Rattle.demands.specs.Paths.{path_b, below_b, graft_b}
use Rattle.demands.specs.Placed.{Head, Branch, null, leaf, sub, Forest, cons, app, flat_b, flat_f, depth_b, bit, cell_w, in_b, OkB, Frame, plug, Follows, pre_c, post_c, Good, Holds as HoldsTree}
use Rattle.demands.specs.Settling.{settles, raised, grow_over, within, stands, tidies}
use Rattle.demands.proofs.Adding.{Fine, Added, fine_of}
use Rattle.demands.proofs.Afresh.{insert_all, insert-rises, insert-size, afresh_agrees, within-deep}
use Rattle.demands.proofs.Around.{insert_around, size-app}
use Rattle.demands.proofs.Changing.{up, flat_up, end_in}
use Rattle.demands.proofs.Fitting.{kept_good}
use Rattle.demands.proofs.Frames.{plug-app, follows-left, records_at, records_before, okay-follows}
use Rattle.demands.proofs.Grafting.{holds-end, okay-end, graft_kept, root_kept, adds_end, drops_end, holds_added, holds_removed, holds-built}
use Rattle.demands.proofs.Growing.{link_at, Agrees, BuiltAs}
use Rattle.demands.proofs.Live.{LiveIn, keys-b, keys_gathered, payloads_gathered, sound-below}
use Rattle.demands.proofs.Plugs.{End, flat_plug, all_left, all_right, pre_less, post_more, rises-b, deep_in}
use Rattle.demands.proofs.Raising.{more}
use Rattle.demands.proofs.Reading.{Holds, bit_small}
use Rattle.demands.proofs.Removing.{Removed, release_removed}
use Rattle.demands.proofs.Walking.{Kept, holds-all, place_of, records_on, records-length}
use Rattle.demands.proofs.Ways.{path-plug, below-plug, graft_plug}

-- what was added shares no place with what was held
apart_at : (R S : ℕ) (m o : Mem) (n old : Branch) → Added R S m o (λ x φ. in_b R φ x n) → Holds R m old → (x : ℕ) → in_b R (cell_w bit) x n + in_b R (cell_w bit) x old ≤ 1
apart_at R S m o n old a h x = ⊎_elim (λ l. omega (arith, a.law x bit, bit_small R o x, h x l bit)) (λ l. omega (arith, a.law x bit, bit_small R o x)) (le_or_lt 1 (in_b R (cell_w bit) x old))

-- the slot above a node that is built afresh, where there is one
abbrev pub Above : List Frame → ℕ → Type 0
Above [] q = Unit
Above (f ∷ c) q = q ≡ place_of f c

abbrev IsNode : Branch → Type 0
IsNode null = ⊥
IsNode (leaf k p) = ⊥
IsNode (sub t g) = Unit

node-plug : (c : List Frame) (t : Head) (g : Forest) → IsNode (plug c (sub t g))
node-plug [] t g = tt
node-plug (f ∷ c) t g = tt

root-plug : (h : Handle) (k : Bool) (fore : List Frame) (old : Branch) (t : Head) (g : Forest) → h.root ≡ root_of (plug fore old) → root_at h (length fore) t.at ≡ root_of (plug (map (up (more k)) fore) (sub t g))
root-plug h k [] old t g e = refl
root-plug h k (f ∷ c) old t g e = e

-- the memory once the new tree hangs in the old one's place
swap_kept : (R S : ℕ) (k : Bool) (m m1 m2 m3 m4 : Mem) (fore : List Frame) (old n : Branch) (t : Head) (g : Forest) (q : ℕ) → Above fore q → Kept R S m (plug fore old) → OkB R S (sub t g)
    → EachKey (λ x. Follows x fore) (flat_f g) → length fore + depth_b (sub t g) ≤ longest_path
    → Added R S m m1 (λ x φ. in_b R φ x n) → Added R S m1 m2 (λ x φ. in_b R φ x (sub t g)) → Removed R S m2 m3 (λ x φ. in_b R φ x old) → Removed R S m3 m4 (λ x φ. in_b R φ x n)
    → Kept R S (mem (raise m4.nodes k (records_on fore)) (hung (length fore) q t.at m4.slots) m4.used) (plug (map (up (more k)) fore) (sub t g))
unfolding hung raise put_child
swap_kept R S k m m1 m2 m3 m4 [] old n t g q e kp ok keys deep a1 a2 r1 r2 = root_kept R S m m1 m2 m3 m4 old n (sub t g) kp ok (omega arith) a1 a2 r1 r2
swap_kept R S k m m1 m2 m3 m4 (f ∷ c) old n t g q e kp ok keys deep a1 a2 r1 r2 =
    subst⁻¹ (λ (x : ℕ). Kept R S (mem (raise m4.nodes k (records_on (f ∷ c))) (put_child m4.slots x t.at) m4.used) (plug (map (up (more k)) (f ∷ c)) (sub t g))) e
    (graft_kept R S k m m1 m2 m3 m4 f c old n (sub t g) kp ok keys deep a1 a2 r1 r2)

-- An insert of a key that is not held, into a tree that is frames and what stands at their end, of which there is less than the capacity.
pub record Site (h : Handle) (m : Mem) (t : Head) (g : Forest) (k : ℕ) (f : Frame) (c : List Frame) (b : Branch) : Type 0 where
  pub limits : Limits h.capacity h.records h.slots
  pub root : h.root ≡ t.at
  pub count : h.count ≡ size (flat_f g)
  pub space : h.count < h.capacity
  pub key : k < key_bound
  pub absent : EachKey (λ x. x ≡ k → ⊥) (flat_f g)
  pub is_end : End b
  pub eq : sub t g ≡ plug (f ∷ c) b
  pub follows : Follows k (f ∷ c)
  pub kept : Kept h.records h.slots m (plug (f ∷ c) b)

-- what takes the slot at the path's end: n, whose nodes are in m1; c is its record if it is a two-key node
pub record Taker (h : Handle) (m : Mem) (k p : ℕ) (f : Frame) (c : List Frame) (b : Branch) (conflict : Bool) (r : ℕ) (n : Branch) (m1 : Mem) : Type 0 where
  pub adds : Added h.records h.slots m m1 (λ x φ. in_b h.records φ x n)
  pub grows : Grows m m1
  pub okay : OkB h.records h.slots n
  pub flat : flat_b n ≡ insert k p (flat_b b)
  pub deep : length (f ∷ c) + depth_b n ≤ longest_path
  pub slot : settled conflict (place_of f c) k p r m1.slots ≡ (link_at m1 (place_of f c) n).slots
  pub goes : (o : Mem) → Fine h.records h.slots o → Holds h.records o n → Removed h.records h.slots o (pair_gone conflict r o) (λ x φ. in_b h.records φ x n)

module _ (h : Handle) (m : Mem) (t : Head) (g : Forest) (k p : ℕ) (f : Frame) (c : List Frame) (b : Branch) (s : Site h m t g k f c b) where
  abbrev R : ℕ
  R = h.records

  abbrev S : ℕ
  S = h.slots

  abbrev fs : List Frame
  fs = f ∷ c

  flat_was : flat_f g ≡ flat_b (plug fs b)
  flat_was = ap flat_b s.eq

  root_is : h.root ≡ f.head.at
  root_is = s.root ∙ ap root_of s.eq

  path_is : path_b k (sub t g) ≡ records_on fs
  path_is = ap (path_b k) s.eq ∙ path-plug k fs b s.follows s.is_end

  path-long : length (path_b k (sub t g)) ≡ length fs
  path-long = ap length path_is ∙ records-length fs

  -- a tree over the frames `fore` with another branch d, whose keys are those of the old one and k
  more-elements : (fore : List Frame) (old d : Branch) → sub t g ≡ plug fore old → Follows k fore → OkB R S (plug fore old) → flat_b d ≡ insert k p (flat_b old) → (conflict : Bool) → flat_b (plug (map (up (more conflict)) fore) d) ≡ insert k p (flat_f g)
  more-elements fore old d e w o q conflict =
      flat_up (more conflict) fore d ∙ ap (λ (x : Map). pre_c fore ++ (x ++ post_c fore)) q
      ∙ sym (ap (insert k p) (ap flat_b e ∙ flat_plug fore old) ∙ insert_around k (pre_c fore) (flat_b old) (post_c fore) (pre_less R S k fore old o w) (post_more R S k fore old o w) p)

  count-more : (x : Map) → x ≡ insert k p (flat_f g) → h.count + 1 ≡ size x
  count-more x e = omega (arith, s.count, ap size e, insert-size k p (flat_f g) s.absent)

  -- a node with one key more is good
  pub good_more : (r : ℕ) (o : Mem) (t' : Head) (g' : Forest) → r ≡ t'.at → flat_f g' ≡ insert k p (flat_f g) → Kept R S o (sub t' g') → Good (one_more_at r h) o t' g'
  good_more r o t' g' e q kp = kept_good (one_more_at r h) o t' g' s.limits (omega (arith, s.space)) e (count-more (flat_f g') q) kp

  holds_more : (r : ℕ) (o : Mem) (x : Branch) → IsNode x → r ≡ root_of x → flat_b x ≡ insert k p (flat_f g) → Kept R S o x → HoldsTree (one_more_at r h) o x
  holds_more r o null i e q kp = absurd i
  holds_more r o (leaf l v) i e q kp = absurd i
  holds_more r o (sub t' g') i e q kp = good_more r o t' g' e q kp

  module _ (conflict : Bool) (r : ℕ) (n : Branch) (m1 : Mem) (a : Taker h m k p f c b conflict r n m1) where
    keys-n : EachKey (λ x. Follows x fs) (flat_b n)
    keys-n = subst⁻¹ (EachKey (λ x. Follows x fs)) a.flat (insert_all k p (λ x. Follows x fs) s.follows (flat_b b) (okay-follows R S fs b s.kept.okay))

    abbrev stood : Mem
    stood = mem (raise m1.nodes conflict (records_on fs)) (settled conflict (place_of f c) k p r m1.slots) m1.used

    stood_kept : Kept R S stood (plug (map (up (more conflict)) fs) n)
    stood_kept =
        subst⁻¹ (λ (x : List ℕ). Kept R S (mem (raise m1.nodes conflict (records_on fs)) x m1.used) (plug (map (up (more conflict)) fs) n)) a.slot
        (graft_kept R S conflict m m m1 m1 m1 f c b null n s.kept a.okay keys-n a.deep (adds_end R S m null (fine_of R S m _ s.kept) (λ x w. refl)) a.adds
        (drops_end R S m1 b a.adds.fine (λ x w. end_in R (cell_w w) x b s.is_end)) (drops_end R S m1 null a.adds.fine (λ x w. refl)))

    graft-end : graft_b (raised conflict) (sub t g) (length (path_b k (sub t g))) k n ≡ plug (map (up (more conflict)) fs) n
    graft-end =
        ap (λ (i : ℕ). graft_b (raised conflict) (sub t g) i k n) path-long ∙ ap (λ (x : Branch). graft_b (raised conflict) x (length fs) k n) s.eq ∙ graft_plug (more conflict) k fs b n s.follows

    -- the insert stands
    pub stands_leaves : (other tidying : ℕ) (z : Scratch) → InsertLeaves h m g k p (standing h (fresh k p (place_of f c) conflict other (records_on fs)) tidying r m1 z) (stands h (sub t g) k p conflict tidying n)
    unfolding standing
    stands_leaves other tidying z =
        subst⁻¹ (λ (x : Branch). InsertLeaves h m g k p (standing h (fresh k p (place_of f c) conflict other (records_on fs)) tidying r m1 z) (settles (as_number conflict) tidying x)) graft-end (
          refl,
          ap (λ (x : ℕ). one_more_at x h) root_is,
          good_more h.root stood _ _ root_is (more-elements fs b n s.eq s.follows s.kept.okay a.flat conflict) stood_kept,
          more-elements fs b n s.eq s.follows s.kept.okay a.flat conflict,
        )

  -- A node on the path, at place i: `fore` are the frames above it, `here` its own, `aft` those below it.
  module _ (fore : List Frame) (here : Frame) (aft : List Frame) (parts : fs ≡ fore ++ (here ∷ aft)) where
    abbrev i : ℕ
    i = length fore

    abbrev old_run : Forest
    old_run = app here.left (cons (plug aft b) here.right)

    abbrev old : Branch
    old = sub here.head old_run

    tree-parts : plug fs b ≡ plug fore old
    tree-parts = ap (λ (x : List Frame). plug x b) parts ∙ plug-app fore (here ∷ aft) b

    whole_parts : sub t g ≡ plug fore old
    whole_parts = s.eq ∙ tree-parts

    kept_parts : Kept R S m (plug fore old)
    kept_parts = subst (Kept R S m) tree-parts s.kept

    follows-all : Follows k (fore ++ (here ∷ aft))
    follows-all = subst (Follows k) parts s.follows

    follows_fore : Follows k fore
    follows_fore = follows-left k fore (here ∷ aft) follows-all

    okay-old : OkB R S old
    okay-old = okay-end R S fore old kept_parts.okay

    holds-old : Holds R m old
    holds-old = holds-end R m fore old (holds-all R S m _ kept_parts)

    below_is : below_b (sub t g) i k ≡ old
    below_is = ap (λ (x : Branch). below_b x i k) whole_parts ∙ below-plug k fore old follows_fore

    flat_parts : flat_f g ≡ pre_c fore ++ (flat_b old ++ post_c fore)
    flat_parts = ap flat_b whole_parts ∙ flat_plug fore old

    absent-old : EachKey (λ x. x ≡ k → ⊥) (flat_b old)
    absent-old =
        all_left (λ x. x ≡ k → ⊥) (flat_b old) (post_c fore) (all_right (λ x. x ≡ k → ⊥) (pre_c fore) (flat_b old ++ post_c fore) (subst (EachKey (λ x. x ≡ k → ⊥)) flat_parts s.absent))

    size-old : size (flat_b old) ≤ size (flat_f g)
    size-old = omega (arith, ap size flat_parts, size-app (pre_c fore) (flat_b old ++ post_c fore), size-app (flat_b old) (post_c fore))

    deep-old : i + depth_b old ≤ longest_path
    deep-old = omega (arith, deep_in fore old, kept_parts.deep)

    -- the node's subtree, in the memory given
    pub live : LiveIn R S m h.capacity k i here.head old_run
    live = record {
      sized = kept_parts.sized;
      okay = okay-old;
      holds = holds-old;
      deep = omega (arith, deep-old);
      room = omega (arith, size-old, s.count, s.space);
      fresh = absent-old;
    }

    abbrev L : Map
    L = insert k p (flat_b old)

    rises-l : Rises L
    rises-l = insert-rises k p (flat_b old) (rises-b R S old okay-old)

    keys-l : EachKey (λ x. x < key_bound) L
    keys-l = insert_all k p (λ x. x < key_bound) s.key (flat_b old) (keys-b R S old okay-old)

    -- it is built afresh, once the slot has its taker
    module _ (conflict : Bool) (r : ℕ) (n : Branch) (m1 : Mem) (a : Taker h m k p f c b conflict r n m1) where
      agrees : Agrees R S longest_path m1 L (within i (grow_over h m1.used L)) (afresh i (keys_of L) (payloads_of L) m1)
      agrees = afresh_agrees R S m1 a.adds.fine L rises-l keys-l i

      abbrev F : ℕ → Fresh
      F other = fresh k p (place_of f c) conflict other (records_on fs)

      -- what is built over: the keys of the memory given
      gathered : (other : ℕ) (z : Scratch) → (rebuild_at h (F other) i here.head.at m m1 z).out ≡ swap (nodes_below i here.head.at m) m1 (afresh i (keys_of L) (payloads_of L) m1)
      unfolding rebuild_over in_place live
      gathered other z = rw (keys_gathered R S m h.capacity k i here.head old_run live p, payloads_gathered R S m h.capacity k i here.head old_run live p)

      path_fore : take i (records_on fs) ≡ records_on fore
      path_fore = ap (λ (x : List Frame). take i (records_on x)) parts ∙ records_before fore (here ∷ aft)

      -- done: the new nodes have their places, the old ones are released
      module _ (m2 : Mem) (t' : Head) (g' : Forest) (u : List ℕ) (built : BuiltAs R S longest_path m1 L t' g' m2) (deep : i + depth_b (sub t' g') ≤ longest_path) where
        abbrev m3 : Mem
        m3 = release longest_path m2 here.head.at

        abbrev m4 : Mem
        m4 = pair_gone conflict r m3

        holds_m2 : Holds R m2 old
        holds_m2 = holds_added R S m1 m2 old (sub t' g') (holds_added R S m m1 old n holds-old a.adds) built.adds

        gone : Removed R S m2 m3 (λ x φ. in_b R φ x old)
        gone = release_removed R S longest_path here.head old_run m2 built.adds.fine okay-old holds_m2 (omega (arith, deep-old))

        apart : (x : ℕ) → in_b R (cell_w bit) x n + in_b R (cell_w bit) x old ≤ 1
        apart x = apart_at R S m m1 n old a.adds holds-old x

        holds-n : Holds R m3 n
        holds-n = holds_removed R S m2 m3 n old apart (holds_added R S m1 m2 n (sub t' g') (holds-built R S m m1 n (fine_of R S m _ s.kept) a.adds) built.adds) gone

        pair-gone : Removed R S m3 m4 (λ x φ. in_b R φ x n)
        pair-gone = a.goes m3 gone.fine holds-n

        keys-new : EachKey (λ x. Follows x fore) (flat_f g')
        keys-new = subst⁻¹ (EachKey (λ x. Follows x fore)) built.flat (insert_all k p (λ x. Follows x fore) follows_fore (flat_b old) (okay-follows R S fore old kept_parts.okay))

        abbrev new : Branch
        new = plug (map (up (more conflict)) fore) (sub t' g')

        new_flat : flat_b new ≡ insert k p (flat_f g)
        new_flat = more-elements fore old (sub t' g') whole_parts follows_fore kept_parts.okay built.flat conflict

        graft_is : graft_b (raised conflict) (sub t g) i k (sub t' g') ≡ new
        graft_is = ap (λ (x : Branch). graft_b (raised conflict) x i k (sub t' g')) whole_parts ∙ graft_plug (more conflict) k fore old (sub t' g') follows_fore

        root-old : h.root ≡ root_of (plug fore old)
        root-old = s.root ∙ ap root_of whole_parts

        -- the node stands, built afresh
        replaced_leaves : (other q : ℕ) (z : Scratch) → Above fore q
            → InsertLeaves h m g k p (replaced h (fresh k p (place_of f c) conflict other (records_on fs)) i q r t'.at m3 z) (settles (as_number conflict) tidied (graft_b (raised conflict) (sub t g) i k (sub t' g')))
        unfolding replaced
        replaced_leaves other q z e =
            subst⁻¹ (λ (x : Branch). InsertLeaves h m g k p (replaced h (fresh k p (place_of f c) conflict other (records_on fs)) i q r t'.at m3 z) (settles (as_number conflict) tidied x)) graft_is (
              refl,
              ap (λ (x : ℕ). one_more_at x h) (root-plug h conflict fore old t' g' root-old),
              holds_more (root_at h i t'.at) _ new (node-plug (map (up (more conflict)) fore) t' g') (root-plug h conflict fore old t' g' root-old) new_flat
                  (subst⁻¹ (λ (x : List ℕ). Kept R S (mem (raise m4.nodes conflict x) (hung i q t'.at m4.slots) m4.used) new) path_fore
                  (swap_kept R S conflict m m1 m2 m3 m4 fore old n t' g' q e kept_parts built.okay keys-new deep a.adds built.adds gone pair-gone)),
              new_flat,
            )

      top_is : get_or (records_on fs) i 0 ≡ here.head.at
      top_is = ap (λ (x : List Frame). get_or (records_on x) i 0) parts ∙ records_at fore aft here

      -- the old nodes are those that the memory given has below the node
      released : (m2 : Mem) → Grows m1 m2 → release longest_path m2 here.head.at ≡ zeroed (nodes_below i here.head.at m) m2
      released m2 grows =
          grown-release h.capacity k i here.head.at m (sound-below R S m h.capacity k i here.head old_run live) m2 (grows_both m m1 m2 a.grows grows)

      -- done or put off
      ends : (other q : ℕ) (y : Scratch) (x : Out) (w : Grown) → Above fore q → within i (grow_over h m1.used L) ≡ w → Agrees R S longest_path m1 L w x → Grows m1 x.memory
          → InsertLeaves h m g k p (tidy_ends h (F other) i q r (swap (nodes_below i here.head.at m) m1 x).built (swap (nodes_below i here.head.at m) m1 x).memory y) (tidies h (sub t g) k p conflict i n w)
      unfolding swapped tidy_ends
      ends other q y x (is null u) ab e j o = absurd j
      ends other q y x (is (leaf l v) u) ab e j o = absurd j
      ends other q y x (is (sub t' g') u) ab e j o = rw (j.0, ← released x.memory o) (replaced_leaves x.memory t' g' u j.2 (within-deep i (grow_over h m1.used L) (sub t' g') u e) other q y ab)
      ends other q y x no_room ab e j o = rw j (stands_leaves conflict r n m1 a other put_off y)

      pub tidies_leaves : (other q : ℕ) (z : Scratch) → Above fore q
          → InsertLeaves h m g k p (tidy_by h (F other) i q r (rebuild_at h (F other) i (get_or (records_on fs) i 0) m m1 z)) (tidies h (sub t g) k p conflict i n (within i (grow_over h m1.used (insert k p (flat_b (below_b (sub t g) i k))))))
      tidies_leaves other q z ab =
          subst⁻¹ (λ (x : ℕ). InsertLeaves h m g k p (tidy_by h (F other) i q r (rebuild_at h (F other) i x m m1 z)) (tidies h (sub t g) k p conflict i n (within i (grow_over h m1.used (insert k p (flat_b (below_b (sub t g) i k))))))) top_is
          (subst⁻¹ (λ (x : Branch). InsertLeaves h m g k p (tidy_by h (F other) i q r (rebuild_at h (F other) i here.head.at m m1 z)) (tidies h (sub t g) k p conflict i n (within i (grow_over h m1.used (insert k p (flat_b x)))))) below_is
          (subst⁻¹ (λ (x : Out). InsertLeaves h m g k p (tidy_ends h (F other) i q r x.built x.memory (rebuild_at h (F other) i here.head.at m m1 z).scratch) (tidies h (sub t g) k p conflict i n (within i (grow_over h m1.used L)))) (gathered other z)
          (ends other q (rebuild_at h (F other) i here.head.at m m1 z).scratch (afresh i (keys_of L) (payloads_of L) m1) (within i (grow_over h m1.used L)) ab refl agrees (afresh_grows i (keys_of L) (payloads_of L) m1))))
