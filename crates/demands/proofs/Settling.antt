-- Insert on good memory: it leaves the tree that document 01 describes, or refuses as described. Assumes nothing.
use mathlib.Core.Bool.{Bool, true, false}
use mathlib.Core.List.{List, [], ◌∷◌, ◌++◌}
use mathlib.Core.Logic.{⊎_elim}
use mathlib.Core.Path.{◌≡◌, refl, sym, subst, subst⁻¹, ap, ◌∙◌}
use native.Mathlib.Omega.{arith}
use Prim.Native.Nat.{ℕ, ◌<◌, ◌≤◌}
use lib.Dec.{eqb, ltb}
use lib.ListN.{length, get_or}
use borrow.Author.Tests.{lt-ltb, le-ltb, ltb-true, ltb-false, ne_eqb, eqb-false}
use Rattle.build.specs.Building.{Out, build}
use Rattle.build.specs.Releasing.{release}
use Rattle.counters.specs.Counters.{due_in}
use Rattle.insert.specs.Inserting.{Insert, insertion, Fresh, fresh, settled, slot_above, tidy_by, rebuild_at, tidy_of, pair_ends, held_payload, sound_due, settle_at as settle_at_of, settle_of, whole_ends, whole_by, whole_of, unless_full as unless_full_of, insert_end as insert_end_of, insert_of, not_due}
use Rattle.laws.proofs.Tests.{both, and_true, le_or_lt}
use Rattle.laws.specs.Answers.{refused}
use Rattle.laws.specs.Keys.{key_bound}
use Rattle.laws.specs.Pick.{pick}
use Rattle.model.proofs.Heights.{height_small}
use Rattle.model.specs.Height.{height}
use Rattle.pool.proofs.Growth.{Grows, grows_same}
use Rattle.pool.specs.Memory.{Mem}
use Rattle.pool.specs.Writing.{put_data, put_child}
use Rattle.rebuild.proofs.Grown.{pair_grows, afresh_grows}
use Rattle.rebuild.proofs.Releases.{release_alone}
use Rattle.rebuild.proofs.Soundness.{grown-release}
use Rattle.rebuild.specs.Pairs.{pair_of, pair_if, pair_gone}
use Rattle.rebuild.specs.Rebuilding.{afresh, swapped, swap, in_place, Scratch, rebuild_over, rebuild_of, sound_below}
use Rattle.rebuild.specs.Zeroing.{nodes_below}
use Rattle.store.proofs.Fitting.{Limits, fits_given}
use Rattle.store.specs.declared.Handle.{Handle}
use Rattle.walk.specs.Walks.{longest_path}
use Rattle.demands.specs.Demand2.{InsertLeaves, InsertAnswers}
use Rattle.demands.specs.Growing.{Grown, is, no_room}
use Rattle.demands.specs.Map.{Map, EachKey, Rises, insert, member, keys_of, payloads_of}
use Rattle.demands.specs.Paths.{path_b, below_b}
use Rattle.demands.specs.Placed.{Head, Branch, null, leaf, sub, Forest, flat_b, flat_f, depth_b, in_b, Frame, plug, Follows, Good}
use Rattle.demands.specs.Settling.{Settled, due_b, grow_over, within, tidies, settle_at, settle, settle_pair, whole, unless_full, insert_end}
use Rattle.demands.specs.Stores.{ours}
use Rattle.demands.proofs.Adding.{Fine, fine_of}
use Rattle.demands.proofs.Afresh.{insert_all, insert-rises, insert-size, not_member, rising_of, built_agrees, afresh_agrees}
use Rattle.demands.proofs.Bands.{size-keys}
use Rattle.demands.proofs.Calls.{on, walk_is, member_is}
use Rattle.demands.proofs.Depths.{grow-height}
use Rattle.demands.proofs.Frames.{part, plug-app, follows-left, records_at, due_plug, due_in-records_on, above_is}
use Rattle.demands.proofs.Grafting.{okay-end, root_kept, adds_end, drops_end, holds_added}
use Rattle.demands.proofs.Growing.{Agrees, BuiltAs}
use Rattle.demands.proofs.Live.{LiveIn, keys-b, sound-below, keys_gathered, payloads_gathered}
use Rattle.demands.proofs.Plugs.{End, rises-b, deep_in}
use Rattle.demands.proofs.Raising.{heads_in}
use Rattle.demands.proofs.Reading.{Holds}
use Rattle.demands.proofs.Removing.{Removed, release_removed}
use Rattle.demands.proofs.Standing.{Site, Taker, Above, live, stands_leaves, tidies_leaves, good_more}
use Rattle.demands.proofs.Walking.{Kept, holds-all, place_of, records_on, records-length, end_to, end-slot}
use Rattle.demands.proofs.Ways.{path-plug, way_path, way_end}

-- a tidying or none, once the slot has its taker
module _ (h : Handle) (m : Mem) (t : Head) (g : Forest) (k p : ℕ) (f : Frame) (c : List Frame) (b : Branch) (s : Site h m t g k f c b) where
  abbrev R : ℕ
  R = h.records

  abbrev S : ℕ
  S = h.slots

  abbrev fs : List Frame
  fs = f ∷ c

  path_is : path_b k (sub t g) ≡ records_on fs
  path_is = ap (path_b k) s.eq ∙ path-plug k fs b s.follows s.is_end

  path-long : length (path_b k (sub t g)) ≡ length fs
  path-long = ap length path_is ∙ records-length fs

  above_at : (fore : List Frame) (here : Frame) (aft : List Frame) → fs ≡ fore ++ (here ∷ aft) → Above fore (slot_above m.nodes (records_on fs) k (length fore))
  above_at [] here aft e = tt
  above_at (f0 ∷ c0) here aft e =
      let tp : plug fs b ≡ plug (f0 ∷ c0) (plug (here ∷ aft) b) = ap (λ (x : List Frame). plug x b) e ∙ plug-app (f0 ∷ c0) (here ∷ aft) b in
      let kp : Kept R S m (plug (f0 ∷ c0) (plug (here ∷ aft) b)) = subst (Kept R S m) tp s.kept in
      ap (λ (x : List Frame). slot_above m.nodes (records_on x) k (length (f0 ∷ c0))) e
      ∙ above_is R S m kp.sized k f0 c0 (here ∷ aft) (plug (here ∷ aft) b) (holds-all R S m _ kp) kp.okay (follows-left k (f0 ∷ c0) (here ∷ aft) (subst (Follows k) e s.follows))

  module _ (conflict : Bool) (r : ℕ) (n : Branch) (m1 : Mem) (a : Taker h m k p f c b conflict r n m1) (other : ℕ) (z : Scratch) where
    abbrev F : Fresh
    F = fresh k p (place_of f c) conflict other (records_on fs)

    Ends : ℕ → Type 0
    Ends i = InsertLeaves h m g k p (tidy_by h F i (slot_above m.nodes (records_on fs) k i) r (rebuild_at h F i (get_or (records_on fs) i 0) m m1 z)) (tidies h (sub t g) k p conflict i n (within i (grow_over h m1.used (insert k p (flat_b (below_b (sub t g) i k))))))

    due_leaves : (i : ℕ) → i < length fs → Ends i
    unfolding Ends
    due_leaves i l =
        let q = part fs i l in
        subst Ends q.long (tidies_leaves h m t g k p f c b s q.before q.here q.after q.eq conflict r n m1 a other _ z (above_at q.before q.here q.after q.eq))

    pub tidy_leaves : (i : ℕ) → InsertLeaves h m g k p (tidy_of h F i (slot_above m.nodes (records_on fs) k i) r m m1 z) (settle_at h (sub t g) k p conflict i n m1.used)
    unfolding tidy_of Ends
    tidy_leaves i =
        let same : ltb i (length (path_b k (sub t g))) ≡ ltb i (length (records_on fs)) = ap (λ (x : List ℕ). ltb i (length x)) path_is in
        both (ltb i (length (records_on fs)))
        (λ e. rw (e, same ∙ e) (due_leaves i (subst (λ (x : ℕ). i < x) (records-length fs) (ltb-true i (length (records_on fs)) e))))
        (λ e. rw (e, same ∙ e) (stands_leaves h m t g k p f c b s conflict r n m1 a other not_due z))

  sound_at : (i : ℕ) → sound_due h.capacity k (records_on fs) i m ≡ true
  unfolding sound_due
  sound_at i = rw (records-length fs) (both (ltb i (length fs)) (λ e. rw e (inside i (ltb-true i (length fs) e))) (λ e. rw e))
    where
      inside : (i : ℕ) → i < length fs → sound_below h.capacity k i (get_or (records_on fs) i 0) m ≡ true
      inside i l =
          let q = part fs i l in
          let top : get_or (records_on fs) (length q.before) 0 ≡ q.here.head.at = ap (λ (x : List Frame). get_or (records_on x) (length q.before) 0) q.eq ∙ records_at q.before q.after q.here in
          subst (λ (j : ℕ). sound_below h.capacity k j (get_or (records_on fs) j 0) m ≡ true) q.long
          (ap (λ (x : ℕ). sound_below h.capacity k (length q.before) x m) top ∙ sound-below R S m h.capacity k (length q.before) q.here.head _ (live h m t g k p f c b s q.before q.here q.after q.eq))

  due_is : (conflict : Bool) → due_in m.nodes conflict (records_on fs) ≡ due_b conflict k (sub t g)
  due_is conflict =
      due_in-records_on R m conflict fs (heads_in R S m f c b (holds-all R S m _ s.kept) s.kept.okay) ∙ sym (ap (due_b conflict k) s.eq ∙ due_plug conflict k fs b s.follows s.is_end)

-- no conflict: the slot is NULL and becomes DATA
module _ (h : Handle) (m : Mem) (t : Head) (g : Forest) (k p : ℕ) (f : Frame) (c : List Frame) (s : Site h m t g k f c null) (z : Scratch) where
  leaf_taker : Taker h m k p f c null false 0 (leaf k p) m
  unfolding settled pair_gone put_data
  leaf_taker = record {
    grows = grows_same m;
    adds = adds_end h.records h.slots m (leaf k p) (fine_of h.records h.slots m _ s.kept) (λ x w. refl);
    okay = s.key;
    flat = refl;
    deep = omega (arith, deep_in (f ∷ c) null, s.kept.deep);
    slot = refl;
    goes = λ o fine hold. drops_end h.records h.slots o (leaf k p) fine (λ x w. refl);
  }

  pub empty_leaves : InsertLeaves h m g k p (settle_of h (fresh k p (place_of f c) false 0 (records_on (f ∷ c))) m z) (settle h (sub t g) k p false (leaf k p) m.used)
  unfolding settle_of settle_at_of pair_if pair_ends
  empty_leaves =
      subst⁻¹ (λ (i : ℕ). InsertLeaves h m g k p (settle_at_of h (fresh k p (place_of f c) false 0 (records_on (f ∷ c))) i m z) (settle_at h (sub t g) k p false (due_b false k (sub t g)) (leaf k p) m.used)) (due_is h m t g k p f c null s false)
      (rw (sound_at h m t g k p f c null s (due_b false k (sub t g))) (tidy_leaves h m t g k p f c null s false 0 (leaf k p) m leaf_taker 0 z (due_b false k (sub t g))))

-- a conflict: the code's pair is the map of two keys
module _ (h : Handle) (m : Mem) (k p j q : ℕ) (fine : Fine h.records h.slots m) (kb : k < key_bound) (jb : j < key_bound) (ne : j ≡ k → ⊥) where
  abbrev two : Map
  two = insert k p ((j, q) ∷ [])

  pair-built : pair_of k p j q m ≡ build longest_path (keys_of two) (payloads_of two) m
  unfolding pair_of
  pair-built = both (ltb k j) (λ e. rw e (upper (ltb-true k j e))) (λ e. rw e (lower (ltb-false k j e)))
    where
      upper : k < j → build longest_path (k ∷ j ∷ []) (p ∷ q ∷ []) m ≡ build longest_path (keys_of two) (payloads_of two) m
      upper l = let le : k ≤ j = omega arith in rw (le-ltb j k le, ne_eqb j k ne)

      lower : j ≤ k → build longest_path (j ∷ k ∷ []) (q ∷ p ∷ []) m ≡ build longest_path (keys_of two) (payloads_of two) m
      lower l = rw (lt-ltb j k (below l))
        where
          below : j ≤ k → j < k
          below l = ⊎_elim (λ x. absurd (ne (omega arith))) (λ x. x) (le_or_lt k j)

  rises-two : Rises two
  rises-two = insert-rises k p ((j, q) ∷ []) (tt, tt)

  keys-two : EachKey (λ x. x < key_bound) two
  keys-two = insert_all k p (λ x. x < key_bound) kb ((j, q) ∷ []) (jb, tt)

  pub pair_agrees : Agrees h.records h.slots longest_path m two (grow_over h m.used two) (pair_of k p j q m)
  pair_agrees =
      subst⁻¹ (Agrees h.records h.slots longest_path m two (grow_over h m.used two)) pair-built (built_agrees h.records h.slots m fine two rises-two keys-two 0)

  -- it is one node high
  pub pair_flat : (n : Branch) (u : List ℕ) → grow_over h m.used two ≡ is n u → depth_b n ≤ 1
  pair_flat n u e =
      let two-long : length (keys_of two) ≡ 2 = size-keys two ∙ insert-size k p ((j, q) ∷ []) (ne, tt) in
      omega (arith, grow-height longest_path h.records h.slots m.used (keys_of two) (payloads_of two) n u (rising_of two rises-two keys-two) e, ap height two-long, height_small 2 (omega arith))

module _ (h : Handle) (m : Mem) (t : Head) (g : Forest) (k p : ℕ) (f : Frame) (c : List Frame) (j q : ℕ) (s : Site h m t g k f c (leaf j q)) (z : Scratch) (ne : j ≡ k → ⊥) (short : length (f ∷ c) < longest_path) where
  abbrev fine0 : Fine h.records h.slots m
  fine0 = fine_of h.records h.slots m _ s.kept

  jb : j < key_bound
  jb = okay-end h.records h.slots (f ∷ c) (leaf j q) s.kept.okay

  pair_taker : (x : Out) (t' : Head) (g' : Forest) → depth_b (sub t' g') ≤ 1 → BuiltAs h.records h.slots longest_path m (insert k p ((j, q) ∷ [])) t' g' x.memory → Grows m x.memory → Taker h m k p f c (leaf j q) true t'.at (sub t' g') x.memory
  unfolding settled pair_gone put_child
  pair_taker x t' g' d a o = record {
    adds = a.adds;
    grows = o;
    okay = a.okay;
    flat = a.flat;
    deep = omega arith;
    slot = refl;
    goes = λ y fine hold.
        subst (λ (w : Mem). Removed h.records h.slots y w (λ v φ. in_b h.records φ v (sub t' g'))) (release_alone t'.at y)
        (release_removed h.records h.slots 1 t' g' y fine a.okay hold d);
  }

  abbrev G : Fresh
  G = fresh k p (place_of f c) true j (records_on (f ∷ c))

  abbrev i : ℕ
  i = due_b true k (sub t g)

  pair_ends_agree : (x : Out) (w : Grown) → grow_over h m.used (insert k p ((j, q) ∷ [])) ≡ w → Agrees h.records h.slots longest_path m (insert k p ((j, q) ∷ [])) w x → Grows m x.memory
      → InsertLeaves h m g k p (pair_ends h G i (slot_above m.nodes (records_on (f ∷ c)) k i) m z x.built x.memory) (settle_pair h (sub t g) k p w)
  unfolding pair_ends
  pair_ends_agree x (is null u) e a o = absurd a
  pair_ends_agree x (is (leaf l v) u) e a o = absurd a
  pair_ends_agree x (is (sub t' g') u) e a o =
      rw a.0 (subst (λ (y : List ℕ). InsertLeaves h m g k p (tidy_of h G i (slot_above m.nodes (records_on (f ∷ c)) k i) t'.at m x.memory z) (settle_at h (sub t g) k p true i (sub t' g') y)) a.1
      (tidy_leaves h m t g k p f c (leaf j q) s true t'.at (sub t' g') x.memory (pair_taker x t' g' (pair_flat h m k p j q fine0 s.key jb ne (sub t' g') u e) a.2 o) j z i))
  pair_ends_agree x no_room e a o = rw a (refl, refl, refl)

  held_is : held_payload G m ≡ q
  held_is = end-slot h.records h.slots m (leaf j q) c f (holds-all h.records h.slots m _ s.kept) 1 (omega arith)

  pair-grown : Grows m (pair_of k p j q m).memory
  unfolding pair_if
  pair-grown = pair_grows true k p j q m

  pub pair_leaves : InsertLeaves h m g k p (settle_of h G m z) (settle_pair h (sub t g) k p (grow_over h m.used (insert k p ((j, q) ∷ []))))
  unfolding settle_of settle_at_of pair_if
  pair_leaves =
      subst⁻¹ (λ (y : ℕ). InsertLeaves h m g k p (settle_at_of h G y m z) (settle_pair h (sub t g) k p (grow_over h m.used (insert k p ((j, q) ∷ []))))) (due_is h m t g k p f c (leaf j q) s true)
      (rw (sound_at h m t g k p f c (leaf j q) s i, held_is) (pair_ends_agree (pair_of k p j q m) (grow_over h m.used (insert k p ((j, q) ∷ []))) refl (pair_agrees h m k p j q fine0 s.key jb ne) pair-grown))

-- "where the path already has 24 nodes, the whole tree is built afresh"
module _ (h : Handle) (m : Mem) (t : Head) (g : Forest) (k p : ℕ) (f : Frame) (c : List Frame) (b : Branch) (s : Site h m t g k f c b) (z : Scratch) where
  abbrev RR : ℕ
  RR = h.records

  abbrev SS : ℕ
  SS = h.slots

  kept0 : Kept RR SS m (sub t g)
  kept0 = subst⁻¹ (Kept RR SS m) s.eq s.kept

  live0 : LiveIn RR SS m h.capacity k 0 t g
  unfolding kept0
  live0 = record {
    sized = kept0.sized;
    okay = kept0.okay;
    holds = holds-all RR SS m _ kept0;
    deep = kept0.deep;
    room = omega (arith, s.count, s.space);
    fresh = s.absent;
  }

  abbrev L : Map
  L = insert k p (flat_f g)

  agrees0 : Agrees RR SS longest_path m L (within 0 (grow_over h m.used L)) (afresh 0 (keys_of L) (payloads_of L) m)
  unfolding kept0
  agrees0 =
      afresh_agrees RR SS m (fine_of RR SS m _ kept0) L (insert-rises k p (flat_f g) (rises-b RR SS (sub t g) kept0.okay)) (insert_all k p (λ x. x < key_bound) s.key (flat_f g) (keys-b RR SS (sub t g) kept0.okay)) 0

  gathered0 : (rebuild_of h.capacity k p 0 t.at m z).out ≡ swap (nodes_below 0 t.at m) m (afresh 0 (keys_of L) (payloads_of L) m)
  unfolding rebuild_of rebuild_over in_place live0
  gathered0 = rw (keys_gathered RR SS m h.capacity k 0 t g live0 p, payloads_gathered RR SS m h.capacity k 0 t g live0 p)

  whole-ends : (x : Out) (y : Scratch) (w : Grown) → Agrees RR SS longest_path m L w x → Grows m x.memory
      → InsertLeaves h m g k p (whole_ends h m (swap (nodes_below 0 t.at m) m x).built (swap (nodes_below 0 t.at m) m x).memory y) (whole w)
  unfolding swapped whole_ends kept0 live0
  whole-ends x y (is null u) a o = absurd a
  whole-ends x y (is (leaf l v) u) a o = absurd a
  whole-ends x y (is (sub t' g') u) a o =
      let hold : Holds RR x.memory (sub t g) = holds_added RR SS m x.memory (sub t g) (sub t' g') (holds-all RR SS m _ kept0) a.2.adds in
      let gone = release_removed RR SS longest_path t g x.memory a.2.adds.fine kept0.okay hold kept0.deep in
      let fine1 = fine_of RR SS m _ kept0 in
      rw (a.0, ← grown-release h.capacity k 0 t.at m (sound-below RR SS m h.capacity k 0 t g live0) x.memory o) (
        refl,
        refl,
        good_more h m t g k p f c b s t'.at (release longest_path x.memory t.at) t' g' refl a.2.flat
            (root_kept RR SS m m x.memory _ _ (sub t g) null (sub t' g') kept0 a.2.okay a.2.deep (adds_end RR SS m null fine1 (λ y w. refl)) a.2.adds gone (drops_end RR SS _ null gone.fine (λ y w. refl))),
        a.2.flat,
      )
  whole-ends x y no_room a o = rw a (refl, refl, refl)

  pub whole_leaves : InsertLeaves h m g k p (whole_of h k p m z) (whole (within 0 (grow_over h m.used L)))
  unfolding whole_of live0
  whole_leaves =
      subst⁻¹ (λ (r : ℕ). InsertLeaves h m g k p (pick (sound_below h.capacity k 0 r m) (whole_by h m (rebuild_of h.capacity k p 0 r m z)) (insertion (refused 9) h m z)) (whole (within 0 (grow_over h m.used L)))) s.root
      (rw (sound-below RR SS m h.capacity k 0 t g live0)
      (subst⁻¹ (λ (x : Out). InsertLeaves h m g k p (whole_ends h m x.built x.memory (rebuild_of h.capacity k p 0 t.at m z).scratch) (whole (within 0 (grow_over h m.used L)))) gathered0
      (whole-ends (afresh 0 (keys_of L) (payloads_of L) m) (rebuild_of h.capacity k p 0 t.at m z).scratch (within 0 (grow_over h m.used L)) agrees0 (afresh_grows 0 (keys_of L) (payloads_of L) m))))

-- two choices by one test
either : (h : Handle) (m : Mem) (g : Forest) (k p : ℕ) (b : Bool) (x y : Insert) (v w : Settled) → (b ≡ true → InsertLeaves h m g k p x v) → (b ≡ false → InsertLeaves h m g k p y w) → InsertLeaves h m g k p (pick b x y) (pick b v w)
either h m g k p true x y v w a b = a refl
either h m g k p false x y v w a b = b refl

-- by what stands at the end of the path
module _ (h : Handle) (m : Mem) (t : Head) (g : Forest) (d : Good h m t g) (k p : ℕ) (key : k < key_bound) (z : Scratch) where
  abbrev limits : Limits h.capacity h.records h.slots
  limits = (fits_given h m d.fits).limits

  full_or : (x : Insert) (w : Settled) → (h.count < h.capacity → InsertLeaves h m g k p x w) → InsertLeaves h m g k p (unless_full_of h m z x) (unless_full h w)
  unfolding unless_full_of
  full_or x w f = both (ltb h.count h.capacity) (λ e. rw e (f (ltb-true h.count h.capacity e))) (λ e. rw e (refl, refl, refl))

  site : (f : Frame) (c : List Frame) (b : Branch) → End b → sub t g ≡ plug (f ∷ c) b → Follows k (f ∷ c) → Kept h.records h.slots m (plug (f ∷ c) b) → member k (flat_f g) ≡ false → h.count < h.capacity → Site h m t g k f c b
  site f c b e eq w kept y l = record {
    limits = limits;
    root = d.root;
    count = d.count;
    space = l;
    key = key;
    absent = not_member k (flat_f g) y;
    is_end = e;
    eq = eq;
    follows = w;
    kept = kept;
  }

  end_leaves : (b : Branch) (e : End b) (f : Frame) (c : List Frame) → sub t g ≡ plug (f ∷ c) b → Follows k (f ∷ c) → Kept h.records h.slots m (plug (f ∷ c) b) → member k (flat_f g) ≡ member k (flat_b b)
      → InsertLeaves h m g k p (insert_end_of h k p m z (records_on (f ∷ c)) (end_to (place_of f c) b e)) (insert_end h (sub t g) m.used k p b)
  unfolding insert_end_of
  end_leaves null e f c eq w kept y = full_or _ _ (λ l. empty_leaves h m t g k p f c (site f c null e eq w kept y l) z)
  end_leaves (sub u v) e f c eq w kept y = absurd e
  end_leaves (leaf j q) e f c eq w kept y = either h m g k p (eqb j k) _ _ _ _ (λ x. (refl, refl, refl)) (λ x. full_or _ _ (λ l. new x l))
    where
      long : length (path_b k (sub t g)) ≡ length (records_on (f ∷ c))
      long = ap length (ap (path_b k) eq ∙ path-plug k (f ∷ c) (leaf j q) w e)

      at_site : eqb j k ≡ false → h.count < h.capacity → Site h m t g k f c (leaf j q)
      at_site x l = site f c (leaf j q) e eq w kept (y ∙ ap (λ (i : Bool). pick i true false) x) l

      new : eqb j k ≡ false → h.count < h.capacity
          → InsertLeaves h m g k p (pick (ltb (length (records_on (f ∷ c))) longest_path) (settle_of h (fresh k p (place_of f c) true j (records_on (f ∷ c))) m z) (whole_of h k p m z)) (pick (ltb (length (path_b k (sub t g))) longest_path) (settle_pair h (sub t g) k p (grow_over h m.used (insert k p ((j, q) ∷ [])))) (whole (within 0 (grow_over h m.used (insert k p (flat_f g))))))
      new x l =
          let same : ltb (length (path_b k (sub t g))) longest_path ≡ ltb (length (records_on (f ∷ c))) longest_path = ap (λ (i : ℕ). ltb i longest_path) long in
          both (ltb (length (records_on (f ∷ c))) longest_path)
          (λ v. rw (v, same ∙ v) (pair_leaves h m t g k p f c j q (at_site x l) z (eqb-false j k x) (subst (λ (i : ℕ). i < longest_path) (records-length (f ∷ c)) (ltb-true (length (records_on (f ∷ c))) longest_path v))))
          (λ v. rw (v, same ∙ v) (whole_leaves h m t g k p f c (leaf j q) (at_site x l) z))

pub insert_answers : InsertAnswers ours
unfolding insert_of
insert_answers h m t g d k p key z fits =
    let o = on h m t g d k key in
    rw (and_true d.fits fits, lt-ltb k key_bound key, walk_is h m t g d k key)
    (subst⁻¹ (λ (x : Branch). InsertLeaves h m g k p (insert_end_of h k p m z (path_b k (sub t g)) (end_to (place_of o.first o.rest) o.end o.is_end)) (insert_end h (sub t g) m.used k p x)) (way_end h.records h.slots m k t g o)
    (subst⁻¹ (λ (x : List ℕ). InsertLeaves h m g k p (insert_end_of h k p m z x (end_to (place_of o.first o.rest) o.end o.is_end)) (insert_end h (sub t g) m.used k p o.end)) (way_path h.records h.slots m k t g o)
    (end_leaves h m t g d k p key z o.end o.is_end o.first o.rest o.eq o.follows o.kept (member_is h m t g d k key))))
