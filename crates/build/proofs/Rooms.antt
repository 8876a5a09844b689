-- Building succeeds exactly when there is room, and takes the places that first fit over its sizes finds. Where just the first
-- records and slots are used, as on an empty map, there is room exactly when the sums fit, so there the sums alone decide. Assumes
-- nothing.
use Rattle.std.specs.Prelude.{None, Option, Some}
use mathlib.Core.Bool.{true, false}
use mathlib.Core.List.{List, [], ◌∷◌, ◌++◌}
use mathlib.Core.Logic.{inl, inr, ⊎_elim, ◌↔◌}
use mathlib.Core.Path.{◌≡◌, refl, sym, ap, subst, subst⁻¹, ◌∙◌}
use Prim.Native.Nat.{ℕ, zero, suc, ◌+◌, ◌-◌, ◌*◌, ◌/◌, ◌<◌, ◌≤◌}
use native.Mathlib.Nat.{add-zero}
use native.Mathlib.Omega.{arith}
use borrow.Author.Tests.{lt-ltb, le-ltb, ltb-true, ltb-false, eqb-true, eqb-false}
use lib.Dec.{ltb, eqb}
use lib.ListN.{length, get_or, replicate, length-set, length-replicate, get_or-replicate, get_or-eq_default}
use lib.Seq.{length-sets}
use Rattle.laws.proofs.Tests.{both, le_or_lt, true_not_false}
use Rattle.laws.specs.Keys.{Rising}
use Rattle.laws.specs.Pick.{pick}
use Rattle.marks.proofs.Lowest.{first_unused_is, lowest_run_here, lowest_run-nowhere}
use Rattle.marks.proofs.Marks.{mark-same, mark-other, mark-length}
use Rattle.marks.proofs.Runs.{mark_run_in, mark_run-out, mark_run-length, free_run_is, free_run_not, zero_word_unused}
use Rattle.marks.specs.Used.{used_at, mark_at, mark_run, first_unused, lowest_run}
use Rattle.std.proofs.Common.{None, Option, Some}
use Rattle.model.proofs.Heights.{height_positive}
use Rattle.model.specs.Choice.{model_of}
use Rattle.model.specs.Groups.{keys_to}
use Rattle.model.specs.Height.{height}
use Rattle.pool.specs.Memory.{Mem, mem, records_in, slots_in}
use Rattle.pool.specs.Writing.{put_node, put_data, put_child, zero_run}
use Rattle.pool.specs.declared.Node.{Node}
use Rattle.build.specs.Building.{Out, out, next, and_then, Builder, with_slots, payloads_to, lowest_record, lowest_slots, place_node, fill_slot, fill_slots, node_on, node_with, build}
use Rattle.build.specs.Room.{Placed, placed, at_run, place_all, has_room, Prefix}
use Rattle.build.specs.Sizes.{of_group, sizes_under, sizes_of, total}
use Rattle.build.proofs.Heights.{child-rising, child_lower}

-- go on where there was room
abbrev place_then : Placed → (List ℕ → Placed) → Placed
place_then p f = pick p.fits (f p.used) p

-- and stop there
then_all : (p : Placed) → place_then p (placed true) ≡ p
then_all p = both p.fits (λ e. rw e) (λ e. rw e)

module _ (records count : ℕ) where
  -- some sizes, and then others
  place-append : (xs ys u : List ℕ) → place_all records count (xs ++ ys) u ≡ place_then (place_all records count xs u) (place_all records count ys)
  unfolding place_all
  place-append [] ys u = refl
  place-append (l ∷ xs) ys u =
      both (ltb (first_unused u 0 records) records)
      (λ e. rw e (on (lowest_run u records count l) (λ s. place-append xs ys (mark_run (mark_at u (first_unused u 0 records)) (records + s) l))))
      (λ e. rw e)
    where
      on : (w : Option ℕ)
          → ((s : ℕ) → place_all records count (xs ++ ys) (mark_run (mark_at u (first_unused u 0 records)) (records + s) l) ≡ place_then (place_all records count xs (mark_run (mark_at u (first_unused u 0 records)) (records + s) l)) (place_all records count ys))
          → at_run w u (λ s. place_all records count (xs ++ ys) (mark_run (mark_at u (first_unused u 0 records)) (records + s) l))
          ≡ place_then (at_run w u (λ s. place_all records count xs (mark_run (mark_at u (first_unused u 0 records)) (records + s) l))) (place_all records count ys)
      on (Some s) h = h s
      on None h = refl

  -- pools of so many records and slots
  record Pools (m : Mem) : Type 0 where
    records-are : records_in m.nodes ≡ records
    slots-are : slots_in m.slots ≡ count

  -- a build and the placing of its sizes come to the same map, and both find room or both do not
  record Agrees (o : Out) (p : Placed) : Type 0 where
    pools : Pools o.memory
    map : o.memory.used ≡ p.used
    room : has_room o.built ≡ p.fits

  next_agrees : (b : Option ℕ) (m : Mem) (f : ℕ → Mem → Out) (p : Placed) (g : List ℕ → Placed) → Agrees (out b m) p
      → ((r : ℕ) (n : Mem) → Pools n → Agrees (f r n) (g n.used)) → Agrees (next b m f) (place_then p g)
  next_agrees (Some r) m f p g a h = rw (sym a.room, sym a.map) (h r m a.pools)
  next_agrees None m f p g a h = rw (sym a.room) (record { pools = a.pools; map = a.map; room = refl })

  then_agrees : (o : Out) (f : ℕ → Mem → Out) (p : Placed) (g : List ℕ → Placed) → Agrees o p
      → ((r : ℕ) (n : Mem) → Pools n → Agrees (f r n) (g n.used)) → Agrees (and_then o f) (place_then p g)
  then_agrees o f p g a h = next_agrees o.built o.memory f p g a h

  -- the stores keep the pools' sizes
  put_data-pools : (m : Mem) (q k p : ℕ) → Pools m → Pools (with_slots m (put_data m.slots q k p))
  unfolding put_data
  put_data-pools m q k p h = record { records-are = h.records-are; slots-are = simp length-set h.slots-are }

  put_child-pools : (m : Mem) (q c : ℕ) → Pools m → Pools (with_slots m (put_child m.slots q c))
  unfolding put_child
  put_child-pools m q c h = record { records-are = h.records-are; slots-are = simp length-set h.slots-are }

  place_node-pools : (m : Mem) (r : ℕ) (n : Node) (k : ℕ) → Pools m → Pools (place_node m r n k)
  unfolding place_node put_node zero_run
  place_node-pools m r n k h = record {
    records-are = simp length-sets h.records-are;
    slots-are = simp length-sets h.slots-are;
  }

  place_node-used : (m : Mem) (r : ℕ) (n : Node) (k : ℕ) → Pools m
      → (place_node m r n k).used ≡ mark_run (mark_at m.used r) (records + n.start) n.model.l
  unfolding place_node
  place_node-used m r n k h = rw h.records-are

  -- one slot: its keys' child, if there are several
  module _ (B : Builder) (S : List ℕ → List ℕ) where
    fill_slot_agrees : (r q : ℕ) (g ps : List ℕ) (m : Mem) → Pools m
        → (2 ≤ length g → (qs : List ℕ) (n : Mem) → Pools n → Agrees (B g qs n) (place_all records count (S g) n.used))
        → Agrees (fill_slot B r q g ps m) (place_all records count (of_group [] S g) m.used)
    unfolding fill_slot place_all
    fill_slot_agrees r q [] ps m h child = record { pools = h; map = refl; room = refl }
    fill_slot_agrees r q (k ∷ []) ps m h child = record { pools = put_data-pools m q k (get_or ps 0 0) h; map = refl; room = refl }
    fill_slot_agrees r q (k ∷ j ∷ ks) ps m h child =
        subst (λ (p : Placed). Agrees (and_then (B (k ∷ j ∷ ks) ps m) (λ c n. out (Some r) (with_slots n (put_child n.slots q c)))) p)
        (then_all (place_all records count (S (k ∷ j ∷ ks)) m.used))
        (then_agrees (B (k ∷ j ∷ ks) ps m) _ (place_all records count (S (k ∷ j ∷ ks)) m.used) (placed true) (child (omega arith) ps m h)
        (λ c n z. record { pools = put_child-pools n q c z; map = refl; room = refl }))

    module _ (ks : List ℕ) (node : Node)
        (child : (s : ℕ) → 2 ≤ length (keys_to node.model s ks) → (qs : List ℕ) (n : Mem) → Pools n → Agrees (B (keys_to node.model s ks) qs n) (place_all records count (S (keys_to node.model s ks)) n.used)) where
      fill_slots_agrees : (r n s : ℕ) (ps : List ℕ) (m : Mem) → Pools m
          → Agrees (fill_slots B r node n s ks ps m) (place_all records count (sizes_under S node.model n s ks) m.used)
      unfolding fill_slots sizes_under place_all
      fill_slots_agrees r zero s ps m h = record { pools = h; map = refl; room = refl }
      fill_slots_agrees r (suc n) s ps m h =
          let g = keys_to node.model s ks in
          let p = payloads_to node.model s ks ps in
          subst⁻¹ (Agrees (fill_slots B r node (suc n) s ks ps m)) (place-append (of_group [] S g) (sizes_under S node.model n (s + 1) ks) m.used)
          (then_agrees
          (fill_slot B r (node.start + s) g p m)
          _
          (place_all records count (of_group [] S g) m.used)
          (place_all records count (sizes_under S node.model n (s + 1) ks))
          (fill_slot_agrees r (node.start + s) g p m h (child s))
          (λ c m' z. fill_slots_agrees r n (s + 1) ps m' z))

    -- one node: the test of the lowest record, then of the lowest run
    module _ (ks : List ℕ)
        (child : (s : ℕ) → 2 ≤ length (keys_to (model_of ks) s ks) → (qs : List ℕ) (n : Mem) → Pools n → Agrees (B (keys_to (model_of ks) s ks) qs n) (place_all records count (S (keys_to (model_of ks) s ks)) n.used))
        (ps : List ℕ) (m : Mem) (h : Pools m) where
      run_agrees : (r : ℕ) (w : Option ℕ)
          → Agrees (node_on B r (model_of ks) w ks ps m)
          (at_run w m.used (λ s. place_all records count (sizes_under S (model_of ks) (model_of ks).l 0 ks) (mark_run (mark_at m.used r) (records + s) (model_of ks).l)))
      unfolding node_on
      run_agrees r (Some s) =
          let node : Node = record { model = model_of ks; start = s } in
          let m' = place_node m r node (length ks) in
          subst (λ (u : List ℕ). Agrees (fill_slots B r node (model_of ks).l 0 ks ps m') (place_all records count (sizes_under S (model_of ks) (model_of ks).l 0 ks) u))
          (place_node-used m r node (length ks) h)
          (fill_slots_agrees ks node child r (model_of ks).l 0 ps m' (place_node-pools m r node (length ks) h))
      run_agrees r None = record { pools = h; map = refl; room = refl }

      node_agrees : Agrees (node_with B ks ps m) (place_all records count ((model_of ks).l ∷ sizes_under S (model_of ks) (model_of ks).l 0 ks) m.used)
      unfolding node_with place_all lowest_record lowest_slots
      node_agrees =
          rw (h.records-are, h.slots-are)
          (both (ltb (first_unused m.used 0 records) records)
          (λ e. rw e (run_agrees (first_unused m.used 0 records) (lowest_run m.used records count (model_of ks).l)))
          (λ e. rw e (record { pools = h; map = refl; room = refl })))

  build_agrees : (d : ℕ) (ks : List ℕ) → Rising ks → height (length ks) ≤ d → (ps : List ℕ) (m : Mem) → Pools m
      → Agrees (build d ks ps m) (place_all records count (sizes_of d ks) m.used)
  unfolding build sizes_of
  build_agrees zero ks r enough ps m h = absurd (omega (arith, height_positive (length ks)))
  build_agrees (suc d) ks r enough ps m h =
      node_agrees (build d) (sizes_of d) ks
      (λ s two qs n z. build_agrees d (keys_to (model_of ks) s ks) (child-rising ks r s) (omega (arith, child_lower ks r s two)) qs n z)
      ps m h

has_room_at : (b : Option ℕ) → has_room b ≡ true → (r : ℕ) × (b ≡ Some r)
has_room_at (Some r) e = (r, refl)
has_room_at None e = absurd (true_not_false (sym e))

no_room_is : (b : Option ℕ) → has_room b ≡ false → b ≡ None
no_room_is (Some r) e = absurd (true_not_false e)
no_room_is None e = refl

-- the sizes of a build over ks, placed on the map of the memory
abbrev pub placing : ℕ → List ℕ → Mem → Placed
placing d ks m = place_all (records_in m.nodes) (slots_in m.slots) (sizes_of d ks) m.used

-- A build with levels enough, and its sizes placed on the map that it starts from.
module _ (d : ℕ) (ks : List ℕ) (rising : Rising ks) (enough : height (length ks) ≤ d) (ps : List ℕ) (m : Mem) where
  agreed : Agrees (records_in m.nodes) (slots_in m.slots) (build d ks ps m) (placing d ks m)
  agreed = build_agrees (records_in m.nodes) (slots_in m.slots) d ks rising enough ps m (record { records-are = refl; slots-are = refl })

  -- it has room exactly when the sizes fit
  pub build-fits : has_room (build d ks ps m).built ≡ (placing d ks m).fits
  build-fits = agreed.room

  pub fits_builds : (placing d ks m).fits ≡ true → (r : ℕ) × ((build d ks ps m).built ≡ Some r)
  fits_builds e = has_room_at (build d ks ps m).built (build-fits ∙ e)

  pub lacks-refuses : (placing d ks m).fits ≡ false → (build d ks ps m).built ≡ None
  lacks-refuses e = no_room_is (build d ks ps m).built (build-fits ∙ e)

  pub builds_fits : (r : ℕ) → (build d ks ps m).built ≡ Some r → (placing d ks m).fits ≡ true
  builds_fits r e = sym build-fits ∙ ap has_room e

  pub refuses-lacks : (build d ks ps m).built ≡ None → (placing d ks m).fits ≡ false
  refuses-lacks e = sym build-fits ∙ ap has_room e

  -- it takes the places that the sizes take, as far as either comes
  pub build-used : (build d ks ps m).memory.used ≡ (placing d ks m).used
  build-used = agreed.map

  -- and keeps the pools' sizes
  pub build-records : records_in (build d ks ps m).memory.nodes ≡ records_in m.nodes
  build-records = agreed.pools.records-are

  pub build-slots : slots_in (build d ks ps m).memory.slots ≡ slots_in m.slots
  build-slots = agreed.pools.slots-are

-- two tests of one number that say the same
ltb_same : (x y z : ℕ) → (x < y → x < z) → (y ≤ x → z ≤ x) → ltb x y ≡ ltb x z
ltb_same x y z f g =
    both (ltb x y)
    (λ e. e ∙ sym (lt-ltb x z (f (ltb-true x y e))))
    (λ e. e ∙ sym (le-ltb x z (g (ltb-false x y e))))

-- A map of which just the first a records and the first b slots are used.
module _ (records count : ℕ) (u : List ℕ) (a b : ℕ) (p : Prefix records count u a b) where
  -- the lowest unused record is the one after the used ones
  prefix_record : first_unused u 0 records ≡ a
  prefix_record =
      first_unused_is u 0 records a p.records-within
      (λ j h. let e : 0 + j ≡ j = omega arith in rw e (p.records-used j (omega (arith, p.records-within)) ∙ lt-ltb j a h))
      (λ h. let e : 0 + a ≡ a = omega arith in rw e (p.records-used a h ∙ le-ltb a a (omega arith)))

  -- and so the lowest run, if there is room behind the used slots
  prefix_run : (l : ℕ) → 1 ≤ l → b + l ≤ count → lowest_run u records count l ≡ Some b
  prefix_run l pos h =
      lowest_run_here u records count l b h
      (free_run_is u (records + b) l (λ q le lt.
      let e : records + (q - records) ≡ q = omega arith in
      (rw e at (p.slots-used (q - records) (omega arith))) ∙ le-ltb (q - records) b (omega arith)))
      (λ j lt. free_run_not u (records + j) l (records + j) (omega arith) (omega arith) (p.slots-used j (omega arith) ∙ lt-ltb j b lt))

  prefix_nowhere : (l : ℕ) → 1 ≤ l → count < b + l → lowest_run u records count l ≡ None
  prefix_nowhere l pos h =
      lowest_run-nowhere u records count l (λ j le.
      free_run_not u (records + j) l (records + j) (omega arith) (omega arith) (p.slots-used j (omega arith) ∙ lt-ltb j b (omega arith)))

  -- one record and l slots more
  module _ (l : ℕ) (ha : a < records) (hb : b + l ≤ count) where
    record-after : (r : ℕ) → r < records → used_at (mark_at u a) r ≡ ltb r (a + 1)
    record-after r h =
        both (eqb r a)
        (λ t.
        let e : r ≡ a = eqb-true r a t in
        rw e (mark-same u a (omega (arith, p.mapped)) ∙ sym (lt-ltb a (a + 1) (omega arith))))
        (λ t.
        let e : r ≡ a → ⊥ = eqb-false r a t in
        mark-other u a r e ∙ p.records-used r h ∙ ltb_same r a (a + 1) (λ x. omega arith) (λ x. omega (arith, e)))

    slot-after : (q : ℕ) → q < count → used_at (mark_run (mark_at u a) (records + b) l) (records + q) ≡ ltb q (b + l)
    slot-after q h =
        let same : used_at (mark_at u a) (records + q) ≡ ltb q b = mark-other u a (records + q) (λ e. omega arith) ∙ p.slots-used q h in
        ⊎_elim
        (λ from.
        ⊎_elim
        (λ past. mark_run-out (mark_at u a) (records + b) l (records + q) (inr (omega arith)) ∙ same ∙ ltb_same q b (b + l) (λ x. omega arith) (λ x. past))
        (λ within.
        let mapped : (records + q) / 64 < length u = omega (arith, p.mapped) in
        mark_run_in (mark_at u a) (records + b) l (records + q) (omega arith) (omega arith) (rw (mark-length u a) mapped)
        ∙ sym (lt-ltb q (b + l) within))
        (le_or_lt (b + l) q))
        (λ before. mark_run-out (mark_at u a) (records + b) l (records + q) (inl (omega arith)) ∙ same ∙ ltb_same q b (b + l) (λ x. omega arith) (λ x. omega arith))
        (le_or_lt b q)

    prefix_more : Prefix records count (mark_run (mark_at u a) (records + b) l) (a + 1) (b + l)
    prefix_more = record {
      mapped = rw (mark_run-length (mark_at u a) (records + b) l, mark-length u a) p.mapped;
      records-within = omega arith;
      slots-within = hb;
      records-used = λ r h. mark_run-out (mark_at u a) (records + b) l r (inl (omega arith)) ∙ record-after r h;
      slots-used = slot-after;
    }

-- a run of no slots is found anywhere and marks nothing, so where it is found does not matter
run-place : (records count : ℕ) (u : List ℕ) (a b : ℕ) → Prefix records count u a b → (l : ℕ) → b + l ≤ count → (v : List ℕ)
    → (s : ℕ) × (lowest_run u records count l ≡ Some s) × (mark_run v (records + s) l ≡ mark_run v (records + b) l)
unfolding mark_run
run-place records count u a b p zero h v = (0, lowest_run_here u records count 0 0 (omega arith) (free_run_is u (records + 0) 0 (λ q x y. absurd (omega arith))) (λ j x. absurd (omega arith)), refl)
run-place records count u a b p (suc l) h v = (b, prefix_run records count u a b p (suc l) (omega arith) h, refl)

module _ (records count : ℕ) where
  place_none : (u : List ℕ) → place_all records count [] u ≡ placed true u
  unfolding place_all
  place_none u = refl

  -- one size, where there is room for it
  place-first : (l : ℕ) (ls u : List ℕ) (a b : ℕ) → Prefix records count u a b → a < records → b + l ≤ count
      → place_all records count (l ∷ ls) u ≡ place_all records count ls (mark_run (mark_at u a) (records + b) l)
  unfolding place_all
  place-first l ls u a b p ha hb =
      let w = run-place records count u a b p l hb (mark_at u a) in
      rw (prefix_record records count u a b p, lt-ltb a records ha, w.1)
      (ap (place_all records count ls) w.2)

  place_no_record : (l : ℕ) (ls u : List ℕ) (a b : ℕ) → Prefix records count u a b → records ≤ a → place_all records count (l ∷ ls) u ≡ placed false u
  unfolding place_all
  place_no_record l ls u a b p h = rw (prefix_record records count u a b p, le-ltb a records h)

  place_no_run : (l : ℕ) (ls u : List ℕ) (a b : ℕ) → Prefix records count u a b → a < records → count < b + l → place_all records count (l ∷ ls) u ≡ placed false u
  unfolding place_all
  place_no_run l ls u a b p ha h =
      rw (prefix_record records count u a b p, lt-ltb a records ha, prefix_nowhere records count u a b p l (omega (arith, p.slots-within)) h)

  -- the sums fit: every size has its place, right behind the used ones
  pub sums_fit : (ls u : List ℕ) (a b : ℕ) → Prefix records count u a b → a + length ls ≤ records → b + total ls ≤ count
      → ((place_all records count ls u).fits ≡ true) × Prefix records count (place_all records count ls u).used (a + length ls) (b + total ls)
  unfolding total
  sums_fit [] u a b p ha hb = rw (place_none u, add-zero a, add-zero b) (refl, p)
  sums_fit (l ∷ ls) u a b p ha hb =
      let e : a + 1 + length ls ≡ a + suc (length ls) = omega arith in
      let f : b + l + total ls ≡ b + (l + total ls) = omega arith in
      rw (place-first l ls u a b p (omega arith) (omega arith), sym e, sym f)
      (sums_fit ls (mark_run (mark_at u a) (records + b) l) (a + 1) (b + l) (prefix_more records count u a b p l (omega arith) (omega arith)) (omega arith) (omega arith))

  -- every size has its place: the sums fit
  pub fit_sums : (ls u : List ℕ) (a b : ℕ) → Prefix records count u a b → (place_all records count ls u).fits ≡ true
      → (a + length ls ≤ records) × (b + total ls ≤ count)
  unfolding total
  fit_sums [] u a b p e = omega (arith, p.records-within, p.slots-within)
  fit_sums (l ∷ ls) u a b p e =
      ⊎_elim
      (λ full. absurd (true_not_false (sym e ∙ ap (λ (x : Placed). x.fits) (place_no_record l ls u a b p full))))
      (λ ha.
      ⊎_elim
      (λ hb.
      let ih =
      fit_sums ls (mark_run (mark_at u a) (records + b) l) (a + 1) (b + l) (prefix_more records count u a b p l ha hb)
      (sym (ap (λ (x : Placed). x.fits) (place-first l ls u a b p ha hb)) ∙ e)
      in
      omega (arith, ih.0, ih.1))
      (λ full. absurd (true_not_false (sym e ∙ ap (λ (x : Placed). x.fits) (place_no_run l ls u a b p ha full))))
      (le_or_lt (b + l) count))
      (le_or_lt records a)

  -- there is room behind the used places exactly when the sums fit
  pub room-empty : (ls u : List ℕ) (a b : ℕ) → Prefix records count u a b
      → ((place_all records count ls u).fits ≡ true) ↔ ((a + length ls ≤ records) × (b + total ls ≤ count))
  room-empty ls u a b p = (fit_sums ls u a b p, λ h. (sums_fit ls u a b p h.0 h.1).0)

  -- no place is used in a map of zeros that is long enough
  pub empty_prefix : (words : ℕ) → records + count ≤ words * 64 → Prefix records count (replicate words 0) 0 0
  empty_prefix words h = record {
    mapped = rw (length-replicate {A = ℕ} words 0) h;
    records-within = omega arith;
    slots-within = omega arith;
    records-used = λ r x. unused r ∙ sym (le-ltb r 0 (omega arith));
    slots-used = λ q x. unused (records + q) ∙ sym (le-ltb q 0 (omega arith));
  }
    where
      zeros : (i : ℕ) → get_or {A = ℕ} (replicate words 0) i 0 ≡ 0
      zeros i =
          ⊎_elim
          (λ past. get_or-eq_default {A = ℕ} (replicate words 0) 0 (rw (length-replicate {A = ℕ} words 0) past))
          (λ lt. get_or-replicate {A = ℕ} words i 0 0 lt)
          (le_or_lt words i)

      unused : (q : ℕ) → used_at (replicate words 0) q ≡ false
      unused q = zero_word_unused (replicate words 0) q (zeros (q / 64))

-- A build on pools none of whose places is used: it has room exactly when there are records for its nodes and slots for their sum,
-- and then it takes the first of each.
module _ (d : ℕ) (ks : List ℕ) (rising : Rising ks) (enough : height (length ks) ≤ d) (ps nodes slots : List ℕ) (words : ℕ)
    (mapped : records_in nodes + slots_in slots ≤ words * 64) where
  abbrev empty : Mem
  empty = mem nodes slots (replicate words 0)

  unused : Prefix (records_in nodes) (slots_in slots) (replicate words 0) 0 0
  unused = empty_prefix (records_in nodes) (slots_in slots) words mapped

  pub empty_builds : length (sizes_of d ks) ≤ records_in nodes → total (sizes_of d ks) ≤ slots_in slots
      → (r : ℕ) × ((build d ks ps (mem nodes slots (replicate words 0))).built ≡ Some r)
  empty_builds ha hb =
      fits_builds d ks rising enough ps empty
      (sums_fit (records_in nodes) (slots_in slots) (sizes_of d ks) (replicate words 0) 0 0 unused (omega arith) (omega arith)).0

  pub empty-used : length (sizes_of d ks) ≤ records_in nodes → total (sizes_of d ks) ≤ slots_in slots
      → Prefix (records_in nodes) (slots_in slots) (build d ks ps (mem nodes slots (replicate words 0))).memory.used (length (sizes_of d ks)) (total (sizes_of d ks))
  empty-used ha hb =
      let e : 0 + length (sizes_of d ks) ≡ length (sizes_of d ks) = omega arith in
      let f : 0 + total (sizes_of d ks) ≡ total (sizes_of d ks) = omega arith in
      rw (build-used d ks rising enough ps empty, sym e, sym f)
      (sums_fit (records_in nodes) (slots_in slots) (sizes_of d ks) (replicate words 0) 0 0 unused (omega arith) (omega arith)).1

  pub builds_empty : (r : ℕ) → (build d ks ps (mem nodes slots (replicate words 0))).built ≡ Some r
      → (length (sizes_of d ks) ≤ records_in nodes) × (total (sizes_of d ks) ≤ slots_in slots)
  builds_empty r e =
      let h =
      fit_sums (records_in nodes) (slots_in slots) (sizes_of d ks) (replicate words 0) 0 0 unused (builds_fits d ks rising enough ps empty r e)
      in
      (omega (arith, h.0), omega (arith, h.1))
