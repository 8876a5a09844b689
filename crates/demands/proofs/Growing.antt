-- A build in memory whose unused places are zero gives the placed tree that document 01 describes: memory gains just that tree, its
-- places are the ones that first fit gives, its keys belong and are the map. Where the tree has no room the build has none. Assumes
-- nothing.
use Rattle.std.specs.Prelude.{None, Some}
use mathlib.Core.List.{List, [], ◌∷◌, ◌++◌}
use mathlib.Core.Path.{◌≡◌, refl, sym, subst, subst⁻¹, ap, ◌∙◌}
use native.Mathlib.Nat.{add-zero, zero-add}
use native.Mathlib.Omega.{arith}
use Prim.Native.Nat.{ℕ, zero, suc, zero-le, ◌+◌, ◌<◌, ◌≤◌}
use lib.Dec.{ltb}
use lib.ListN.{length, length-set}
use borrow.Author.Tests.{ltb-true}
use Rattle.build.specs.Building.{Out, out, and_then, Builder, with_slots, lowest_record, lowest_slots, place_node, payloads_to, fill_slot, fill_slots, node_on, node_with, build}
use Rattle.laws.proofs.Tests.{both}
use Rattle.laws.specs.Keys.{Rising}
use Rattle.marks.specs.Used.{first_unused, lowest_run, mark_at, mark_run}
use Rattle.std.proofs.Common.{None, Option, Some}
use Rattle.model.proofs.Groups.{group_rising}
use Rattle.model.proofs.Least.{chosen-in_range}
use Rattle.model.proofs.Slots.{slot_under}
use Rattle.model.specs.Choice.{model_of}
use Rattle.model.specs.Groups.{keys_to}
use Rattle.model.specs.Slots.{slot_of, InRange}
use Rattle.model.specs.declared.Model.{Model}
use Rattle.pool.specs.Memory.{Mem}
use Rattle.pool.specs.Writing.{put_data, put_child}
use Rattle.pool.specs.declared.Node.{Node}
use Rattle.demands.specs.Growing.{Grown, is, no_room, Row, are, no_room_row, fresh_head, row_after, then_row, node_over, Grower, grow_slot, grow_slots, grow_on, grow_with, grow}
use Rattle.demands.specs.Map.{Map, EachKey, bulkload}
use Rattle.demands.specs.Placed.{Head, Branch, null, leaf, sub, Forest, nil, cons, len, app, flat_b, flat_f, depth_b, depth_f, cell_of, Word, bit, in_slot, cell_w, in_b, view, HeadOk, OkB, OkF, Frame, plug}
use Rattle.demands.proofs.Adding.{Fine, Added, added, sized_as, nulls, Free, place_added, used_is, found_free}
use Rattle.demands.proofs.Changing.{put_slot, cell_delta}
use Rattle.demands.proofs.Parting.{at_s, from_s, at_each, from_none, from_all, from_split, group_is, group_same, keys_rise}
use Rattle.demands.proofs.Plugs.{at_same, none-b, len_app}
use Rattle.demands.proofs.Reading.{in_frame, none_own, bit_small}
use Rattle.demands.proofs.Walking.{Sized, records-are, slots-are}

pub app_nil : (f : Forest) → app f nil ≡ f
app_nil nil = refl
app_nil (cons b f) = ap (cons b) (app_nil f)

pub app_assoc : (f g h : Forest) → app (app f g) h ≡ app f (app g h)
app_assoc nil g h = refl
app_assoc (cons b f) g h = ap (cons b) (app_assoc f g h)

-- the slot that leads to a branch
abbrev pub link_at : Mem → ℕ → Branch → Mem
link_at m q n = put_slot m q (cell_w (in_slot 0) (cell_of n)) (cell_w (in_slot 1) (cell_of n))

-- a slot of a node under construction takes a branch that was built meanwhile
module _ (R S : ℕ) (m m1 m2 : Mem) (f : Frame) (b : Branch) (fine : Fine R S m) (in-s : f.head.start + len f.left < S)
    (a1 : Added R S m m1 (λ x φ. in_b R φ x (plug (f ∷ []) null))) (a2 : Added R S m1 m2 (λ x φ. in_b R φ x b)) where
  reads : (w : Word) → view R m2 (R + (f.head.start + len f.left)) w ≡ cell_w w (cell_of null)
  reads w =
      let x = R + (f.head.start + len f.left) in
      let s1 = at_same x 1 in
      let s2 = at_same x (cell_w w (cell_of null)) in
      let b1 = a1.law x bit in
      let b2 = a2.law x bit in
      let i1 = in_frame R x f (cell_w bit) null in
      let i2 = in_frame R x f (cell_w w) null in
      let t = bit_small R m2 x in
      let n1 = none_own R x f (cell_w w) (omega arith) in
      let n2 = none-b R (cell_w w) x b (omega arith) in
      let n3 = fine.clean x (omega arith) w in
      omega (arith, a1.law x w, a2.law x w)

  pub fill_step : Added R S m (link_at m2 (f.head.start + len f.left) b) (λ x φ. in_b R φ x (plug (f ∷ []) b))
  fill_step =
      added R S m (link_at m2 (f.head.start + len f.left) b) (λ x φ. in_b R φ x (plug (f ∷ []) b)) fine (λ x w e. none-b R (cell_w w) x (plug (f ∷ []) b) e)
      (sized_as R S m2 (link_at m2 (f.head.start + len f.left) b) z refl (simp length-set) refl) a2.fine.words law
    where
      z : Sized R S m2
      z = a2.fine.sized

      law : (x : ℕ) (w : Word) → view R (link_at m2 (f.head.start + len f.left) b) x w ≡ view R m x w + in_b R (cell_w w) x (plug (f ∷ []) b)
      law x w =
          omega (arith, in_frame R x f (cell_w w) null, in_frame R x f (cell_w w) b, a1.law x w, a2.law x w, cell_delta R m2 (f.head.start + len f.left) _ _ (omega (arith, z.slots)) null b refl refl reads x w)

-- what is asked of a tree that was built over the map l in memory m, which is then o
pub record BuiltAs (R S n : ℕ) (m : Mem) (l : Map) (h : Head) (g : Forest) (o : Mem) : Type 0 where
  pub adds : Added R S m o (λ x φ. in_b R φ x (sub h g))
  pub okay : OkB R S (sub h g)
  pub flat : flat_f g ≡ l
  pub deep : depth_b (sub h g) ≤ n

-- a build and the tree that is described agree
abbrev pub Agrees : ℕ → ℕ → ℕ → Mem → Map → Grown → Out → Type 0
Agrees R S n m l (is null u) x = ⊥
Agrees R S n m l (is (leaf k p) u) x = ⊥
Agrees R S n m l (is (sub h g) u) x = (x.built ≡ Some h.at) × (x.memory.used ≡ u) × BuiltAs R S n m l h g x.memory
Agrees R S n m l no_room x = x.built ≡ None

abbrev pub Grows : ℕ → ℕ → ℕ → Builder → Grower → Type 0
Grows R S n B G = (m : Mem) (ks ps : List ℕ) → Fine R S m → Rising ks → length ps ≡ length ks → Agrees R S n m (bulkload ks ps) (G m.used ks ps) (B ks ps m)

-- one slot of a node under construction
pub record SlotAs (R S n : ℕ) (m : Mem) (l : Map) (f : Frame) (b : Branch) (o : Mem) : Type 0 where
  pub adds : Added R S m o (λ x φ. in_b R φ x (plug (f ∷ []) b))
  pub okay : OkB R S b
  pub flat : flat_b b ≡ l
  pub deep : depth_b b ≤ n

abbrev SlotAgrees : ℕ → ℕ → ℕ → Mem → Map → Frame → Grown → Out → Type 0
SlotAgrees R S n m l f (is b u) x = (x.built ≡ Some f.head.at) × (x.memory.used ≡ u) × SlotAs R S n m l f b x.memory
SlotAgrees R S n m l f no_room x = x.built ≡ None

-- the slots that are left
pub record RowAs (R S n : ℕ) (m : Mem) (l : Map) (h : Head) (L : ℕ) (done : Forest) (c : ℕ) (g : Forest) (o : Mem) : Type 0 where
  pub adds : Added R S m o (λ x φ. in_b R φ x (sub h (app done g)))
  pub okay : OkF R S h.lo h.w L (len done) g
  pub flat : flat_f g ≡ l
  pub deep : depth_f g ≤ n
  pub size : len g ≡ c

abbrev RowAgrees : ℕ → ℕ → ℕ → Mem → Map → Head → ℕ → Forest → ℕ → Row → Out → Type 0
RowAgrees R S n m l h L done c (are g u) x = (x.built ≡ Some h.at) × (x.memory.used ≡ u) × RowAs R S n m l h L done c g x.memory
RowAgrees R S n m l h L done c no_room_row x = x.built ≡ None

module _ (R S n : ℕ) (B : Builder) (G : Grower) (ih : Grows R S n B G) (m0 : Mem) (fine : Fine R S m0) where
  module _ (f : Frame) (m1 : Mem) (in-s : f.head.start + len f.left < S) (a1 : Added R S m0 m1 (λ x φ. in_b R φ x (plug (f ∷ []) null))) where
    child_agrees : (x : Out) (l : Map) (t : Grown) → Agrees R S n m1 l t x
        → SlotAgrees R S n m0 l f t (and_then x (λ c m'. out (Some f.head.at) (with_slots m' (put_child m'.slots (f.head.start + len f.left) c))))
    unfolding put_child
    child_agrees x l (is null u) e = absurd e
    child_agrees x l (is (leaf k p) u) e = absurd e
    child_agrees x l (is (sub h g) u) e = rw e.0 (refl, e.1, record { adds = fill_step R S m0 m1 x.memory f (sub h g) fine in-s a1 e.2.adds; okay = e.2.okay; flat = e.2.flat; deep = e.2.deep })
    child_agrees x l no_room e = rw e

    slot_agrees : (ks ps : List ℕ) → Rising ks → length ps ≡ length ks
        → SlotAgrees R S n m0 (bulkload ks ps) f (grow_slot G m1.used ks ps) (fill_slot B f.head.at (f.head.start + len f.left) ks ps m1)
    unfolding grow_slot fill_slot put_data
    slot_agrees [] ps r e = (refl, refl, record { adds = a1; okay = tt; flat = refl; deep = zero-le })
    slot_agrees (k ∷ []) [] r e = absurd (no e)
      where
        no : ◌≡◌ {A = ℕ} 0 1 → ⊥
        no h = omega arith
    slot_agrees (k ∷ []) (p ∷ ps) r e = (
      refl,
      refl,
      record { adds = fill_step R S m0 m1 m1 f (leaf k p) fine in-s a1 (record { fine = a1.fine; law = λ x w. sym (add-zero _) }); okay = r.below 0 (omega arith); flat = refl; deep = zero-le },
    )
    slot_agrees (k ∷ j ∷ ks) ps r e = child_agrees (B (k ∷ j ∷ ks) ps m1) (bulkload (k ∷ j ∷ ks) ps) (G m1.used (k ∷ j ∷ ks) ps) (ih m1 (k ∷ j ∷ ks) ps a1.fine r e)

  module _ (r : ℕ) (md : Model) (s count : ℕ) (ks ps : List ℕ) (range : InRange md) (rises : Rising ks) (same : length ps ≡ length ks) (run : s + md.l ≤ S) where
    abbrev h : Head
    h = fresh_head r md s count

    abbrev fr : Forest → ℕ → Frame
    fr done c = record { head = h; left = done; right = nulls c }

    all_under : (l : Map) → EachKey (λ k. slot_of md k < md.l) l
    all_under [] = tt
    all_under (x ∷ l) = (slot_under md range x.0, all_under l)

    rest_agrees : (done : Forest) (c : ℕ) (b : Branch) (u : List ℕ) (x : Out) (w : Row)
        → EachKey (λ k. slot_of md k ≡ len done) (flat_b b)
        → OkB R S b → depth_b b ≤ n
        → flat_b b ++ from_s md (len done + 1) (bulkload ks ps) ≡ from_s md (len done) (bulkload ks ps)
        → RowAgrees R S n m0 (from_s md (len done + 1) (bulkload ks ps)) h md.l (app done (cons b nil)) c w x
        → RowAgrees R S n m0 (from_s md (len done) (bulkload ks ps)) h md.l done (suc c) (row_after b w) x
    rest_agrees done c b u x (are g v) each o d e q = (
      q.0,
      q.1,
      record {
        adds = subst (λ (t : Forest). Added R S m0 x.memory (λ y φ. in_b R φ y (sub h t))) (app_assoc done (cons b nil) g) q.2.adds;
        okay = (each, o, subst (λ (i : ℕ). OkF R S md.lo md.w md.l i g) (len_app done (cons b nil)) q.2.okay);
        flat = ap (λ (t : Map). flat_b b ++ t) q.2.flat ∙ e;
        deep = omega (arith, q.2.deep);
        size = ap suc q.2.size;
      },
    )
    rest_agrees done c b u x no_room_row each o d e q = q

    abbrev node0 : Node
    node0 = record { model = md; start = s }

    abbrev l0 : Map
    l0 = bulkload ks ps

    -- the slots from the one after `done` on, c of them
    abbrev Fills : ℕ → Forest → Mem → Type 0
    Fills c done m = RowAgrees R S n m0 (from_s md (len done) l0) h md.l done c (grow_slots G md c (len done) m.used ks ps) (fill_slots B r node0 c (len done) ks ps m)

    step : (c : ℕ) (done : Forest) (t : Grown) (x : Out) (l : Map) → l ≡ at_s md (len done) l0 → SlotAgrees R S n m0 l (fr done c) t x
        → ((b : Branch) → Added R S m0 x.memory (λ y φ. in_b R φ y (sub h (app (app done (cons b nil)) (nulls c)))) → Fills c (app done (cons b nil)) x.memory)
        → RowAgrees R S n m0 (from_s md (len done) l0) h md.l done (suc c) (then_row t (λ u'. grow_slots G md c (len done + 1) u' ks ps)) (and_then x (λ r' m'. fill_slots B r node0 c (len done + 1) ks ps m'))
    step c done (is b u) x l e q go =
        let la : len (app done (cons b nil)) ≡ len done + 1 = len_app done (cons b nil) in
        let ad : Added R S m0 x.memory (λ y φ. in_b R φ y (sub h (app (app done (cons b nil)) (nulls c)))) =
        subst⁻¹ (λ (t : Forest). Added R S m0 x.memory (λ y φ. in_b R φ y (sub h t))) (app_assoc done (cons b nil) (nulls c)) q.2.adds in
        let w : RowAgrees R S n m0 (from_s md (len done + 1) l0) h md.l (app done (cons b nil)) c (grow_slots G md c (len done + 1) u ks ps) (fill_slots B r node0 c (len done + 1) ks ps x.memory) =
        subst (λ (i : ℕ). RowAgrees R S n m0 (from_s md i l0) h md.l (app done (cons b nil)) c (grow_slots G md c i u ks ps) (fill_slots B r node0 c i ks ps x.memory)) la
        (subst (λ (v : List ℕ). RowAgrees R S n m0 (from_s md (len (app done (cons b nil))) l0) h md.l (app done (cons b nil)) c (grow_slots G md c (len (app done (cons b nil))) v ks ps) (fill_slots B r node0 c (len (app done (cons b nil))) ks ps x.memory)) q.1 (go b ad)) in
        let each : EachKey (λ k. slot_of md k ≡ len done) (flat_b b) = subst⁻¹ (EachKey (λ k. slot_of md k ≡ len done)) (q.2.flat ∙ e) (at_each md (len done) l0) in
        let sp : flat_b b ++ from_s md (len done + 1) l0 ≡ from_s md (len done) l0 = ap (λ (a : Map). a ++ from_s md (len done + 1) l0) (q.2.flat ∙ e) ∙ sym (from_split md range (len done) l0 (keys_rise ks ps rises)) in
        rw q.0 (rest_agrees done c b u (fill_slots B r node0 c (len done + 1) ks ps x.memory) (grow_slots G md c (len done + 1) u ks ps) each q.2.okay q.2.deep sp w)
    step c done no_room x l e q go = rw q

    fill_agrees : (c : ℕ) (done : Forest) (m : Mem) → len done + c ≡ md.l → Added R S m0 m (λ y φ. in_b R φ y (sub h (app done (nulls c)))) → Fills c done m
    unfolding grow_slots fill_slots
    fill_agrees zero done m e a = (
      refl,
      refl,
      record {
        adds = a;
        okay = tt;
        flat = sym (from_none md (len done) l0 (subst (λ (i : ℕ). EachKey (λ k. slot_of md k < i) l0) (full e) (all_under l0)));
        deep = zero-le;
        size = refl;
      },
    )
      where
        full : len done + 0 ≡ md.l → md.l ≡ len done
        full e = omega arith
    fill_agrees (suc c) done m e a =
        step c done (grow_slot G m.used (keys_to md (len done) ks) (payloads_to md (len done) ks ps)) (fill_slot B r (s + len done) (keys_to md (len done) ks) (payloads_to md (len done) ks ps) m)
        (bulkload (keys_to md (len done) ks) (payloads_to md (len done) ks ps)) (group_is md (len done) ks ps same)
        (slot_agrees (fr done c) m (omega arith) a (keys_to md (len done) ks) (payloads_to md (len done) ks ps) (group_rising md range ks rises (len done)) (group_same md (len done) ks ps same))
        (λ b ad. fill_agrees c (app done (cons b nil)) _ (omega (arith, len_app done (cons b nil))) ad)

-- a node
module _ (R S n : ℕ) (B : Builder) (G : Grower) (ih : Grows R S n B G) (m : Mem) (fine : Fine R S m) (ks ps : List ℕ) (rises : Rising ks) (same : length ps ≡ length ks) where
  abbrev md : Model
  md = model_of ks

  whole : (r s : ℕ) → Free R S m r s md.l → (w : Row) (x : Out) → RowAgrees R S n m (from_s md 0 (bulkload ks ps)) (fresh_head r md s (length ks)) md.l nil md.l w x
      → Agrees R S (suc n) m (bulkload ks ps) (node_over (fresh_head r md s (length ks)) w) x
  whole r s z no_room_row x q = q
  whole r s z (are g u) x q = (
    q.0,
    q.1,
    record {
      adds = q.2.adds;
      okay = subst⁻¹ (λ (l : ℕ). HeadOk R S (fresh_head r md s (length ks)) l × OkF R S md.lo md.w l 0 g) q.2.size (record { inside = z.inside; range = chosen-in_range ks rises; run = z.run }, q.2.okay);
      flat = q.2.flat ∙ from_all md (bulkload ks ps);
      deep = omega (arith, q.2.deep);
    },
  )

  node_agrees : (r : ℕ) (run : Option ℕ) → ((s : ℕ) → run ≡ Some s → Free R S m r s md.l) → Agrees R S (suc n) m (bulkload ks ps) (grow_on G R r md run m.used ks ps) (node_on B r md run ks ps m)
  unfolding grow_on node_on
  node_agrees r None z = refl
  node_agrees r (Some s) z =
      let f = z s refl in
      let m1 : Mem = place_node m r (record { model = md; start = s }) (length ks) in
      let a : Added R S m m1 (λ y φ. in_b R φ y (sub (fresh_head r md s (length ks)) (nulls md.l))) = place_added R S m fine r md.lo md.w s md.l (length ks) f in
      let u : m1.used ≡ mark_run (mark_at m.used r) (R + s) md.l = used_is R S m fine r md.lo md.w s md.l (length ks) f in
      whole r s f (grow_slots G md md.l 0 (mark_run (mark_at m.used r) (R + s) md.l) ks ps) (fill_slots B r (record { model = md; start = s }) md.l 0 ks ps m1)
      (subst (λ (v : List ℕ). RowAgrees R S n m (from_s md 0 (bulkload ks ps)) (fresh_head r md s (length ks)) md.l nil md.l (grow_slots G md md.l 0 v ks ps) (fill_slots B r (record { model = md; start = s }) md.l 0 ks ps m1)) u
      (fill_agrees R S n B G ih m fine r md s (length ks) ks ps (chosen-in_range ks rises) rises same f.run md.l nil m1 (zero-add md.l) a))

  pub with_agrees : Agrees R S (suc n) m (bulkload ks ps) (grow_with G R S m.used ks ps) (node_with B ks ps m)
  unfolding grow_with node_with lowest_record lowest_slots
  with_agrees =
      let rs = records-are R S m fine.sized in
      let ss = slots-are R S m fine.sized in
      rw (rs, ss) (both (ltb (first_unused m.used 0 R) R)
      (λ e. rw e (node_agrees (first_unused m.used 0 R) (lowest_run m.used R S md.l) (λ s q.
      rw rs at (found_free R S m fine s md.l (rw rs (ltb-true (first_unused m.used 0 R) R e)) (rw (rs, ss) q)))))
      (λ e. rw e))

pub grow_agrees : (R S n : ℕ) → Grows R S n (build n) (grow n R S)
unfolding build grow
grow_agrees R S zero m ks ps f r e = refl
grow_agrees R S (suc n) m ks ps f r e = with_agrees R S n (build n) (grow n R S) (grow_agrees R S n) m f ks ps r e
