-- What every build keeps, whatever the memory: the lengths of the lists, the marks already made and every word of what is marked used; and
-- that the record it answers is one of the table's. Laws of the definitions alone. Assumes nothing.
use Rattle.std.specs.Prelude.{None, Option, Some}
use mathlib.Core.Bool.{true, false}
use mathlib.Core.List.{List, [], ◌∷◌}
use mathlib.Core.Logic.{◌⊎◌, inl, inr, ⊎_elim}
use mathlib.Core.Path.{◌≡◌, refl, sym, ◌∙◌}
use Prim.Native.Nat.{ℕ, zero, suc, ◌+◌, ◌*◌, ◌<◌, ◌≤◌}
use native.Mathlib.Omega.{arith}
use borrow.Author.Tests.{eqb-true, eqb-false, ltb-true}
use lib.Dec.{eqb, ltb}
use lib.ListN.{length, get_or}
use Rattle.laws.proofs.Tests.{both, le_or_lt, true_not_false}
use Rattle.marks.specs.Used.{used_at, mark_at, mark_run, free_run}
use Rattle.std.proofs.Common.{None, Option, Some}
use Rattle.marks.proofs.Lowest.{first_unused_at, lowest_run_finds}
use Rattle.marks.proofs.Marks.{mark-length, mark-other, used-within}
use Rattle.marks.proofs.Runs.{mark_run-length, mark_run_in, mark_run-out, free_run_at}
use Rattle.model.specs.Choice.{model_of}
use Rattle.model.specs.Groups.{keys_to}
use Rattle.model.specs.declared.Model.{Model}
use Rattle.pool.specs.Memory.{Mem, slot_words, records_in, slots_in, slot_place, kind_word}
use Rattle.pool.specs.Writing.{put_child}
use Rattle.pool.specs.declared.Node.{Node}
use Rattle.pool.proofs.Growth.{Keeps, Grows, grows_same, grows_both, grows_slot_stored, used-apart}
use Rattle.pool.proofs.RecordStores.{length-put_node, put_node-other}
use Rattle.pool.proofs.RunStores.{length-zero_run, zero_run_outside}
use Rattle.pool.proofs.SlotStores.{length-put_data, length-put_child, put_data-other, put_child-other}
use Rattle.build.specs.Building.{Out, out, next, and_then, Builder, with_slots, lowest_record, lowest_slots, place_node, payloads_to, fill_slot, fill_slots, node_on, node_with, build}

-- a used place stays used when another is marked, or a run
pub mark-keeps : (u : List ℕ) (p q : ℕ) → used_at u q ≡ true → used_at (mark_at u p) q ≡ true
unfolding mark_at
mark-keeps u p q e =
    both (eqb q p)
    (λ t. let d : q ≡ p = eqb-true _ _ t in let a : used_at u p ≡ true = rw (← d) e in rw a e)
    (λ t. mark-other u p q (eqb-false _ _ t) ∙ e)

pub mark_run-keeps : (u : List ℕ) (p n q : ℕ) → used_at u q ≡ true → used_at (mark_run u p n) q ≡ true
mark_run-keeps u p n q e =
    ⊎_elim
    (λ h.
    ⊎_elim
    (λ k. mark_run-out u p n q (inr k) ∙ e)
    (λ k. mark_run_in u p n q h k (used-within u q e))
    (le_or_lt (p + n) q))
    (λ h. mark_run-out u p n q (inl h) ∙ e)
    (le_or_lt p q)

pub place-keeps : (m : Mem) (r : ℕ) (n : Node) (count : ℕ) → Keeps m (place_node m r n count)
unfolding place_node
place-keeps m r n count = record {
  nodes = length-put_node m.nodes r n count;
  slots = length-zero_run m.slots n.start n.model.l;
  used = mark_run-length (mark_at m.used r) (slot_place m.nodes n.start) n.model.l ∙ mark-length m.used r;
  marks = λ p e. mark_run-keeps (mark_at m.used r) (slot_place m.nodes n.start) n.model.l p (mark-keeps m.used r p e);
}

-- a node placed on an unused record and an unused run
pub place_grows : (m : Mem) (r : ℕ) (n : Node) (count : ℕ) → used_at m.used r ≡ false
    → free_run m.used (slot_place m.nodes n.start) n.model.l ≡ true → Grows m (place_node m r n count)
unfolding place_node
place_grows m r n count free run = record {
  keeps = place-keeps m r n count;
  records = λ x lt e i li. put_node-other m.nodes r n count x i (used-apart m.used x r e free) li;
  runs = λ x lt e i li. zero_run_outside m.slots n.start n.model.l (x * slot_words + i) (outside x i e li);
}
  where
    outside : (x i : ℕ) → used_at m.used (slot_place m.nodes x) ≡ true → i < slot_words
        → (x * slot_words + i < kind_word n.start) ⊎ (kind_word (n.start + n.model.l) ≤ x * slot_words + i)
    outside x i e li =
        ⊎_elim
        (λ from.
        ⊎_elim
        (λ past. inr (omega arith))
        (λ within.
        absurd (true_not_false (sym e ∙ free_run_at m.used (slot_place m.nodes n.start) n.model.l run (slot_place m.nodes x) (omega arith) (omega arith))))
        (le_or_lt (n.start + n.model.l) x))
        (λ before. inl (omega arith))
        (le_or_lt n.start x)

-- the lowest unused record is not used, where there is one
lowest_unused : (m : Mem) → lowest_record m < records_in m.nodes → used_at m.used (lowest_record m) ≡ false
unfolding lowest_record
lowest_unused m h =
    let e : 0 + lowest_record m ≡ lowest_record m = omega arith in
    rw e at ((first_unused_at m.used 0 (records_in m.nodes) (lowest_record m) refl).2 h)

abbrev BuilderGrows : Builder → Type 0
BuilderGrows B = (ks ps : List ℕ) (m : Mem) → Grows m (B ks ps m).memory

-- what is built in a memory x that m grew to: m grows to all that it leaves
module _ (B : Builder) (b : BuilderGrows B) (m : Mem) where
  -- one after the other
  next_grows : (w : Option ℕ) (x : Mem) (f : ℕ → Mem → Out) → Grows m x → ((r : ℕ) (y : Mem) → Grows m y → Grows m (f r y).memory) → Grows m (next w x f).memory
  next_grows (Some r) x f g h = h r x g
  next_grows None x f g h = g

  then_grows : (o : Out) (f : ℕ → Mem → Out) → Grows m o.memory → ((r : ℕ) (y : Mem) → Grows m y → Grows m (f r y).memory) → Grows m (and_then o f).memory
  then_grows o f g h = next_grows o.built o.memory f g h

  -- a slot that m did not use
  slot_grows : (r q : ℕ) → used_at m.used (slot_place m.nodes q) ≡ false → (ks ps : List ℕ) (x : Mem) → Grows m x → Grows m (fill_slot B r q ks ps x).memory
  unfolding fill_slot
  slot_grows r q free [] ps x g = g
  slot_grows r q free (k ∷ []) ps x g =
      grows_slot_stored m x g q free _ (length-put_data x.slots q k (get_or ps 0 0)) (put_data-other x.slots q k (get_or ps 0 0))
  slot_grows r q free (k ∷ j ∷ ks) ps x g =
      then_grows (B (k ∷ j ∷ ks) ps x) (λ c y. out (Some r) (with_slots y (put_child y.slots q c)))
      (grows_both m x (B (k ∷ j ∷ ks) ps x).memory g (b (k ∷ j ∷ ks) ps x))
      (λ c y h. grows_slot_stored m y h q free _ (length-put_child y.slots q c) (put_child-other y.slots q c))

  slots-grow : (r : ℕ) (node : Node) (n s : ℕ) → ((i : ℕ) → s ≤ i → i < s + n → used_at m.used (slot_place m.nodes (node.start + i)) ≡ false)
      → (ks ps : List ℕ) (x : Mem) → Grows m x → Grows m (fill_slots B r node n s ks ps x).memory
  unfolding fill_slots
  slots-grow r node zero s free ks ps x g = g
  slots-grow r node (suc n) s free ks ps x g =
      then_grows
      (fill_slot B r (node.start + s) (keys_to node.model s ks) (payloads_to node.model s ks ps) x)
      (λ r' y. fill_slots B r node n (s + 1) ks ps y)
      (slot_grows r (node.start + s) (free s (omega arith) (omega arith)) (keys_to node.model s ks) (payloads_to node.model s ks ps) x g)
      (λ r' y h. slots-grow r node n (s + 1) (λ i lo hi. free i (omega arith) (omega arith)) ks ps y h)

  on_grows : (r : ℕ) → used_at m.used r ≡ false → (md : Model) (w : Option ℕ) → lowest_slots m md.l ≡ w → (ks ps : List ℕ) → Grows m (node_on B r md w ks ps m).memory
  unfolding node_on lowest_slots
  on_grows r free md None e ks ps = grows_same m
  on_grows r free md (Some s) e ks ps =
      let n : Node = record { model = md; start = s } in
      let run = (lowest_run_finds m.used (records_in m.nodes) (slots_in m.slots) md.l s e).1 in
      slots-grow r n md.l 0
      (λ i lo hi. free_run_at m.used (slot_place m.nodes s) md.l run (slot_place m.nodes (s + i)) (omega arith) (omega arith))
      ks ps (place_node m r n (length ks)) (place_grows m r n (length ks) free run)

  node_grows : (ks ps : List ℕ) → Grows m (node_with B ks ps m).memory
  unfolding node_with
  node_grows ks ps =
      both (ltb (lowest_record m) (records_in m.nodes))
      (λ t.
      rw t
      (on_grows (lowest_record m) (lowest_unused m (ltb-true _ _ t)) (model_of ks) (lowest_slots m (model_of ks).l) refl ks ps))
      (λ t. rw t (grows_same m))

-- A build takes unused records and unused runs alone, with room or without.
pub build_grows : (depth : ℕ) (ks ps : List ℕ) (m : Mem) → Grows m (build depth ks ps m).memory
unfolding build
build_grows zero ks ps m = grows_same m
build_grows (suc depth) ks ps m = node_grows (build depth) (build_grows depth) m ks ps

pub build-keeps : (depth : ℕ) (ks ps : List ℕ) (m : Mem) → Keeps m (build depth ks ps m).memory
build-keeps depth ks ps m = (build_grows depth ks ps m).keeps

module _ (depth : ℕ) (ks ps : List ℕ) (m : Mem) where
  pub build-nodes-length : length (build depth ks ps m).memory.nodes ≡ length m.nodes
  build-nodes-length = (build-keeps depth ks ps m).nodes

  pub build-slots-length : length (build depth ks ps m).memory.slots ≡ length m.slots
  build-slots-length = (build-keeps depth ks ps m).slots

  pub build-used-length : length (build depth ks ps m).memory.used ≡ length m.used
  build-used-length = (build-keeps depth ks ps m).used

  pub build-keeps-used : (p : ℕ) → used_at m.used p ≡ true → used_at (build depth ks ps m).memory.used p ≡ true
  build-keeps-used = (build-keeps depth ks ps m).marks

-- a build of slots answers its own node, or that there was no room
abbrev Answers : ℕ → Option ℕ → Type 0
Answers r b = (x : ℕ) → b ≡ Some x → x ≡ r

no_room-answers : (r : ℕ) → Answers r None
no_room-answers r x e = let z : ◌≡◌ {A = ℕ} 0 1 = cc in absurd (omega arith)

next-answers : (r : ℕ) (b : Option ℕ) (m : Mem) (f : ℕ → Mem → Out) → ((c : ℕ) (x : Mem) → Answers r (f c x).built) → Answers r (next b m f).built
next-answers r (Some c) m f g = g c m
next-answers r None m f g = no_room-answers r

slots-answer : (B : Builder) (r : ℕ) (node : Node) (n s : ℕ) (ks ps : List ℕ) (m : Mem) → Answers r (fill_slots B r node n s ks ps m).built
unfolding fill_slots
slots-answer B r node zero s ks ps m = λ x e. sym (cc)
slots-answer B r node (suc n) s ks ps m =
    let o = fill_slot B r (node.start + s) (keys_to node.model s ks) (payloads_to node.model s ks ps) m in
    next-answers r o.built o.memory (λ r' m'. fill_slots B r node n (s + 1) ks ps m') (λ r' m'. slots-answer B r node n (s + 1) ks ps m')

on_answers : (B : Builder) (r : ℕ) (md : Model) (w : Option ℕ) (ks ps : List ℕ) (m : Mem) → Answers r (node_on B r md w ks ps m).built
unfolding node_on
on_answers B r md None ks ps m = no_room-answers r
on_answers B r md (Some s) ks ps m = slots-answer B r (record { model = md; start = s }) md.l 0 ks ps _

node-within : (B : Builder) (ks ps : List ℕ) (m : Mem) (r : ℕ) → (node_with B ks ps m).built ≡ Some r → r < records_in m.nodes
unfolding node_with
node-within B ks ps m r e =
    both (ltb (lowest_record m) (records_in m.nodes))
    (λ t.
    let d : r ≡ lowest_record m = on_answers B (lowest_record m) (model_of ks) (lowest_slots m (model_of ks).l) ks ps m r (rw t at e) in
    omega (arith, ltb-true (lowest_record m) (records_in m.nodes) t))
    (λ t. let d : None ≡ Some r = rw t at e in let z : ◌≡◌ {A = ℕ} 0 1 = cc in absurd (omega arith))

pub build-within : (depth : ℕ) (ks ps : List ℕ) (m : Mem) (r : ℕ) → (build depth ks ps m).built ≡ Some r → r < records_in m.nodes
unfolding build
build-within zero ks ps m r e = let z : ◌≡◌ {A = ℕ} 0 1 = cc in absurd (omega arith)
build-within (suc depth) ks ps m r e = node-within (build depth) ks ps m r e
