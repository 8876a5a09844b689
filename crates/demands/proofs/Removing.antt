-- Memory with less in it: a subtree released as the code releases it, children first, then the node's own run and record. Memory
-- loses just what the subtree says, and its places are unused and zero. Assumes nothing.
use Rattle.std.specs.Prelude.{Ok, Result}
use mathlib.Core.Bool.{Bool, true, false}
use mathlib.Core.List.{List}
use mathlib.Core.Logic.{◌⊎◌, inl, inr, ⊎_elim}
use mathlib.Core.Path.{◌≡◌, refl, sym, subst, subst⁻¹, ap, ◌∙◌}
use native.Mathlib.Nat.{add-zero}
use native.Mathlib.Omega.{arith}
use Prim.Native.Nat.{ℕ, zero, suc, ◌+◌, ◌*◌, ◌-◌, ◌<◌, ◌≤◌}
use lib.Dec.{eqb, ltb}
use lib.ListN.{length, get_or}
use borrow.Author.Tests.{eqb-true, eqb-false, lt-ltb, le-ltb}
use Rattle.build.specs.Releasing.{drop_node, release_slot, release_slots, release_record, release}
use Rattle.laws.proofs.Tests.{both, le_or_lt}
use Rattle.laws.specs.Pick.{pick}
use Rattle.marks.proofs.Marks.{bit_at, unused_zero, same-used-bit, clear-same, clear-other, clear-length, clear-words}
use Rattle.marks.proofs.Runs.{clear_run-length, clear_run-words, clear_run_in, clear_run-out}
use Rattle.marks.specs.Used.{clear_at, clear_run}
use Rattle.pool.proofs.RecordStores.{length-zero_record, zero_record-inside, zero_record-other}
use Rattle.pool.proofs.RunStores.{length-zero_run, zero_run-inside, zero_run_outside}
use Rattle.pool.specs.Memory.{Mem}
use Rattle.pool.specs.Reading.{node_at, slot_at}
use Rattle.pool.specs.declared.Slot.{Slot}
use Rattle.demands.specs.Placed.{Head, Branch, null, leaf, sub, Forest, nil, cons, len, depth_b, depth_f, Cell, node, cell_of, Word, bit, in_node, in_slot, cell_w, at, in_b, in_f, view, HeadOk, OkB, OkF, Words}
use Rattle.demands.proofs.Adding.{Fine, sized_as, spots, same_elsewhere}
use Rattle.demands.proofs.Changing.{no_node}
use Rattle.demands.proofs.Holding.{HoldsF, root-reads, run_holds, first_reads, branch-holds, rest-holds}
use Rattle.demands.proofs.Plugs.{at_same, at_other, at_none, none-b}
use Rattle.demands.proofs.Reading.{Holds, bit_small}
use Rattle.demands.proofs.Walking.{node_of, slot_to, view-node, view-slot, node-past, slot-past, records-are, node-reads, slot-reads}
use Rattle.pool.specs.declared.Rule.{Rule}

pub record Removed (R S : ℕ) (m o : Mem) (δ : ℕ → (Cell → ℕ) → ℕ) : Type 0 where
  pub fine : Fine R S o
  pub law : (x : ℕ) (w : Word) → view R o x w + δ x (cell_w w) ≡ view R m x w

-- what the slots of a run say themselves, and what stands below them
abbrev pub cells_f : (Cell → ℕ) → ℕ → ℕ → Forest → ℕ
cells_f φ x a nil = 0
cells_f φ x a (cons b f) = at a (φ (cell_of b)) x + cells_f φ x (a + 1) f

abbrev pub kids_f : ℕ → (Cell → ℕ) → ℕ → Forest → ℕ
kids_f R φ x nil = 0
kids_f R φ x (cons b f) = in_b R φ x b + kids_f R φ x f

pub run-parts : (R : ℕ) (φ : Cell → ℕ) (x a : ℕ) (f : Forest) → in_f R φ x a f ≡ cells_f φ x a f + kids_f R φ x f
run-parts R φ x a nil = refl
run-parts R φ x a (cons b f) = omega (arith, run-parts R φ x (a + 1) f)

module _ (φ : Cell → ℕ) (x : ℕ) where
  pub cells_before : (f : Forest) (a : ℕ) → x < a → cells_f φ x a f ≡ 0
  cells_before nil a h = refl
  cells_before (cons b f) a h = omega (arith, at_other a (φ (cell_of b)) x (λ e. omega arith), cells_before f (a + 1) (omega arith))

  pub cells_behind : (f : Forest) (a : ℕ) → a + len f ≤ x → cells_f φ x a f ≡ 0
  cells_behind nil a h = refl
  cells_behind (cons b f) a h = omega (arith, at_other a (φ (cell_of b)) x (λ e. omega arith), cells_behind f (a + 1) (omega arith))

  pub cells_none : (f : Forest) (a : ℕ) → cells_f (cell_w bit) x a f ≡ 0 → cells_f φ x a f ≡ 0
  cells_none nil a h = refl
  cells_none (cons b f) a h = omega (arith, at_none a (φ (cell_of b)) x (omega arith), cells_none f (a + 1) (omega arith))

pub kids_none : (R : ℕ) (φ : Cell → ℕ) (x : ℕ) (f : Forest) → kids_f R (cell_w bit) x f ≡ 0 → kids_f R φ x f ≡ 0
kids_none R φ x nil h = refl
kids_none R φ x (cons b f) h = omega (arith, none-b R φ x b (omega arith), kids_none R φ x f (omega arith))

pub cells_node : (i x : ℕ) (f : Forest) (a : ℕ) → cells_f (cell_w (in_node i)) x a f ≡ 0
unfolding at
cells_node i x nil a = refl
cells_node i x (cons b f) a = both (eqb x a) (λ e. rw (e, no_node b i, cells_node i x f (a + 1))) (λ e. rw (e, cells_node i x f (a + 1)))

pub cells_inside : (x : ℕ) (f : Forest) (a : ℕ) → a ≤ x → x < a + len f → 1 ≤ cells_f (cell_w bit) x a f
cells_inside x nil a h l = absurd (no h l)
  where
    no : a ≤ x → x < a + 0 → ⊥
    no h l = omega arith
cells_inside x (cons b f) a h l = both (eqb x a)
    (λ e. let d : x ≡ a = eqb-true x a e in omega (arith, subst⁻¹ (λ (y : ℕ). at a 1 y ≡ 1) d (at_same a 1)))
    (λ e. omega (arith, cells_inside x f (a + 1) (after (eqb-false x a e)) (omega arith)))
  where
    after : (x ≡ a → ⊥) → a + 1 ≤ x
    after d = ⊎_elim (λ q. q) (λ q. absurd (d (omega arith))) (le_or_lt (a + 1) x)

-- a node without children below it is dropped
module _ (R S : ℕ) (m : Mem) (fine : Fine R S m) (h : Head) (g : Forest) (ok : HeadOk R S h (len g))
    (holds : (x : ℕ) → 1 ≤ at h.at 1 x + cells_f (cell_w bit) x (R + h.start) g → (w : Word) → view R m x w ≡ at h.at (cell_w w (node h (len g))) x + cells_f (cell_w w) x (R + h.start) g) where
  abbrev r : ℕ
  r = h.at

  abbrev s : ℕ
  s = h.start

  abbrev l : ℕ
  l = len g

  abbrev o : Mem
  o = drop_node m r (node_of h l)

  abbrev cleared : List ℕ
  cleared = clear_at (clear_run m.used (R + s) l) r

  used_is : o.used ≡ cleared
  unfolding drop_node
  used_is = rw (records-are R S m fine.sized)

  bit_is : (x : ℕ) → view R o x bit ≡ bit_at cleared x
  unfolding view
  bit_is x = rw used_is

  bit_was : (x : ℕ) → view R m x bit ≡ bit_at m.used x
  unfolding view
  bit_was x = refl

  long-used : length o.used ≡ length m.used
  long-used = ap length used_is ∙ clear-length (clear_run m.used (R + s) l) r ∙ clear_run-length m.used (R + s) l

  long-nodes : length o.nodes ≡ length m.nodes
  unfolding drop_node
  long-nodes = length-zero_record m.nodes r

  long-slots : length o.slots ≡ length m.slots
  unfolding drop_node
  long-slots = length-zero_run m.slots s l

  words-used : Words o.used
  words-used = subst⁻¹ Words used_is (clear-words (clear_run m.used (R + s) l) r (clear_run-words m.used (R + s) l fine.words))

  -- the record
  record_zero : (i : ℕ) → i < 8 → get_or o.nodes (r * 8 + i) 0 ≡ 0
  unfolding drop_node
  record_zero i e = zero_record-inside m.nodes r (r * 8 + i) (omega arith) (omega arith)

  slots_before : (x i : ℕ) → x < R → view R o x (in_slot i) ≡ 0
  unfolding view
  slots_before x i e = rw (lt-ltb x R e) (same (ltb i 2))
    where
      same : (b : Bool) → pick {A = ℕ} b 0 0 ≡ 0
      same true = refl
      same false = refl

  record_here : (w : Word) → view R o r w ≡ 0
  record_here bit = bit_is r ∙ unused_zero cleared r (clear-same (clear_run m.used (R + s) l) r)
  record_here (in_slot i) = slots_before r i ok.inside
  record_here (in_node i) = ⊎_elim (λ e. node-past R o r i e) (λ e. view-node R o r i ok.inside e ∙ record_zero i e) (le_or_lt 8 i)

  -- the run
  run-bit : (x : ℕ) → (x ≡ r → ⊥) → R + s ≤ x → x < R + s + l → view R o x bit ≡ 0
  run-bit x n a b = bit_is x ∙ unused_zero cleared x (clear-other (clear_run m.used (R + s) l) r x n ∙ clear_run_in m.used (R + s) l x a b)

  run_zero : (q i : ℕ) → s ≤ q → q < s + l → i < 2 → get_or o.slots (q * 2 + i) 0 ≡ 0
  unfolding drop_node
  run_zero q i a b e = zero_run-inside m.slots s l (q * 2 + i) (omega arith) (omega arith)

  nodes-past : (x i : ℕ) → R ≤ x → view R o x (in_node i) ≡ 0
  unfolding view
  nodes-past x i e = rw (le-ltb x R e) (same (ltb i 8))
    where
      same : (b : Bool) → pick {A = ℕ} b 0 0 ≡ 0
      same true = refl
      same false = refl

  run_here : (x : ℕ) → (x ≡ r → ⊥) → R + s ≤ x → x < R + s + l → (w : Word) → view R o x w ≡ 0
  run_here x n a b bit = run-bit x n a b
  run_here x n a b (in_node i) = nodes-past x i (omega arith)
  run_here x n a b (in_slot i) = ⊎_elim (λ e. slot-past R o x i e) (λ e. zeroes e) (le_or_lt 2 i)
    where
      zeroes : i < 2 → view R o x (in_slot i) ≡ 0
      zeroes e =
          let q : R + (x - R) ≡ x = omega arith in
          let d : view R o (R + (x - R)) (in_slot i) ≡ 0 = view-slot R o (x - R) i e ∙ run_zero (x - R) i (omega arith) (omega arith) e in
          rw q at d

  -- elsewhere
  other-bit : (x : ℕ) → (x ≡ r → ⊥) → (x < R + s) ⊎ (R + s + l ≤ x) → view R o x bit ≡ view R m x bit
  other-bit x n a =
      bit_is x ∙ same-used-bit cleared m.used x (clear-other (clear_run m.used (R + s) l) r x n ∙ clear_run-out m.used (R + s) l x a) ∙ sym (bit_was x)

  other_word : (x i : ℕ) → (x ≡ r → ⊥) → i < 8 → get_or o.nodes (x * 8 + i) 0 ≡ get_or m.nodes (x * 8 + i) 0
  unfolding drop_node
  other_word x i n e = zero_record-other m.nodes r x i n e

  other-store : (q i : ℕ) → (q < s) ⊎ (s + l ≤ q) → i < 2 → get_or o.slots (q * 2 + i) 0 ≡ get_or m.slots (q * 2 + i) 0
  unfolding drop_node
  other-store q i (inl a) e = zero_run_outside m.slots s l (q * 2 + i) (inl (omega arith))
  other-store q i (inr a) e = zero_run_outside m.slots s l (q * 2 + i) (inr (omega arith))

  other_there : (x : ℕ) → (x ≡ r → ⊥) → (x < R + s) ⊎ (R + s + l ≤ x) → (w : Word) → view R o x w ≡ view R m x w
  other_there = same_elsewhere R m o r s l other-bit other_word other-store

  outside : (φ : Cell → ℕ) (x : ℕ) → (x < R + s) ⊎ (R + s + l ≤ x) → cells_f φ x (R + s) g ≡ 0
  outside φ x (inl a) = cells_before φ x g (R + s) a
  outside φ x (inr a) = cells_behind φ x g (R + s) a

  drop_law : (x : ℕ) (w : Word) → view R o x w + (at r (cell_w w (node h l)) x + cells_f (cell_w w) x (R + s) g) ≡ view R m x w
  drop_law x w = spots _ r (R + s) l x here inside there
    where
      here : x ≡ r → view R o x w + (at r (cell_w w (node h l)) x + cells_f (cell_w w) x (R + s) g) ≡ view R m x w
      here e = rw e (omega (arith, record_here w, holds r (omega (arith, at_same r 1)) w))

      inside : (x ≡ r → ⊥) → R + s ≤ x → x < R + s + l → view R o x w + (at r (cell_w w (node h l)) x + cells_f (cell_w w) x (R + s) g) ≡ view R m x w
      inside n a b = omega (arith, run_here x n a b w, holds x (omega (arith, cells_inside x g (R + s) a b)) w)

      there : (x ≡ r → ⊥) → (x < R + s) ⊎ (R + s + l ≤ x) → view R o x w + (at r (cell_w w (node h l)) x + cells_f (cell_w w) x (R + s) g) ≡ view R m x w
      there n a = omega (arith, other_there x n a w, at_other r (cell_w w (node h l)) x n, outside (cell_w w) x a)

  drop_clean : (x : ℕ) → view R o x bit ≡ 0 → (w : Word) → view R o x w ≡ 0
  drop_clean x z w = spots _ r (R + s) l x (λ e. rw e (record_here w)) (λ n a b. run_here x n a b w) (λ n a. other_there x n a w ∙ fine.clean x (sym (other_there x n a bit) ∙ z) w)

  pub drop_removed : Removed R S m (drop_node m h.at (node_of h (len g))) (λ x φ. at h.at (φ (node h (len g))) x + cells_f φ x (R + h.start) g)
  drop_removed = record {
    fine = record { sized = sized_as R S m o fine.sized long-nodes long-slots long-used; clean = drop_clean; words = words-used };
    law = drop_law;
  }

-- the children of a run, released one after the other; their slots stay
module _ (R S : ℕ) where
  abbrev Releases : ℕ → Type 0
  Releases d = (h : Head) (g : Forest) (m : Mem) → Fine R S m → OkB R S (sub h g) → Holds R m (sub h g) → depth_b (sub h g) ≤ d → Removed R S m (release d m h.at) (λ x φ. in_b R φ x (sub h g))

  nothing : (m : Mem) → Fine R S m → Removed R S m m (λ x φ. 0)
  nothing m f = record { fine = f; law = λ x w. add-zero _ }

  -- one slot
  slot_removed : (d : ℕ) → Releases d → (b : Branch) (m : Mem) → Fine R S m → OkB R S b → Holds R m b → depth_b b ≤ d → Removed R S m (release_slot (release d) m (slot_to b)) (λ x φ. in_b R φ x b)
  unfolding release_slot
  slot_removed d ih null m f o k z = nothing m f
  slot_removed d ih (leaf x p) m f o k z = nothing m f
  slot_removed d ih (sub h g) m f o k z = ih h g m f o k z

  module _ (t : Head) (l : ℕ) where
    kids_removed : (d : ℕ) → Releases d → (f : Forest) (j : ℕ) (m : Mem) → Fine R S m → OkF R S t.lo t.w l j f → HoldsF R m (R + (t.start + j)) f → depth_f f ≤ d
        → Removed R S m (release_slots (release d) (node_of t l) (len f) j m) (λ x φ. kids_f R φ x f)
    unfolding release_slots
    kids_removed d ih nil j m f o k z = nothing m f
    kids_removed d ih (cons b g) j m f o k z =
        let e : slot_at m.slots (node_of t l) j ≡ slot_to b = slot-reads R S m f.sized t l j b o.1 o.0 (first_reads R m (R + (t.start + j)) b g k) in
        let a : R + (t.start + j) + 1 ≡ R + (t.start + (j + 1)) = omega arith in
        let m1 : Mem = release_slot (release d) m (slot_to b) in
        let p = slot_removed d ih b m f o.1 (branch-holds R m (R + (t.start + j)) b g k) (omega arith) in
        let h : HoldsF R m1 (R + (t.start + (j + 1))) g = subst (λ (y : ℕ). HoldsF R m1 y g) a (rest_kept (R + (t.start + j)) b g m m1 k p) in
        let q = kids_removed d ih g (j + 1) m1 p.fine o.2 h (omega arith) in
        subst⁻¹ (λ (s : Result Slot Rule). Removed R S m (release_slots (release d) (node_of t l) (len g) (j + 1) (release_slot (release d) m s)) (λ x φ. in_b R φ x b + kids_f R φ x g)) e
        (record { fine = q.fine; law = λ x w. omega (arith, p.law x w, q.law x w) })
      where
        rest_kept : (a : ℕ) (b : Branch) (g : Forest) (m m1 : Mem) → HoldsF R m a (cons b g) → Removed R S m m1 (λ x φ. in_b R φ x b) → HoldsF R m1 (a + 1) g
        rest_kept a b g m m1 k p x u w =
            let i = k x (omega arith) in
            let s = i bit in
            let v = bit_small R m x in
            omega (arith, rest-holds R m a b g k x u w, p.law x w, none-b R (cell_w w) x b (omega arith))

  -- a node: memory after its children
  module _ (h : Head) (g : Forest) (m m1 : Mem) (k : Holds R m (sub h g)) (p : Removed R S m m1 (λ x φ. kids_f R φ x g)) where
    own_held : (x : ℕ) → 1 ≤ at h.at 1 x + cells_f (cell_w bit) x (R + h.start) g → (w : Word) → view R m1 x w ≡ at h.at (cell_w w (node h (len g))) x + cells_f (cell_w w) x (R + h.start) g
    own_held x u w =
        let rb = run-parts R (cell_w bit) x (R + h.start) g in
        let rw1 = run-parts R (cell_w w) x (R + h.start) g in
        let i = k x (omega arith) in
        let s = i bit in
        let v = bit_small R m x in
        omega (arith, i w, p.law x w, kids_none R (cell_w w) x g (omega arith))

  pub release_removed : (d : ℕ) → Releases d
  unfolding release release_record
  release_removed zero h g m f o k z = absurd (no z)
    where
      no : suc (depth_f g) ≤ 0 → ⊥
      no x = omega arith
  release_removed (suc d) h g m f o k z =
      let e : node_at m h.at ≡ Ok (node_of h (len g)) = node-reads R S m f.sized h (len g) o.0 (root-reads R m h g k) in
      let m1 : Mem = release_slots (release d) (node_of h (len g)) (len g) 0 m in
      let a : R + h.start ≡ R + (h.start + 0) = omega arith in
      let p : Removed R S m m1 (λ x φ. kids_f R φ x g) = kids_removed h (len g) d (release_removed d) g 0 m f o.1 (subst (λ (y : ℕ). HoldsF R m y g) a (run_holds R m h g k)) (omega arith) in
      let q = drop_removed R S m1 p.fine h g o.0 (own_held h g m m1 k p) in
      rw e (record { fine = q.fine; law = λ x w. omega (arith, p.law x w, q.law x w, run-parts R (cell_w w) x (R + h.start) g) })
