-- Memory with more in it: where places are unused and zero, a new node is written, and memory changes by just what the node says. Where
-- the build looks for places it finds unused ones. Assumes nothing.
use mathlib.Core.Bool.{false}
use mathlib.Core.List.{List, [], ◌∷◌}
use mathlib.Core.Logic.{◌⊎◌, inl, inr, ⊎_elim}
use mathlib.Core.Path.{◌≡◌, refl, sym, subst⁻¹, ap, ◌∙◌}
use native.Mathlib.Nat.{zero-add}
use native.Mathlib.Omega.{arith}
use Prim.Native.Nat.{ℕ, zero, suc, ◌+◌, ◌*◌, ◌-◌, ◌<◌, ◌≤◌, ◌/◌}
use lib.Dec.{eqb, ltb}
use lib.ListN.{length, get_or, get_or-eq_default}
use borrow.Author.Tests.{eqb-true, eqb-false, lt-ltb, le-ltb, ltb-true, ltb-false}
use Rattle.build.specs.Building.{lowest_record, lowest_slots, place_node}
use Rattle.laws.proofs.Tests.{both, le_or_lt}
use Rattle.marks.proofs.Marks.{bit_at, used-one, unused_zero, same-used-bit, mark-same, mark-other, mark-length, mark-words}
use Rattle.marks.proofs.Lowest.{first_unused_at, lowest_run_finds}
use Rattle.marks.proofs.Runs.{mark_run-length, mark_run-words, mark_run_in, mark_run-out, free_run_at}
use Rattle.marks.specs.Used.{used_at, mark_at, mark_run}
use Rattle.std.proofs.Common.{Some}
use Rattle.pool.proofs.RecordStores.{length-put_node, put_node-other}
use Rattle.pool.proofs.RunStores.{length-zero_run, zero_run-inside, zero_run_outside}
use Rattle.pool.proofs.Sets.{sets_within}
use Rattle.pool.specs.Memory.{Mem, records_in, slots_in, slot_place}
use Rattle.pool.specs.Writing.{put_node}
use Rattle.demands.specs.Growing.{fresh_head}
use Rattle.demands.specs.Placed.{model_in, Head, Branch, null, sub, Forest, nil, cons, len, Cell, empty, node, Word, bit, in_node, in_slot, head_words, cell_w, at, in_b, in_f, view, OkF, Words}
use Rattle.demands.proofs.Plugs.{at_same, at_other, none-b}
use Rattle.demands.proofs.Walking.{Sized, Kept, node_of, view-node, view-slot, node-past, slot-past, records-are, slots-are}

-- sized memory whose unused places are zero
pub record Fine (R S : ℕ) (m : Mem) : Type 0 where
  pub sized : Sized R S m
  pub clean : (x : ℕ) → view R m x bit ≡ 0 → (w : Word) → view R m x w ≡ 0
  pub words : Words m.used

pub fine_of : (R S : ℕ) (m : Mem) (t : Branch) → Kept R S m t → Fine R S m
fine_of R S m t g = record { sized = g.sized; clean = λ x z w. g.image x w ∙ none-b R (cell_w w) x t (sym (g.image x bit) ∙ z); words = g.words }

-- memory with more in it
pub record Added (R S : ℕ) (m o : Mem) (δ : ℕ → (Cell → ℕ) → ℕ) : Type 0 where
  pub fine : Fine R S o
  pub law : (x : ℕ) (w : Word) → view R o x w ≡ view R m x w + δ x (cell_w w)

-- what a change says nothing of where its bit says nothing
abbrev pub None : (ℕ → (Cell → ℕ) → ℕ) → Type 0
None δ = (x : ℕ) (w : Word) → δ x (cell_w bit) ≡ 0 → δ x (cell_w w) ≡ 0

pub sized_as : (R S : ℕ) (m o : Mem) → Sized R S m → length o.nodes ≡ length m.nodes → length o.slots ≡ length m.slots → length o.used ≡ length m.used → Sized R S o
sized_as R S m o s sn ss su = record { nodes = sn ∙ s.nodes; slots = ss ∙ s.slots; used = su ∙ s.used; few = s.few }

pub added : (R S : ℕ) (m o : Mem) (δ : ℕ → (Cell → ℕ) → ℕ) → Fine R S m → None δ → Sized R S o → Words o.used
    → ((x : ℕ) (w : Word) → view R o x w ≡ view R m x w + δ x (cell_w w)) → Added R S m o δ
added R S m o δ f n s u l = record {
  fine = record { sized = s; clean = λ x z w. omega (arith, l x w, f.clean x (omega (arith, l x bit)) w, n x w (omega (arith, l x bit))); words = u };
  law = l;
}

-- an empty run
abbrev pub nulls : ℕ → Forest
nulls zero = nil
nulls (suc n) = cons null (nulls n)

pub len-nulls : (n : ℕ) → len (nulls n) ≡ n
len-nulls zero = refl
len-nulls (suc n) = ap suc (len-nulls n)

pub ok_nulls : (R S lo w l i n : ℕ) → OkF R S lo w l i (nulls n)
ok_nulls R S lo w l i zero = tt
ok_nulls R S lo w l i (suc n) = (tt, tt, ok_nulls R S lo w l (i + 1) n)

module _ (R : ℕ) (φ : Cell → ℕ) (x : ℕ) where
  pub nulls_before : (n a : ℕ) → x < a → in_f R φ x a (nulls n) ≡ 0
  nulls_before zero a h = refl
  nulls_before (suc n) a h = omega (arith, at_other a (φ empty) x (λ e. omega arith), nulls_before n (a + 1) (omega arith))

  pub nulls_behind : (n a : ℕ) → a + n ≤ x → in_f R φ x a (nulls n) ≡ 0
  nulls_behind zero a h = refl
  nulls_behind (suc n) a h = omega (arith, at_other a (φ empty) x (λ e. omega arith), nulls_behind n (a + 1) (omega arith))

  pub nulls-inside : (n a : ℕ) → a ≤ x → x < a + n → in_f R φ x a (nulls n) ≡ φ empty
  nulls-inside zero a h l = absurd (no h l)
    where
      no : a ≤ x → x < a + 0 → ⊥
      no h l = omega arith
  nulls-inside (suc n) a h l = both (eqb x a)
      (λ e. let d : x ≡ a = eqb-true x a e in rw d (here d))
      (λ e. let d : x ≡ a → ⊥ = eqb-false x a e in omega (arith, at_other a (φ empty) x d, nulls-inside n (a + 1) (after d) (omega arith)))
    where
      here : x ≡ a → at a (φ empty) a + (0 + in_f R φ a (a + 1) (nulls n)) ≡ φ empty
      here d = omega (arith, at_same a (φ empty), rw d at (nulls_before n (a + 1) (omega arith)))

      after : (x ≡ a → ⊥) → a + 1 ≤ x
      after d = ⊎_elim (λ q. q) (λ q. absurd (d (omega arith))) (le_or_lt (a + 1) x)

-- where a place is, seen from a node: its record, in its run, or elsewhere
pub spots : (P : Type 0) (r a l x : ℕ) → (x ≡ r → P) → ((x ≡ r → ⊥) → a ≤ x → x < a + l → P) → ((x ≡ r → ⊥) → (x < a) ⊎ (a + l ≤ x) → P) → P
spots P r a l x here inside there = both (eqb x r) (λ e. here (eqb-true x r e))
    (λ e. ⊎_elim (λ p. ⊎_elim (λ q. there (eqb-false x r e) (inr q)) (λ q. inside (eqb-false x r e) p q) (le_or_lt (a + l) x)) (λ p. there (eqb-false x r e) (inl p)) (le_or_lt a x))

pub record Free (R S : ℕ) (m : Mem) (r s l : ℕ) : Type 0 where
  pub inside : r < R
  pub run : s + l ≤ S
  pub record_free : view R m r bit ≡ 0
  pub run_free : (q : ℕ) → q < l → view R m (R + (s + q)) bit ≡ 0

pub bit_zero : (R : ℕ) (m : Mem) (x : ℕ) → used_at m.used x ≡ false → view R m x bit ≡ 0
unfolding view
bit_zero R m x e = unused_zero m.used x e

-- two memories that differ at one record and one run at most
module _ (R : ℕ) (m o : Mem) (r s l : ℕ) (bits : (x : ℕ) → (x ≡ r → ⊥) → (x < R + s) ⊎ (R + s + l ≤ x) → view R o x bit ≡ view R m x bit)
    (nodes : (x i : ℕ) → (x ≡ r → ⊥) → i < 8 → get_or o.nodes (x * 8 + i) 0 ≡ get_or m.nodes (x * 8 + i) 0)
    (slots : (q i : ℕ) → (q < s) ⊎ (s + l ≤ q) → i < 2 → get_or o.slots (q * 2 + i) 0 ≡ get_or m.slots (q * 2 + i) 0) where
  node_elsewhere : (x i : ℕ) → (x ≡ r → ⊥) → view R o x (in_node i) ≡ view R m x (in_node i)
  unfolding view
  node_elsewhere x i n = both (ltb i 8) (λ e. rw e (both (ltb x R) (λ t. rw t (nodes x i n (ltb-true i 8 e))) (λ t. rw t))) (λ e. rw e)

  slot_elsewhere : (x i : ℕ) → (x < R + s) ⊎ (R + s + l ≤ x) → view R o x (in_slot i) ≡ view R m x (in_slot i)
  unfolding view
  slot_elsewhere x i a =
      both (ltb i 2) (λ e. rw e (both (ltb x R) (λ t. rw t) (λ t. rw t (slots (x - R) i (shift (ltb-false x R t) a) (ltb-true i 2 e))))) (λ e. rw e)
    where
      shift : R ≤ x → (x < R + s) ⊎ (R + s + l ≤ x) → (x - R < s) ⊎ (s + l ≤ x - R)
      shift a (inl b) = inl (omega arith)
      shift a (inr b) = inr (omega arith)

  pub same_elsewhere : (x : ℕ) → (x ≡ r → ⊥) → (x < R + s) ⊎ (R + s + l ≤ x) → (w : Word) → view R o x w ≡ view R m x w
  same_elsewhere x n a bit = bits x n a
  same_elsewhere x n a (in_node i) = node_elsewhere x i n
  same_elsewhere x n a (in_slot i) = slot_elsewhere x i a

module _ (R S : ℕ) (m : Mem) (f : Fine R S m) (r lo w s l count : ℕ) (z : Free R S m r s l) where
  abbrev pub new_node : Mem
  new_node = place_node m r (node_of (fresh_head r (model_in lo w l) s count) l) count

  abbrev h : Head
  h = fresh_head r (model_in lo w l) s count

  base : slot_place m.nodes s ≡ R + s
  base = rw (records-are R S m f.sized)

  in_map : (x : ℕ) → x < R + S → x / 64 < length m.used
  in_map x g = omega (arith, f.sized.used)

  abbrev pub marked : List ℕ
  marked = mark_run (mark_at m.used r) (R + s) l

  pub used_is : new_node.used ≡ marked
  unfolding place_node
  used_is = rw base

  bit_is : (x : ℕ) → view R new_node x bit ≡ bit_at marked x
  unfolding view
  bit_is x = rw used_is

  bit_was : (x : ℕ) → view R m x bit ≡ bit_at m.used x
  unfolding view
  bit_was x = refl

  long-used : length new_node.used ≡ length m.used
  long-used = ap length used_is ∙ mark_run-length (mark_at m.used r) (R + s) l ∙ mark-length m.used r

  long-nodes : length new_node.nodes ≡ length m.nodes
  unfolding place_node
  long-nodes = length-put_node m.nodes r (node_of h l) count

  long-slots : length new_node.slots ≡ length m.slots
  unfolding place_node
  long-slots = length-zero_run m.slots s l

  words-used : Words new_node.used
  words-used = subst⁻¹ Words used_is (mark_run-words (mark_at m.used r) (R + s) l (mark-words m.used r f.words))

  -- the node's own record
  record-bit : view R new_node r bit ≡ 1
  record-bit =
      bit_is r
      ∙ used-one marked r (mark_run-out (mark_at m.used r) (R + s) l r (inl (omega (arith, z.inside))) ∙ mark-same m.used r (in_map r (omega (arith, z.inside))))

  record-word : (i : ℕ) → i < 8 → get_or new_node.nodes (r * 8 + i) 0 ≡ get_or (head_words h l) i 0
  unfolding place_node put_node
  record-word i g =
      sets_within m.nodes (r * 8) (lo ∷ w ∷ l ∷ s ∷ count ∷ count ∷ 0 ∷ 0 ∷ []) i g (omega (arith, z.inside, f.sized.nodes)) ∙ last i g
    where
      last : (i : ℕ) → i < 8 → get_or (lo ∷ w ∷ l ∷ s ∷ count ∷ count ∷ 0 ∷ 0 ∷ []) i 0 ≡ get_or (head_words (fresh_head r (model_in lo w l) s count) l) i 0
      last zero g = refl
      last (suc zero) g = refl
      last (suc (suc zero)) g = refl
      last (suc (suc (suc zero))) g = refl
      last (suc (suc (suc (suc zero)))) g = refl
      last (suc (suc (suc (suc (suc zero))))) g = refl
      last (suc (suc (suc (suc (suc (suc zero)))))) g = refl
      last (suc (suc (suc (suc (suc (suc (suc zero))))))) g = refl
      last (suc (suc (suc (suc (suc (suc (suc (suc i)))))))) g = refl

  slots_before : (x i : ℕ) → x < R → view R new_node x (in_slot i) ≡ view R m x (in_slot i)
  unfolding view
  slots_before x i g = rw (lt-ltb x R g)

  record_here : (y : Word) → view R new_node r y ≡ cell_w y (node h l)
  record_here bit = record-bit
  record_here (in_slot i) = slots_before r i z.inside ∙ f.clean r z.record_free (in_slot i)
  record_here (in_node i) = ⊎_elim (λ g. past i g) (λ g. view-node R new_node r i z.inside g ∙ record-word i g) (le_or_lt 8 i)
    where
      past : (i : ℕ) → 8 ≤ i → view R new_node r (in_node i) ≡ get_or (head_words h l) i 0
      past i g = let e : 7 ≤ i = omega arith in node-past R new_node r i g ∙ sym (get_or-eq_default (head_words h l) 0 e)

  -- a slot of its run
  run-bit : (x : ℕ) → R + s ≤ x → x < R + s + l → view R new_node x bit ≡ 1
  run-bit x a b = bit_is x ∙ used-one marked x (mark_run_in (mark_at m.used r) (R + s) l x a b (rw (mark-length m.used r) (in_map x (omega (arith, z.run)))))

  was_free : (x : ℕ) → R + s ≤ x → x < R + s + l → (y : Word) → view R m x y ≡ 0
  was_free x a b y =
      let e : R + (s + (x - (R + s))) ≡ x = omega arith in
      f.clean x (rw e at (z.run_free (x - (R + s)) (omega arith))) y

  nodes-past : (x i : ℕ) → R ≤ x → view R new_node x (in_node i) ≡ view R m x (in_node i)
  unfolding view
  nodes-past x i g = rw (le-ltb x R g)

  zeroed : (q i : ℕ) → s ≤ q → q < s + l → i < 2 → get_or new_node.slots (q * 2 + i) 0 ≡ 0
  unfolding place_node
  zeroed q i a b g = zero_run-inside m.slots s l (q * 2 + i) (omega arith) (omega arith)

  run-slot : (x i : ℕ) → R + s ≤ x → x < R + s + l → view R new_node x (in_slot i) ≡ 0
  run-slot x i a b = ⊎_elim (λ g. slot-past R new_node x i g) (λ g. zero g) (le_or_lt 2 i)
    where
      zero : i < 2 → view R new_node x (in_slot i) ≡ 0
      zero g =
          let e : R + (x - R) ≡ x = omega arith in
          let d : view R new_node (R + (x - R)) (in_slot i) ≡ 0 = view-slot R new_node (x - R) i g ∙ zeroed (x - R) i (omega arith) (omega arith) g in
          rw e at d

  run_here : (x : ℕ) → R + s ≤ x → x < R + s + l → (y : Word) → view R new_node x y ≡ cell_w y empty
  run_here x a b bit = run-bit x a b
  run_here x a b (in_node i) = nodes-past x i (omega arith) ∙ was_free x a b (in_node i)
  run_here x a b (in_slot i) = run-slot x i a b

  -- elsewhere
  other-bit : (x : ℕ) → (x ≡ r → ⊥) → (x < R + s) ⊎ (R + s + l ≤ x) → view R new_node x bit ≡ view R m x bit
  other-bit x n o =
      bit_is x ∙ same-used-bit marked m.used x (mark_run-out (mark_at m.used r) (R + s) l x o ∙ mark-other m.used r x n) ∙ sym (bit_was x)

  other_word : (x i : ℕ) → (x ≡ r → ⊥) → i < 8 → get_or new_node.nodes (x * 8 + i) 0 ≡ get_or m.nodes (x * 8 + i) 0
  unfolding place_node
  other_word x i n g = put_node-other m.nodes r (node_of h l) count x i n g

  other-store : (q i : ℕ) → (q < s) ⊎ (s + l ≤ q) → i < 2 → get_or new_node.slots (q * 2 + i) 0 ≡ get_or m.slots (q * 2 + i) 0
  unfolding place_node
  other-store q i (inl o) g = zero_run_outside m.slots s l (q * 2 + i) (inl (omega arith))
  other-store q i (inr o) g = zero_run_outside m.slots s l (q * 2 + i) (inr (omega arith))

  other_there : (x : ℕ) → (x ≡ r → ⊥) → (x < R + s) ⊎ (R + s + l ≤ x) → (y : Word) → view R new_node x y ≡ view R m x y
  other_there = same_elsewhere R m new_node r s l other-bit other_word other-store

  outside : (φ : Cell → ℕ) (x : ℕ) → (x < R + s) ⊎ (R + s + l ≤ x) → in_f R φ x (R + s) (nulls l) ≡ 0
  outside φ x (inl o) = nulls_before R φ x l (R + s) o
  outside φ x (inr o) = nulls_behind R φ x l (R + s) o

  place_law : (x : ℕ) (y : Word) → view R new_node x y ≡ view R m x y + in_b R (cell_w y) x (sub h (nulls l))
  place_law x y = rw (len-nulls l) (spots _ r (R + s) l x here inside there)
    where
      here : x ≡ r → view R new_node x y ≡ view R m x y + (at r (cell_w y (node h l)) x + in_f R (cell_w y) x (R + s) (nulls l))
      here e =
          rw e (omega (arith, record_here y, f.clean r z.record_free y, at_same r (cell_w y (node h l)), nulls_before R (cell_w y) r l (R + s) (omega (arith, z.inside))))

      inside : (x ≡ r → ⊥) → R + s ≤ x → x < R + s + l → view R new_node x y ≡ view R m x y + (at r (cell_w y (node h l)) x + in_f R (cell_w y) x (R + s) (nulls l))
      inside n a b = omega (arith, run_here x a b y, was_free x a b y, at_other r (cell_w y (node h l)) x n, nulls-inside R (cell_w y) x l (R + s) a b)

      there : (x ≡ r → ⊥) → (x < R + s) ⊎ (R + s + l ≤ x) → view R new_node x y ≡ view R m x y + (at r (cell_w y (node h l)) x + in_f R (cell_w y) x (R + s) (nulls l))
      there n o = omega (arith, other_there x n o y, at_other r (cell_w y (node h l)) x n, outside (cell_w y) x o)

  pub place_added : Added R S m (place_node m r (node_of (fresh_head r (model_in lo w l) s count) l) count) (λ x φ. in_b R φ x (sub (fresh_head r (model_in lo w l) s count) (nulls l)))
  place_added =
      added R S m new_node (λ x φ. in_b R φ x (sub h (nulls l))) f (λ x y e. none-b R (cell_w y) x (sub h (nulls l)) e)
      (sized_as R S m new_node f.sized long-nodes long-slots long-used) words-used place_law

-- the places that a build finds are free
pub found_free : (R S : ℕ) (m : Mem) → Fine R S m → (s l : ℕ) → lowest_record m < records_in m.nodes → lowest_slots m l ≡ Some s → Free R S m (lowest_record m) s l
unfolding lowest_record lowest_slots
found_free R S m f s l h e =
    let rs = records-are R S m f.sized in
    let ss = slots-are R S m f.sized in
    let a = first_unused_at m.used 0 (records_in m.nodes) (lowest_record m) refl in
    let b = lowest_run_finds m.used (records_in m.nodes) (slots_in m.slots) l s e in
    record {
      inside = omega (arith, rs);
      run = omega (arith, b.0, ss);
      record_free = bit_zero R m (lowest_record m) (rw zero-add at (a.2 h));
      run_free = λ q g. bit_zero R m (R + (s + q)) (free_run_at m.used (records_in m.nodes + s) l b.1 (R + (s + q)) (omega (arith, rs)) (omega (arith, rs)));
    }
