-- Demand 2, whole: the answers on good memory, the numbers of insert's refusals, the lists that loads give back, one image, zeros.
-- Assumes nothing.
use mathlib.Core.Bool.{Bool, true, false}
use mathlib.Core.List.{List, [], ◌∷◌}
use mathlib.Core.Path.{◌≡◌, refl, sym, subst, subst⁻¹, ap, ◌∙◌}
use native.Mathlib.Nat.{add-zero}
use native.Mathlib.Omega.{arith}
use Prim.Native.Nat.{ℕ, zero, suc, zero-le, ◌+◌, ◌*◌, ◌<◌, ◌≤◌, ◌^◌, min}
use lib.Dec.{eqb, ltb}
use lib.ListN.{length, get_or, take}
use lib.Seq.{sets}
use borrow.Author.Tests.{lt-ltb, le-ltb, ltb-true, ltb-false, eqb-false}
use Rattle.insert.specs.Inserting.{Insert, insert_of, not_due}
use Rattle.laws.proofs.Tests.{true_not_false}
use Rattle.laws.specs.Answers.{Answer, done}
use Rattle.laws.specs.Keys.{key_bound}
use Rattle.laws.specs.Pick.{pick}
use Rattle.pool.specs.Memory.{Mem, kind_unit, kind_word}
use Rattle.rebuild.specs.Rebuilding.{last_key}
use Rattle.store.proofs.Fitting.{fits_given}
use Rattle.store.specs.Bands.{band}
use Rattle.store.specs.Calls.{Call}
use Rattle.store.specs.Loading.{load_of}
use Rattle.store.specs.declared.Handle.{Handle}
use Rattle.walk.specs.Walks.{longest_path}
use Rattle.demands.specs.Demand2.{band_as, load_tree, LoadLeaves, InsertLeaves, is_roomless, lacks_at, lacks_room, Exactly, InsertNumbers, InsertRefuses, LoadAccepts, LoadLists, OneImage, ZeroElsewhere, Demand2}
use Rattle.demands.specs.Growing.{Grown, is as grown, no_room as roomless}
use Rattle.demands.specs.Map.{Map, EachKey, range, insert, member, bulkload, size, keys_of, payloads_of}
use Rattle.demands.specs.Paths.{path_b, below_b, end_b}
use Rattle.demands.specs.Placed.{Head, Branch, null, leaf, sub, Forest, nil, cons, len, flat_b, flat_f, node, cell_of, in_node, in_slot, cell_w, at, in_b, in_f, Good}
use Rattle.demands.specs.Settling.{Settled, refuses, settles, due_b, grow_over, within, stands, tidies, settle, settle_pair, whole, unless_full, insert_end, insert_t}
use Rattle.demands.specs.Stores.{ours}
use Rattle.demands.proofs.Adding.{Fine, bit_zero, fine_of}
use Rattle.demands.proofs.Bands.{band_answers}
use Rattle.demands.proofs.Calls.{lookup_answers, replace_answers, delete_answers, on, member_is}
use Rattle.demands.proofs.Demand3.{accepted-keeps, right}
use Rattle.demands.proofs.Fitting.{good_kept}
use Rattle.demands.proofs.Holding.{one_image}
use Rattle.demands.proofs.Live.{take_whole, range_every}
use Rattle.demands.proofs.Loads.{given, size-load, load_answers}
use Rattle.demands.proofs.Parting.{keys_below}
use Rattle.demands.proofs.Plugs.{End}
use Rattle.demands.proofs.Settling.{insert_answers}
use Rattle.demands.proofs.Walking.{view-node, view-slot}
use Rattle.demands.proofs.Ways.{Way, way_end}

-- the number that an insert comes to
abbrev number_t : Settled → ℕ
number_t (refuses n) = n
number_t (settles c v b) = 0

abbrev by_tests : Bool → Bool → Bool → ℕ
by_tests held space lacks = pick held 5 (pick space (pick lacks 8 0) 7)

number_leaves : (h : Handle) (m : Mem) (g : Forest) (k p : ℕ) (x : Insert) (w : Settled) → InsertLeaves h m g k p x w → x.answer.number ≡ number_t w
number_leaves h m g k p x (refuses n) a = ap (λ (y : Answer ℕ). y.number) a.0
number_leaves h m g k p x (settles c v b) a = ap (λ (y : Answer ℕ). y.number) a.0

number-pick : (b : Bool) (v w : Settled) → number_t (pick b v w) ≡ pick b (number_t v) (number_t w)
number-pick true v w = refl
number-pick false v w = refl

pick_same : (b : Bool) (n : ℕ) → pick b n n ≡ n
pick_same true n = refl
pick_same false n = refl

module _ (h : Handle) (t : Branch) (k p : ℕ) where
  tidies_zero : (c : Bool) (i : ℕ) (n : Branch) (w : Grown) → number_t (tidies h t k p c i n w) ≡ 0
  tidies_zero c i n (grown b u) = refl
  tidies_zero c i n roomless = refl

  settle_zero : (c : Bool) (n : Branch) (u : List ℕ) → number_t (settle h t k p c n u) ≡ 0
  settle_zero c n u =
      let i = due_b c k t in
      let w = within i (grow_over h u (insert k p (flat_b (below_b t i k)))) in
      number-pick (ltb i (length (path_b k t))) (tidies h t k p c i n w) (stands h t k p c not_due n)
      ∙ ap (λ (x : ℕ). pick (ltb i (length (path_b k t))) x 0) (tidies_zero c i n w) ∙ pick_same (ltb i (length (path_b k t))) 0

  pair-number : (w : Grown) → number_t (settle_pair h t k p w) ≡ pick (is_roomless w) 8 0
  pair-number (grown n u) = settle_zero true n u
  pair-number roomless = refl

  whole-number : (w : Grown) → number_t (whole w) ≡ pick (is_roomless w) 8 0
  whole-number (grown b u) = refl
  whole-number roomless = refl

  choose : (b x y : Bool) → pick b (pick {A = ℕ} x 8 0) (pick y 8 0) ≡ pick (pick b x y) 8 0
  choose true x y = refl
  choose false x y = refl

  full-number : (w : Settled) → number_t (unless_full h w) ≡ pick (ltb h.count h.capacity) (number_t w) 7
  full-number w = number-pick (ltb h.count h.capacity) w (refuses 7)

  end-number : (u : List ℕ) (b : Branch) (held : Bool) → ((s : Head) (g : Forest) → b ≡ sub s g → ⊥) → held ≡ member k (flat_b b) → number_t (insert_end h t u k p b) ≡ by_tests held (ltb h.count h.capacity) (lacks_at h t u k p b)
  end-number u null held n e = rw e (full-number (settle h t k p false (leaf k p) u) ∙ ap (λ (x : ℕ). pick (ltb h.count h.capacity) x 7) (settle_zero false (leaf k p) u))
  end-number u (sub s g) held n e = absurd (n s g refl)
  end-number u (leaf j q) held n e =
      let w1 = grow_over h u (insert k p ((j, q) ∷ [])) in
      let w2 = within 0 (grow_over h u (insert k p (flat_b t))) in
      let b = ltb (length (path_b k t)) longest_path in
      let x = pick b (settle_pair h t k p w1) (whole w2) in
      let i : number_t x ≡ pick (pick b (is_roomless w1) (is_roomless w2)) 8 0 =
      number-pick b (settle_pair h t k p w1) (whole w2) ∙ ap (λ (y : ℕ). pick b y (number_t (whole w2))) (pair-number w1) ∙ ap (λ (y : ℕ). pick b (pick (is_roomless w1) 8 0) y) (whole-number w2) ∙ choose b (is_roomless w1) (is_roomless w2) in
      number-pick (eqb j k) (refuses 5) (unless_full h x)
      ∙ ap (λ (y : ℕ). pick (eqb j k) 5 y) (full-number x ∙ ap (λ (y : ℕ). pick (ltb h.count h.capacity) y 7) i)
      ∙ ap (λ (y : Bool). pick y 5 (pick (ltb h.count h.capacity) (pick (pick b (is_roomless w1) (is_roomless w2)) 8 0) 7)) (sym (e ∙ as_test (eqb j k)))
    where
      as_test : (b : Bool) → pick b true false ≡ b
      as_test true = refl
      as_test false = refl

-- what the number tells
tell : (n : ℕ) (held space lacks : Bool) → n ≡ by_tests held space lacks → Exactly (n ≡ 5) (held ≡ true) × Exactly (n ≡ 7) ((held ≡ false) × (space ≡ false)) × Exactly (n ≡ 8) ((held ≡ false) × (space ≡ true) × (lacks ≡ true)) × (n ≡ 9 → ⊥)
tell n true s l e = ((λ x. refl, λ x. e), (λ x. absurd ((eqb-false 5 7 refl) (sym e ∙ x)), λ x. absurd (true_not_false x.0)), (λ x. absurd ((eqb-false 5 8 refl) (sym e ∙ x)), λ x. absurd (true_not_false x.0)), λ x. (eqb-false 5 9 refl) (sym e ∙ x))
tell n false false l e = ((λ x. absurd ((eqb-false 7 5 refl) (sym e ∙ x)), λ x. absurd (true_not_false (sym x))), (λ x. (refl, refl), λ x. e), (λ x. absurd ((eqb-false 7 8 refl) (sym e ∙ x)), λ x. absurd (true_not_false (sym x.1))), λ x. (eqb-false 7 9 refl) (sym e ∙ x))
tell n false true true e = ((λ x. absurd ((eqb-false 8 5 refl) (sym e ∙ x)), λ x. absurd (true_not_false (sym x))), (λ x. absurd ((eqb-false 8 7 refl) (sym e ∙ x)), λ x. absurd (true_not_false x.1)), (λ x. (refl, refl, refl), λ x. e), λ x. (eqb-false 8 9 refl) (sym e ∙ x))
tell n false true false e = ((λ x. absurd ((eqb-false 0 5 refl) (sym e ∙ x)), λ x. absurd (true_not_false (sym x))), (λ x. absurd ((eqb-false 0 7 refl) (sym e ∙ x)), λ x. absurd (true_not_false x.1)), (λ x. absurd ((eqb-false 0 8 refl) (sym e ∙ x)), λ x. absurd (true_not_false (sym x.2))), λ x. (eqb-false 0 9 refl) (sym e ∙ x))

-- insert's numbers
module _ (h : Handle) (m : Mem) (t : Head) (g : Forest) (d : Good h m t g) (k p : ℕ) (key : k < key_bound) where
  abbrev z : Way h.records h.slots m k t g
  z = on h m t g d k key

  end_is : end_b (sub t g) k ≡ z.end
  end_is = way_end h.records h.slots m k t g z

  not_node : (b : Branch) → End b → (s : Head) (f : Forest) → b ≡ sub s f → ⊥
  not_node null e s f q = subst End q e
  not_node (leaf j v) e s f q = subst End q e
  not_node (sub u v) e s f q = absurd e

  number_is : number_t (insert_t h (sub t g) m.used k p) ≡ by_tests (member k (flat_f g)) (ltb h.count h.capacity) (lacks_room h (sub t g) m.used k p)
  number_is =
      end-number h (sub t g) k p m.used (end_b (sub t g) k) (member k (flat_f g)) (subst⁻¹ (λ (x : Branch). (s : Head) (f : Forest) → x ≡ sub s f → ⊥) end_is (not_node z.end z.is_end))
      (member_is h m t g d k key ∙ ap (λ (x : Branch). member k (flat_b x)) (sym end_is))

  few : h.count ≤ h.capacity
  few = (fits_given h m d.fits).count

  no_space : ltb h.count h.capacity ≡ false → h.count ≡ h.capacity
  no_space e = omega (arith, few, ltb-false h.count h.capacity e)

  numbers : (n : ℕ) → n ≡ number_t (insert_t h (sub t g) m.used k p) → InsertNumbers h m t g k p n
  numbers n e =
      let a = tell n (member k (flat_f g)) (ltb h.count h.capacity) (lacks_room h (sub t g) m.used k p) (e ∙ number_is) in
      record {
        held = a.0;
        full = (λ x. ((a.1.0 x).0, no_space (a.1.0 x).1), λ x. a.1.1 (x.0, le-ltb h.count h.capacity (at_most x.1)));
        lacks = (λ x. ((a.2.0 x).0, ltb-true h.count h.capacity (a.2.0 x).1, (a.2.0 x).2), λ x. a.2.1 (x.0, lt-ltb h.count h.capacity x.1, x.2));
        sound = a.3;
      }
    where
      at_most : h.count ≡ h.capacity → h.capacity ≤ h.count
      at_most e = omega arith

pub insert_refuses : InsertRefuses ours
insert_refuses h m t g d k p key s fits =
    numbers h m t g d k p key (insert_of h k p m s).answer.number (number_leaves h m g k p (insert_of h k p m s) (insert_t h (sub t g) m.used k p) (insert_answers h m t g d k p key s fits))

-- loads
leaves_room : (c : ℕ) (ks ps : List ℕ) (m : Mem) (x : Call) (w : Grown) → LoadLeaves c ks ps m x w → Exactly (x.answer.number ≡ 0) (is_roomless w ≡ false)
leaves_room c ks ps m x (grown null u) a = absurd a
leaves_room c ks ps m x (grown (leaf k p) u) a = absurd a
leaves_room c ks ps m x (grown (sub t g) u) a = (λ e. refl, λ e. ap (λ (y : Answer ℕ). y.number) a.0)
leaves_room c ks ps m x roomless a = (λ e. absurd (eqb-false 8 0 refl (sym (ap (λ (y : Call). y.answer.number) a) ∙ e)), λ e. absurd (true_not_false e))

pub load_accepts : LoadAccepts ours
load_accepts c ks ps m = (
  (λ e.
      let r = right c ks ps m e in
      (r.fits, r.few, r.rises, (leaves_room c ks ps m (load_of c ks ps m) (load_tree ks ps m) (load_answers c ks ps m r.fits r.few r.rises)).0 e)),
  (λ a. (leaves_room c ks ps m (load_of c ks ps m) (load_tree ks ps m) (load_answers c ks ps m a.0 a.1 a.2)).1 a.3),
)

keys-load : (ks ps : List ℕ) → length ps ≡ length ks → keys_of (bulkload ks ps) ≡ ks
keys-load [] ps e = refl
keys-load (k ∷ ks) [] e = absurd (no e)
  where
    no : ◌≡◌ {A = ℕ} 0 (suc (length ks)) → ⊥
    no h = omega arith
keys-load (k ∷ ks) (p ∷ ps) e = ap (λ (l : List ℕ). k ∷ l) (keys-load ks ps (omega arith))

payloads-load : (ks ps : List ℕ) → length ps ≡ length ks → payloads_of (bulkload ks ps) ≡ ps
payloads-load [] [] e = refl
payloads-load [] (p ∷ ps) e = absurd (no e)
  where
    no : suc (length ps) ≡ 0 → ⊥
    no h = omega arith
payloads-load (k ∷ ks) [] e = absurd (no e)
  where
    no : ◌≡◌ {A = ℕ} 0 (suc (length ks)) → ⊥
    no h = omega arith
payloads-load (k ∷ ks) (p ∷ ps) e = ap (λ (l : List ℕ). p ∷ l) (payloads-load ks ps (omega arith))

all-within : (l : Map) → EachKey (λ k. k < key_bound) l → EachKey (λ k. (0 ≤ k) × (k ≤ last_key)) l
all-within [] h = tt
all-within (x ∷ l) h = ((zero-le, omega (arith, h.0)), all-within l h.1)

pub load_lists : LoadLists ours
load_lists c ks ps m z out_k out_p e room =
    let r = right c ks ps m z in
    let k = accepted-keeps c ks ps m z in
    let same = (given c ks ps m r.fits).same in
    let l = bulkload ks ps in
    let ranged : range 0 last_key (flat_f k.slots) ≡ l = ap (range 0 last_key) k.reads ∙ range_every 0 last_key l (all-within l (keys_below ks ps r.rises)) in
    let n : size l ≡ length ks = size-load ks ps same in
    let some : min (length out_k) (size l) ≡ length ks = omega (arith, n) in
    let none : ltb (length out_k) (size l) ≡ false = le-ltb (length out_k) (size l) (omega (arith, n)) in
    let tk : take (length out_k) (keys_of l) ≡ ks = ap (take (length out_k)) (keys-load ks ps same) ∙ take_whole (length out_k) ks room in
    let tp : take (length out_k) (payloads_of l) ≡ ps = ap (take (length out_k)) (payloads-load ks ps same) ∙ take_whole (length out_k) ps (omega arith) in
    band_answers (load_of c ks ps m).handle (load_of c ks ps m).memory k.head k.slots k.good 0 last_key (omega arith) zero-le out_k out_p e
    ∙ ap (λ (x : Map). band_as x out_k out_p) ranged ∙ listed l some none tk tp
  where
    listed : (l : Map) → min (length out_k) (size l) ≡ length ks → ltb (length out_k) (size l) ≡ false → take (length out_k) (keys_of l) ≡ ks → take (length out_k) (payloads_of l) ≡ ps
        → band_as l out_k out_p ≡ band (done (length ks ∷ 0 ∷ [])) (sets out_k 0 ks) (sets out_p 0 ps)
    listed l a b c d = rw (a, b, c, d)

pub image-one : OneImage
image-one h m n t g a b = one_image h.records h.slots m n (sub t g) (good_kept h m t g a) (good_kept h n t g b)

-- a slot whose kind is NULL has no payload
part_less : (a b n : ℕ) → a + b < n → (a < n) × (b < n)
part_less a b n h = (omega arith, omega arith)

cell-null : (c : Branch) → cell_w (in_slot 0) (cell_of c) < kind_unit → (cell_w (in_slot 0) (cell_of c) ≡ 0) × (cell_w (in_slot 1) (cell_of c) ≡ 0)
cell-null null h = (refl, refl)
cell-null (leaf k p) h = absurd (no h)
  where
    no : 1 * 2 ^ 48 + k < 2 ^ 48 → ⊥
    no x = omega arith
cell-null (sub t g) h = absurd (no h)
  where
    no : 2 * 2 ^ 48 + t.at < 2 ^ 48 → ⊥
    no x = omega arith

at_null : (a x : ℕ) (c : Branch) → at a (cell_w (in_slot 0) (cell_of c)) x < kind_unit → (at a (cell_w (in_slot 0) (cell_of c)) x ≡ 0) × (at a (cell_w (in_slot 1) (cell_of c)) x ≡ 0)
unfolding at
at_null a x c = by (eqb x a)
  where
    by : (b : Bool) → pick b (cell_w (in_slot 0) (cell_of c)) 0 < kind_unit → (pick b (cell_w (in_slot 0) (cell_of c)) 0 ≡ 0) × (pick b (cell_w (in_slot 1) (cell_of c)) 0 ≡ 0)
    by true h = cell-null c h
    by false h = (refl, refl)

at_record : (a x i : ℕ) (h : Head) (l : ℕ) → at a (cell_w (in_slot i) (node h l)) x ≡ 0
unfolding at
at_record a x i h l = by (eqb x a)
  where
    by : (b : Bool) → pick {A = ℕ} b 0 0 ≡ 0
    by true = refl
    by false = refl

module _ (R x : ℕ) where
  mutual
    null-b : (b : Branch) → in_b R (cell_w (in_slot 0)) x b < kind_unit → (in_b R (cell_w (in_slot 0)) x b ≡ 0) × (in_b R (cell_w (in_slot 1)) x b ≡ 0)
    null-b null h = (refl, refl)
    null-b (leaf k p) h = (refl, refl)
    null-b (sub t g) h =
        let q = null-f g (R + t.start) (part_less _ _ _ h).1 in
        (omega (arith, at_record t.at x 0 t (len g), q.0), omega (arith, at_record t.at x 1 t (len g), q.1))

    null-f : (f : Forest) (a : ℕ) → in_f R (cell_w (in_slot 0)) x a f < kind_unit → (in_f R (cell_w (in_slot 0)) x a f ≡ 0) × (in_f R (cell_w (in_slot 1)) x a f ≡ 0)
    null-f nil a h = (refl, refl)
    null-f (cons b f) a h =
        let p = part_less _ _ _ h in
        let r = part_less _ _ _ p.1 in
        let u = at_null a x b p.0 in
        let v = null-b b r.0 in
        let w = null-f f (a + 1) r.1 in
        (omega (arith, u.0, v.0, w.0), omega (arith, u.1, v.1, w.1))

pub zeros_elsewhere : ZeroElsewhere
zeros_elsewhere h m t g d = record {
  records = λ r i a b c. sym (view-node R m r i a c) ∙ fine.clean r (bit_zero R m r b) (in_node i);
  slots = λ q i b c. sym (view-slot R m q i c) ∙ fine.clean (R + q) (bit_zero R m (R + q) b) (in_slot i);
  nulls = λ q i b c. null_word q i c (null-b R (R + q) (sub t g) (small q b));
}
  where
    R : ℕ
    R = h.records

    fine : Fine h.records h.slots m
    fine = fine_of h.records h.slots m (sub t g) (good_kept h m t g d)

    word : (q i : ℕ) → i < 2 → get_or m.slots (q * 2 + i) 0 ≡ in_b h.records (cell_w (in_slot i)) (h.records + q) (sub t g)
    word q i c = sym (view-slot h.records m q i c) ∙ d.image (h.records + q) (in_slot i)

    small : (q : ℕ) → get_or m.slots (kind_word q) 0 < kind_unit → in_b h.records (cell_w (in_slot 0)) (h.records + q) (sub t g) < kind_unit
    small q b = subst (λ (x : ℕ). x < kind_unit) (rw add-zero at (word q 0 (omega arith))) b

    null_word : (q i : ℕ) → i < 2 → (in_b h.records (cell_w (in_slot 0)) (h.records + q) (sub t g) ≡ 0) × (in_b h.records (cell_w (in_slot 1)) (h.records + q) (sub t g) ≡ 0) → get_or m.slots (q * 2 + i) 0 ≡ 0
    null_word q zero c z = word q 0 (omega arith) ∙ z.0
    null_word q (suc zero) c z = word q 1 (omega arith) ∙ z.1
    null_word q (suc (suc i)) c z = absurd (no c)
      where
        no : suc (suc i) < 2 → ⊥
        no y = omega arith

pub demand_2 : Demand2 ours
demand_2 = record {
  load = load_answers;
  load_accepts = load_accepts;
  load_lists = load_lists;
  lookup = lookup_answers;
  band = band_answers;
  insert = insert_answers;
  insert_refuses = insert_refuses;
  replace = replace_answers;
  delete = delete_answers;
  one_image = image-one;
  zeros = zeros_elsewhere;
}
