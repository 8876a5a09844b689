-- Demand 3, by induction over the calls of a sequence: each leaves a good tree whose elements are the map along it. Assumes nothing.
use Rattle.std.specs.Prelude.{Option, Some, None}
use mathlib.Core.Bool.{Bool, true, false, ◌&&◌}
use mathlib.Core.List.{List, [], ◌∷◌}
use mathlib.Core.Logic.{◌⊎◌, inl, inr, ⊎_elim}
use mathlib.Core.Path.{◌≡◌, refl, sym, subst, subst⁻¹, ap, ◌∙◌}
use native.Mathlib.Omega.{arith}
use Prim.Native.Nat.{ℕ, zero, suc, ◌+◌, ◌<◌, ◌≤◌}
use lib.Dec.{eqb, ltb, leb}
use lib.ListN.{length, get_or}
use borrow.Author.Tests.{eqb-true, eqb-false, eq-eqb, ne_eqb, ltb-true, leb-true}
use Rattle.delete.specs.Deleting.{one_less, delete_of}
use Rattle.insert.specs.Inserting.{Insert, insertion, insert_of, scratch_fits, not_due, put_off, tidied, whole_tree}
use Rattle.laws.proofs.Tests.{both, and_true}
use Rattle.laws.specs.Answers.{Answer, done, refused, refused_with, damage}
use Rattle.laws.specs.Keys.{key_bound, Rising}
use Rattle.laws.specs.Pick.{pick}
use Rattle.model.specs.Height.{height}
use Rattle.pool.specs.Memory.{Mem}
use Rattle.rebuild.specs.Rebuilding.{Scratch}
use Rattle.store.proofs.Faults.{faultless_rises}
use Rattle.store.specs.Bands.{Band, band, band_of}
use Rattle.store.specs.Calls.{Call, call, search_of, lookup_of, replace_of}
use Rattle.store.specs.Handles.{handle_fits}
use Rattle.store.specs.Loading.{load_fits, load_list, load_of, first_fault}
use Rattle.store.specs.declared.Fault.{Fault}
use Rattle.store.specs.declared.Fault.TheVariants.{OutOfRange as KeyOutOfRange, NotRising as KeyNotRising}
use Rattle.store.specs.declared.Handle.{Handle}
use Rattle.walk.specs.Walks.{longest_path, Walk, walk_of}
use Rattle.demands.specs.Demand2.{found_as, load_tree, LoadLeaves, InsertLeaves, Changes, root_of, same}
use Rattle.demands.specs.Demand3.{Ask, loads, looks, lists, inserts, replaces, deletes, State, state, when_done, after_load, after, after_all, Accepted, loaded_state, NoDamage, Tree, Low, RebuiltWhole, Demand3}
use Rattle.demands.specs.Growing.{Grown, is as grown, no_room as roomless}
use Rattle.demands.specs.Map.{Map, Rises, Found, is, nil as none, member, lookup, insert, delete, update, bulkload, size, keys_of, payloads_of}
use Rattle.demands.specs.Paths.{path_b, below_b, graft_b, graft_end}
use Rattle.demands.specs.Placed.{Head, Branch, null, leaf, sub, Forest, flat_b, flat_f, depth_b, Good, Holds}
use Rattle.demands.specs.Settling.{Settled, refuses, settles, raised, due_b, grow_over, within, stands, tidies, settle, settle_pair, whole, unless_full, insert_t, insert_end}
use Rattle.demands.specs.Stores.{ours}
use Rattle.demands.proofs.Afresh.{rising_of, insert-rises, insert_all, no_room_not}
use Rattle.demands.proofs.Bands.{band_answers, size-keys}
use Rattle.demands.proofs.Calls.{lookup_answers, replace_answers, delete_answers}
use Rattle.demands.proofs.Demand1.{demand_1}
use Rattle.demands.proofs.Depths.{grow-height}
use Rattle.demands.proofs.Fitting.{good_kept}
use Rattle.demands.proofs.Live.{keys-b}
use Rattle.demands.proofs.Loads.{size-load, given, load_answers}
use Rattle.demands.proofs.Plugs.{rises-b, deep_in}
use Rattle.demands.proofs.Reached.{nodes-used, runs-used}
use Rattle.demands.proofs.Settling.{insert_answers}
use Rattle.demands.proofs.Walking.{Kept, records_on, records-length, walk-good}
use Rattle.demands.proofs.Ways.{Way, way, path-plug}

-- what every call keeps: a good tree over the map
pub record Keeps (s : State) : Type 0 where
  pub head : Head
  pub slots : Forest
  pub good : Good s.handle s.memory head slots
  pub reads : flat_f slots ≡ s.map

-- a test of a number that is or is not 0
when-done : {A : Type 0} (a : Answer ℕ) (x y : A) → a.number ≡ 0 → when_done a x y ≡ x
when-done a x y e = ap (λ (b : Bool). pick b x y) (eq-eqb a.number 0 e)

when_not : {A : Type 0} (a : Answer ℕ) (x y : A) → (a.number ≡ 0 → ⊥) → when_done a x y ≡ y
when_not a x y n = ap (λ (b : Bool). pick b x y) (ne_eqb a.number 0 n)

keeps_as : (h h' : Handle) (m m' : Mem) (l l' : Map) → h ≡ h' → m ≡ m' → l ≡ l' → Keeps (state h m l) → Keeps (state h' m' l')
keeps_as h h' m m' l l' a b c k =
    subst (λ (x : Handle). Keeps (state x m' l')) a (subst (λ (x : Mem). Keeps (state h x l')) b (subst (λ (x : Map). Keeps (state h m x)) c k))

-- an accepted load was right
pub record Right (c : ℕ) (ks ps : List ℕ) (m : Mem) : Type 0 where
  pub fits : load_fits c ks ps m ≡ true
  pub few : length ks ≤ c
  pub rises : Rising ks

not_zero : {n : ℕ} → suc n ≡ 0 → ⊥
not_zero e = omega arith

fault_of : (c : ℕ) (ks ps : List ℕ) (m : Mem) (f : Option Fault) → first_fault ks ≡ f → (load_list c ks ps m f).answer.number ≡ 0 → Rising ks
unfolding load_list
fault_of c ks ps m None e z = faultless_rises ks e
fault_of c ks ps m (Some KeyOutOfRange) e z = absurd (not_zero z)
fault_of c ks ps m (Some (KeyNotRising p)) e z = absurd (not_zero z)

pub right : (c : ℕ) (ks ps : List ℕ) (m : Mem) → (load_of c ks ps m).answer.number ≡ 0 → Right c ks ps m
unfolding load_of
right c ks ps m = both (load_fits c ks ps m) fit (λ e. rw e (λ z. absurd (not_zero z)))
  where
    fit : load_fits c ks ps m ≡ true → (load_of c ks ps m).answer.number ≡ 0 → Right c ks ps m
    fit e = rw e (both (leb (length ks) c) (λ l. rw l (λ z. record { fits = e; few = leb-true (length ks) c l; rises = fault_of c ks ps m (first_fault ks) refl z })) (λ l. rw l (λ z. absurd (not_zero z))))

load-keeps : (c : ℕ) (ks ps : List ℕ) (m : Mem) (x : Call) (w : Grown) → x.answer.number ≡ 0 → LoadLeaves c ks ps m x w → Keeps (state x.handle x.memory (bulkload ks ps))
load-keeps c ks ps m x (grown null u) z a = absurd a
load-keeps c ks ps m x (grown (leaf k p) u) z a = absurd a
load-keeps c ks ps m x (grown (sub t g) u) z a = record { head = t; slots = g; good = a.2; reads = a.3 }
load-keeps c ks ps m x roomless z a = absurd (not_zero (sym (ap (λ (y : Call). y.answer.number) a) ∙ z))

pub accepted-keeps : (c : ℕ) (ks ps : List ℕ) (m : Mem) → Accepted ours c ks ps m → Keeps (loaded_state ours c ks ps m)
accepted-keeps c ks ps m z = let r = right c ks ps m z in load-keeps c ks ps m (load_of c ks ps m) (load_tree ks ps m) z (load_answers c ks ps m r.fits r.few r.rises)

-- what a call on a good store comes to: refused, with neither 0 nor 9, and all as it was; or done, over another map
pub record Refusal (n : ℕ) (h h' : Handle) (m m' : Mem) : Type 0 where
  pub some : n ≡ 0 → ⊥
  pub sound : n ≡ damage → ⊥
  pub handle : h' ≡ h
  pub memory : m' ≡ m

pub record Done (n : ℕ) (h' : Handle) (m' : Mem) (l : Map) : Type 0 where
  pub zero : n ≡ 0
  pub keeps : Keeps (state h' m' l)

abbrev Comes : ℕ → Handle → Handle → Mem → Mem → Map → Type 0
Comes n h h' m m' l = Refusal n h h' m m' ⊎ Done n h' m' l

comes_sound : {n : ℕ} {h h' : Handle} {m m' : Mem} {l : Map} → Comes n h h' m m' l → n ≡ damage → ⊥
comes_sound (inl r) e = r.sound e
comes_sound (inr d) e = zero_not d.zero e
  where
    zero_not : {n : ℕ} → n ≡ 0 → n ≡ 9 → ⊥
    zero_not a b = omega arith

-- the state after it
comes_keeps : (a : Answer ℕ) (h h' : Handle) (m m' : Mem) (new old : Map) → Keeps (state h m old) → Comes a.number h h' m m' new → Keeps (state h' m' (when_done a new old))
comes_keeps a h h' m m' new old k (inl r) = keeps_as h h' m m' old (when_done a new old) (sym r.handle) (sym r.memory) (sym (when_not a new old r.some)) k
comes_keeps a h h' m m' new old k (inr d) = keeps_as h' h' m' m' new (when_done a new old) refl refl (sym (when-done a new old d.zero)) d.keeps

-- a band's refusals, one test after the other
module _ (h : Handle) (u v : ℕ) (m : Mem) (ks ps : List ℕ) (fits : handle_fits h m ≡ true) where
  band_wrong : eqb (length ks) (length ps) ≡ false → band_of h u v m ks ps ≡ band (refused 1) ks ps
  unfolding band_of
  band_wrong e = rw (fits, e)

  band-range : eqb (length ks) (length ps) ≡ true → (ltb u key_bound && ltb v key_bound) ≡ false → band_of h u v m ks ps ≡ band (refused 2) ks ps
  unfolding band_of
  band-range e f = rw (fits, e, f)

  band-reversed : eqb (length ks) (length ps) ≡ true → (ltb u key_bound && ltb v key_bound) ≡ true → leb u v ≡ false → band_of h u v m ks ps ≡ band (refused 3) ks ps
  unfolding band_of
  band-reversed e f l = rw (fits, e, f, l)

-- insert's refusals on a good store: 5, 7 and 8
abbrev Small : Settled → Type 0
Small (refuses n) = (1 ≤ n) × (n ≤ 8)
Small (settles c t b) = Unit

small_pick : (b : Bool) (v w : Settled) → Small v → Small w → Small (pick b v w)
small_pick true v w x y = x
small_pick false v w x y = y

small_tidies : (h : Handle) (t : Branch) (k p : ℕ) (c : Bool) (i : ℕ) (n : Branch) (w : Grown) → Small (tidies h t k p c i n w)
small_tidies h t k p c i n (grown b u) = tt
small_tidies h t k p c i n roomless = tt

small_settle : (h : Handle) (t : Branch) (k p : ℕ) (c : Bool) (n : Branch) (u : List ℕ) → Small (settle h t k p c n u)
small_settle h t k p c n u =
    let i = due_b c k t in
    let w = within i (grow_over h u (insert k p (flat_b (below_b t i k)))) in
    small_pick (ltb i (length (path_b k t))) (tidies h t k p c i n w) (stands h t k p c not_due n) (small_tidies h t k p c i n w) tt

small_pair : (h : Handle) (t : Branch) (k p : ℕ) (w : Grown) → Small (settle_pair h t k p w)
small_pair h t k p (grown n u) = small_settle h t k p true n u
small_pair h t k p roomless = (omega arith, omega arith)

small_whole : (w : Grown) → Small (whole w)
small_whole (grown b u) = tt
small_whole roomless = (omega arith, omega arith)

small_full : (h : Handle) (w : Settled) → Small w → Small (unless_full h w)
small_full h w x = small_pick (ltb h.count h.capacity) w (refuses 7) x (omega arith, omega arith)

small_end : (h : Handle) (t : Branch) (u : List ℕ) (k p : ℕ) (b : Branch) → Small (insert_end h t u k p b)
small_end h t u k p null = small_full h (settle h t k p false (leaf k p) u) (small_settle h t k p false (leaf k p) u)
small_end h t u k p (leaf j q) =
    let v = settle_pair h t k p (grow_over h u (insert k p ((j, q) ∷ []))) in
    let w = whole (within 0 (grow_over h u (insert k p (flat_b t)))) in
    let x = pick (ltb (length (path_b k t)) longest_path) v w in
    small_pick (eqb j k) (refuses 5) (unless_full h x) (omega arith, omega arith)
    (small_full h x (small_pick (ltb (length (path_b k t)) longest_path) v w (small_pair h t k p (grow_over h u (insert k p ((j, q) ∷ [])))) (small_whole (within 0 (grow_over h u (insert k p (flat_b t)))))))
small_end h t u k p (sub s g) = (omega arith, omega arith)

module _ (h : Handle) (m : Mem) (t : Head) (g : Forest) (d : Good h m t g) where
  -- insert
  branch_keeps : (h' : Handle) (m' : Mem) (l : Map) (b : Branch) → Holds h' m' b → flat_b b ≡ l → Keeps (state h' m' l)
  branch_keeps h' m' l null x e = absurd x
  branch_keeps h' m' l (leaf j q) x e = absurd x
  branch_keeps h' m' l (sub t' g') x e = record { head = t'; slots = g'; good = x; reads = e }

  settled_comes : (k p : ℕ) (x : Insert) (w : Settled) → Small w → InsertLeaves h m g k p x w → Comes x.answer.number h x.handle m x.memory (insert k p (flat_f g))
  settled_comes k p x (refuses n) s a =
      inl (record {
        some = λ e. no_zero s.0 (sym (ap (λ (y : Answer ℕ). y.number) a.0) ∙ e);
        sound = λ e. no_nine s.1 (sym (ap (λ (y : Answer ℕ). y.number) a.0) ∙ e);
        handle = a.1;
        memory = a.2;
      })
    where
      no_zero : 1 ≤ n → n ≡ 0 → ⊥
      no_zero x e = omega arith

      no_nine : n ≤ 8 → n ≡ 9 → ⊥
      no_nine x e = omega arith
  settled_comes k p x (settles c v b) s a = inr (record { zero = ap (λ (y : Answer ℕ). y.number) a.0; keeps = branch_keeps x.handle x.memory (insert k p (flat_f g)) b a.2 a.3 })

  refused_insert : (k p : ℕ) (z : Scratch) (n : ℕ) → (suc n ≡ 9 → ⊥) → insert_of h k p m z ≡ insertion (refused (suc n)) h m z
      → Comes (insert_of h k p m z).answer.number h (insert_of h k p m z).handle m (insert_of h k p m z).memory (insert k p (flat_f g))
  refused_insert k p z n s e =
      subst⁻¹ (λ (x : Insert). Comes x.answer.number h x.handle m x.memory (insert k p (flat_f g))) e (inl (record { some = λ y. not_zero y; sound = s; handle = refl; memory = refl }))

  insert-range : (k p : ℕ) (z : Scratch) → scratch_fits h.capacity z ≡ true → ltb k key_bound ≡ false → insert_of h k p m z ≡ insertion (refused 2) h m z
  unfolding insert_of
  insert-range k p z e f = rw (d.fits, e, f)

  insert-sizes : (k p : ℕ) (z : Scratch) → scratch_fits h.capacity z ≡ false → insert_of h k p m z ≡ insertion (refused 1) h m z
  unfolding insert_of
  insert-sizes k p z e = rw (d.fits, e)

  insert_comes : (k p : ℕ) (z : Scratch) → Comes (insert_of h k p m z).answer.number h (insert_of h k p m z).handle m (insert_of h k p m z).memory (insert k p (flat_f g))
  insert_comes k p z =
      both (scratch_fits h.capacity z)
      (λ e.
      both (ltb k key_bound)
      (λ f. settled_comes k p (insert_of h k p m z) (insert_t h (sub t g) m.used k p) (small_end h (sub t g) m.used k p (below_b (sub t g) (length (path_b k (sub t g))) k)) (insert_answers h m t g d k p (ltb-true k key_bound f) z e))
      (λ f. refused_insert k p z 1 (eqb-false 2 9 refl) (insert-range k p z e f)))
      (λ e. refused_insert k p z 0 (eqb-false 1 9 refl) (insert-sizes k p z e))

  -- replace and delete
  refused-call : (x : Call) (l : Map) (a : Answer ℕ) → (a.number ≡ 0 → ⊥) → (a.number ≡ 9 → ⊥) → x ≡ call a h m → Comes x.answer.number h x.handle m x.memory l
  refused-call x l a n s e = subst⁻¹ (λ (y : Call). Comes y.answer.number h y.handle m y.memory l) e (inl (record { some = n; sound = s; handle = refl; memory = refl }))

  changes_come : (k : ℕ) (x : Call) (after : Handle) (n : Branch) (l : Map) → Changes h m t g k x after n l → Comes x.answer.number h x.handle m x.memory l
  changes_come k x after n l c = both (member k (flat_f g))
      (λ e. inr (record { zero = ap (λ (y : Answer ℕ). y.number) (c.answers e); keeps = subst⁻¹ (λ (y : Handle). Keeps (state y x.memory l)) (c.handles e) (branch_keeps after x.memory l (graft_end same (sub t g) k n) (c.holds e) (c.lists e)) }))
      (λ e. refused-call x l (refused_with 6 _) (λ y. not_zero y) (eqb-false 6 9 refl) (c.absent e))

  replace_range : (k p : ℕ) → ltb k key_bound ≡ false → replace_of h k p m ≡ call (refused 2) h m
  unfolding replace_of search_of
  replace_range k p f = rw (d.fits, f)

  delete-range : (k : ℕ) → ltb k key_bound ≡ false → delete_of h k m ≡ call (refused 2) h m
  unfolding delete_of search_of
  delete-range k f = rw (d.fits, f)

  lookup-range : (k : ℕ) → ltb k key_bound ≡ false → lookup_of h k m ≡ refused 2
  unfolding lookup_of search_of
  lookup-range k f = rw (d.fits, f)

  replace_comes : (k p : ℕ) → Comes (replace_of h k p m).answer.number h (replace_of h k p m).handle m (replace_of h k p m).memory (update k p (flat_f g))
  replace_comes k p =
      both (ltb k key_bound)
      (λ f. changes_come k (replace_of h k p m) h (leaf k p) (update k p (flat_f g)) (replace_answers h m t g d k p (ltb-true k key_bound f)))
      (λ f. refused-call (replace_of h k p m) (update k p (flat_f g)) (refused 2) (λ y. not_zero y) (eqb-false 2 9 refl) (replace_range k p f))

  delete_comes : (k : ℕ) → Comes (delete_of h k m).answer.number h (delete_of h k m).handle m (delete_of h k m).memory (delete k (flat_f g))
  delete_comes k =
      both (ltb k key_bound)
      (λ f. changes_come k (delete_of h k m) (one_less h) null (delete k (flat_f g)) (delete_answers h m t g d k (ltb-true k key_bound f)))
      (λ f. refused-call (delete_of h k m) (delete k (flat_f g)) (refused 2) (λ y. not_zero y) (eqb-false 2 9 refl) (delete-range k f))

  -- lookup and band
  found-sound : (v : ℕ) (x : Found) → (found_as v x).number ≡ 9 → ⊥
  found-sound v (is p) e = (eqb-false 0 9 refl) e
  found-sound v none e = (eqb-false 6 9 refl) e

  lookup-sound : (k : ℕ) → (lookup_of h k m).number ≡ 9 → ⊥
  lookup-sound k =
      both (ltb k key_bound)
      (λ f e. found-sound (length (path_b k (sub t g))) (lookup k (flat_f g)) (sym (ap (λ (y : Answer ℕ). y.number) (lookup_answers h m t g d k (ltb-true k key_bound f))) ∙ e))
      (λ f e. (eqb-false 2 9 refl) (sym (ap (λ (y : Answer ℕ). y.number) (lookup-range k f)) ∙ e))

  band-sound : (u v : ℕ) (ks ps : List ℕ) → (band_of h u v m ks ps).answer.number ≡ 9 → ⊥
  band-sound u v ks ps = both (eqb (length ks) (length ps)) (λ e. sized e) (λ e q. (eqb-false 1 9 refl) (sym (ap (λ (y : Band). y.answer.number) (band-sizes e)) ∙ q))
    where
      band-sizes : eqb (length ks) (length ps) ≡ false → band_of h u v m ks ps ≡ band (refused 1) ks ps
      band-sizes e = band_wrong h u v m ks ps d.fits e

      sized : eqb (length ks) (length ps) ≡ true → (band_of h u v m ks ps).answer.number ≡ 9 → ⊥
      sized e = both (ltb v key_bound)
          (λ f. both (leb u v)
          (λ l q. (eqb-false 0 9 refl) (sym (ap (λ (y : Band). y.answer.number) (band_answers h m t g d u v (ltb-true v key_bound f) (leb-true u v l) ks ps (sym (eqb-true (length ks) (length ps) e)))) ∙ q))
          (λ l q. reversed_or l f e q))
          (λ f q. (eqb-false 2 9 refl) (sym (ap (λ (y : Band). y.answer.number) (band-range h u v m ks ps d.fits e (and-false (ltb u key_bound) (ltb v key_bound) f))) ∙ q))
        where
          and-false : (a b : Bool) → b ≡ false → (a && b) ≡ false
          and-false true b e = e
          and-false false b e = refl

          reversed_or : leb u v ≡ false → ltb v key_bound ≡ true → eqb (length ks) (length ps) ≡ true → (band_of h u v m ks ps).answer.number ≡ 9 → ⊥
          reversed_or l f e q = both (ltb u key_bound)
              (λ x. (eqb-false 3 9 refl) (sym (ap (λ (y : Band). y.answer.number) (band-reversed h u v m ks ps d.fits e (and_true x f) l)) ∙ q))
              (λ x. (eqb-false 2 9 refl) (sym (ap (λ (y : Band). y.answer.number) (band-range h u v m ks ps d.fits e (first-false x))) ∙ q))
            where
              first-false : ltb u key_bound ≡ false → (ltb u key_bound && ltb v key_bound) ≡ false
              first-false x = rw x

-- one call
keeps-map : {h : Handle} {m : Mem} {l : Map} (k : Keeps (state h m l)) (f : Map → Map) (n : ℕ) (h' : Handle) (m' : Mem) → Comes n h h' m m' (f (flat_f k.slots)) → Comes n h h' m m' (f l)
keeps-map {h} {m} {l} k f n h' m' c = subst (λ (x : Map). Comes n h h' m m' (f x)) k.reads c

load_after : (h : Handle) (m : Mem) (l : Map) (c : ℕ) (ks ps : List ℕ) → Keeps (state h m l) → Keeps (after_load h (bulkload ks ps) l (load_of c ks ps m))
load_after h m l c ks ps k = both (eqb (load_of c ks ps m).answer.number 0)
    (λ e.
    let z = eqb-true (load_of c ks ps m).answer.number 0 e in
    keeps_as _ _ _ _ _ _ (sym (when-done (load_of c ks ps m).answer (load_of c ks ps m).handle h z)) refl (sym (when-done (load_of c ks ps m).answer (bulkload ks ps) l z)) (accepted-keeps c ks ps m z))
    (λ e.
    let n = eqb-false (load_of c ks ps m).answer.number 0 e in
    keeps_as _ _ _ _ _ _ (sym (when_not (load_of c ks ps m).answer (load_of c ks ps m).handle h n)) (sym (demand_1.changes_nothing.load c ks ps m n).1) (sym (when_not (load_of c ks ps m).answer (bulkload ks ps) l n)) k)

after-keeps : (s : State) (a : Ask) → Keeps s → Keeps (after ours s a)
unfolding after
after-keeps s (loads c ks ps) k = load_after s.handle s.memory s.map c ks ps k
after-keeps s (looks j) k = k
after-keeps s (lists u v ks ps) k = k
after-keeps s (inserts j p z) k =
    comes_keeps (insert_of s.handle j p s.memory z).answer s.handle _ s.memory _ (insert j p s.map) s.map k (keeps-map k (insert j p) _ _ _ (insert_comes s.handle s.memory k.head k.slots k.good j p z))
after-keeps s (replaces j p) k =
    comes_keeps (replace_of s.handle j p s.memory).answer s.handle _ s.memory _ (update j p s.map) s.map k (keeps-map k (update j p) _ _ _ (replace_comes s.handle s.memory k.head k.slots k.good j p))
after-keeps s (deletes j) k =
    comes_keeps (delete_of s.handle j s.memory).answer s.handle _ s.memory _ (delete j s.map) s.map k (keeps-map k (delete j) _ _ _ (delete_comes s.handle s.memory k.head k.slots k.good j))

all-keeps : (asks : List Ask) (s : State) → Keeps s → Keeps (after_all ours s asks)
unfolding after_all
all-keeps [] s k = k
all-keeps (a ∷ asks) s k = all-keeps asks (after ours s a) (after-keeps s a k)

-- what a good tree says
module _ (s : State) (k : Keeps s) where
  abbrev t : Head
  t = k.head

  abbrev g : Forest
  g = k.slots

  abbrev h : Handle
  h = s.handle

  abbrev m : Mem
  m = s.memory

  tree_kept : Kept h.records h.slots m (sub t g)
  tree_kept = good_kept h m t g k.good

  way_of : (j : ℕ) → Way h.records h.slots m j t g
  unfolding tree_kept
  way_of j = way h.records h.slots m j t g tree_kept

  path-of : (j : ℕ) → path_b j (sub t g) ≡ records_on ((way_of j).first ∷ (way_of j).rest)
  path-of j = ap (path_b j) (way_of j).eq ∙ path-plug j ((way_of j).first ∷ (way_of j).rest) (way_of j).end (way_of j).follows (way_of j).is_end

  short-path : (j : ℕ) → length (path_b j (sub t g)) ≤ longest_path
  short-path j =
      omega (arith, ap length (path-of j), records-length ((way_of j).first ∷ (way_of j).rest), deep_in ((way_of j).first ∷ (way_of j).rest) (way_of j).end, (way_of j).kept.deep)

  walks : (j : ℕ) → (walk_of m h.root j).path ≡ path_b j (sub t g)
  walks j =
      ap (λ (r : ℕ). (walk_of m r j).path) (k.good.root ∙ (way_of j).root)
      ∙ ap (λ (x : Walk). x.path) (walk-good h.records h.slots m j (way_of j).first (way_of j).rest (way_of j).end (way_of j).is_end (way_of j).follows (way_of j).kept)
      ∙ sym (path-of j)

  pub tree-stands : Tree ours s
  unfolding tree_kept
  tree-stands = record {
    head = t;
    slots = g;
    stands = record {
      good = k.good;
      reads = k.reads;
      rises = subst Rises k.reads (rises-b h.records h.slots (sub t g) k.good.okay);
      nodes = nodes-used h.records h.slots m (sub t g) tree_kept;
      runs = λ q l. runs-used h.records h.slots m (sub t g) tree_kept q;
      short = short-path;
      deep = k.good.deep;
      follows = walks;
      visits = λ j b. lookup_answers h m t g k.good j b ∙ ap (λ (x : Map). found_as (length (path_b j (sub t g))) (lookup j x)) k.reads;
    };
  }

  pub tree-sound : NoDamage ours s
  tree-sound = record {
    look = λ j. lookup-sound h m t g k.good j;
    list = λ u v ks ps. band-sound h m t g k.good u v ks ps;
    insert = λ j p z e. comes_sound (insert_comes h m t g k.good j p z) e;
    replace = λ j p e. comes_sound (replace_comes h m t g k.good j p) e;
    delete = λ j e. comes_sound (delete_comes h m t g k.good j) e;
  }

-- low trees
record LowKeeps (s : State) : Type 0 where
  keeps : Keeps s
  low : depth_b (sub keeps.head keeps.slots) ≤ height (size s.map)

low-tree : (s : State) → LowKeeps s → Low ours s
unfolding tree-stands
low-tree s k = record { tree = tree-stands s k.keeps; low = k.low }

load_low : (c : ℕ) (ks ps : List ℕ) (m : Mem) (x : Call) (w : Grown) → Rising ks → length ps ≡ length ks → load_tree ks ps m ≡ w → x.answer.number ≡ 0 → LoadLeaves c ks ps m x w → LowKeeps (state x.handle x.memory (bulkload ks ps))
load_low c ks ps m x (grown null u) r q e z a = absurd a
load_low c ks ps m x (grown (leaf k p) u) r q e z a = absurd a
load_low c ks ps m x (grown (sub t g) u) r q e z a = record {
  keeps = record { head = t; slots = g; good = a.2; reads = a.3 };
  low = subst⁻¹ (λ (n : ℕ). depth_b (sub t g) ≤ height n) (size-load ks ps q) (grow-height longest_path _ _ _ ks ps (sub t g) u r e);
}
load_low c ks ps m x roomless r q e z a = absurd (not_zero (sym (ap (λ (y : Call). y.answer.number) a) ∙ z))

-- an insert that rebuilt the whole tree
module _ (h : Handle) (m : Mem) (t : Head) (g : Forest) (d : Good h m t g) (k p : ℕ) (key : k < key_bound) where
  abbrev L : Map
  L = insert k p (flat_f g)

  rising-l : Rising (keys_of L)
  rising-l =
      rising_of L (insert-rises k p (flat_f g) (rises-b h.records h.slots (sub t g) d.okay)) (insert_all k p (λ x. x < key_bound) key (flat_f g) (keys-b h.records h.slots (sub t g) d.okay))

  abbrev Lows : Settled → Type 0
  Lows (refuses n) = Unit
  Lows (settles c v b) = (v ≡ whole_tree → depth_b b ≤ height (size L)) × (v ≡ tidied → (root_of b ≡ t.at → ⊥) → depth_b b ≤ height (size L))

  low-grown : (u v : List ℕ) (b : Branch) → grow_over h u L ≡ grown b v → depth_b b ≤ height (size L)
  low-grown u v b e = subst (λ (n : ℕ). depth_b b ≤ height n) (size-keys L) (grow-height longest_path h.records h.slots u (keys_of L) (payloads_of L) b v rising-l e)

  low-pick : (b : Bool) (v w : Settled) → Lows v → Lows w → Lows (pick b v w)
  low-pick true v w x y = x
  low-pick false v w x y = y

  low_stands : (c : Bool) (n : Branch) → Lows (stands h (sub t g) k p c not_due n) × Lows (stands h (sub t g) k p c put_off n)
  low_stands c n = ((λ e. absurd (eqb-false 0 3 refl e), λ e r. absurd (eqb-false 0 1 refl e)), (λ e. absurd (eqb-false 2 3 refl e), λ e r. absurd (eqb-false 2 1 refl e)))

  within_is : (i : ℕ) (w : Grown) (b : Branch) (u : List ℕ) → within i w ≡ grown b u → w ≡ grown b u
  within_is i (grown c v) b u = by (leb (i + depth_b c) longest_path)
    where
      by : (x : Bool) → pick x (grown c v) roomless ≡ grown b u → grown c v ≡ grown b u
      by true e = e
      by false e = absurd (no_room_not e)
  within_is i roomless b u = λ e. absurd (no_room_not e)

  low-tidied : (c : Bool) (i : ℕ) (u v : List ℕ) (b : Branch) → within i (grow_over h u (insert k p (flat_b (below_b (sub t g) i k)))) ≡ grown b v
      → (root_of (graft_b (raised c) (sub t g) i k b) ≡ t.at → ⊥) → depth_b (graft_b (raised c) (sub t g) i k b) ≤ height (size L)
  unfolding graft_b below_b
  low-tidied c zero u v b e r = low-grown u v b (within_is 0 (grow_over h u L) b v e)
  low-tidied c (suc i) u v b e r = absurd (r refl)

  low-tidies : (c : Bool) (i : ℕ) (n : Branch) (u : List ℕ) (w : Grown) → within i (grow_over h u (insert k p (flat_b (below_b (sub t g) i k)))) ≡ w → Lows (tidies h (sub t g) k p c i n w)
  low-tidies c i n u (grown b v) e = (λ x. absurd ((eqb-false 1 3 refl) x), λ x r. low-tidied c i u v b e r)
  low-tidies c i n u roomless e = (low_stands c n).1

  low-settle : (c : Bool) (n : Branch) (u : List ℕ) → Lows (settle h (sub t g) k p c n u)
  low-settle c n u =
      let i = due_b c k (sub t g) in
      let w = within i (grow_over h u (insert k p (flat_b (below_b (sub t g) i k)))) in
      low-pick (ltb i (length (path_b k (sub t g)))) (tidies h (sub t g) k p c i n w) (stands h (sub t g) k p c not_due n) (low-tidies c i n u w refl) (low_stands c n).0

  low-pair : (w : Grown) → Lows (settle_pair h (sub t g) k p w)
  low-pair (grown n u) = low-settle true n u
  low-pair roomless = tt

  low-whole : (u : List ℕ) (w : Grown) → within 0 (grow_over h u L) ≡ w → Lows (whole w)
  low-whole u (grown b v) e = (λ x. low-grown u v b (within_is 0 (grow_over h u L) b v e), λ x r. absurd ((eqb-false 3 1 refl) x))
  low-whole u roomless e = tt

  low-full : (w : Settled) → Lows w → Lows (unless_full h w)
  low-full w x = low-pick (ltb h.count h.capacity) w (refuses 7) x tt

  low_end : (u : List ℕ) (b : Branch) → Lows (insert_end h (sub t g) u k p b)
  low_end u null = low-full (settle h (sub t g) k p false (leaf k p) u) (low-settle false (leaf k p) u)
  low_end u (leaf j q) =
      let v = settle_pair h (sub t g) k p (grow_over h u (insert k p ((j, q) ∷ []))) in
      let w = whole (within 0 (grow_over h u L)) in
      let x = pick (ltb (length (path_b k (sub t g))) longest_path) v w in
      low-pick (eqb j k) (refuses 5) (unless_full h x) tt
      (low-full x (low-pick (ltb (length (path_b k (sub t g))) longest_path) v w (low-pair (grow_over h u (insert k p ((j, q) ∷ [])))) (low-whole u (within 0 (grow_over h u L)) refl)))
  low_end u (sub s f) = tt

  -- the answer tells which it was
  number_of : {a b : Answer ℕ} → a ≡ b → a.number ≡ b.number
  number_of e = ap (λ (y : Answer ℕ). y.number) e

  branch-low : (h' : Handle) (m' : Mem) (b : Branch) → Holds h' m' b → flat_b b ≡ L → depth_b b ≤ height (size L) → LowKeeps (state h' m' L)
  branch-low h' m' null x e z = absurd x
  branch-low h' m' (leaf j q) x e z = absurd x
  branch-low h' m' (sub t' g') x e z = record { keeps = record { head = t'; slots = g'; good = x; reads = e }; low = z }

  settled-low : (x : Insert) (w : Settled) → Small w → Lows w → InsertLeaves h m g k p x w → (c : ℕ) → (x.answer ≡ done (c ∷ whole_tree ∷ [])) ⊎ ((x.answer ≡ done (c ∷ tidied ∷ [])) × (x.handle.root ≡ h.root → ⊥))
      → LowKeeps (state x.handle x.memory L)
  settled-low x (refuses n) s l a c e = absurd (no s.0 (⊎_elim (λ y. sym (number_of a.0) ∙ number_of y) (λ y. sym (number_of a.0) ∙ number_of y.0) e))
    where
      no : 1 ≤ n → n ≡ 0 → ⊥
      no y z = omega arith
  settled-low x (settles c' v b) s l a c e =
      branch-low x.handle x.memory b a.2 a.3
      (⊎_elim (λ y. l.0 (second (sym a.0 ∙ y))) (λ y. l.1 (second (sym a.0 ∙ y.0)) (λ r. y.1 (root_was r))) e)
    where
      second : {c d v w : ℕ} → done (c ∷ v ∷ []) ≡ done (d ∷ w ∷ []) → v ≡ w
      second q = ap (λ (y : Answer ℕ). get_or y.values 1 0) q

      root_was : root_of b ≡ t.at → x.handle.root ≡ h.root
      root_was r = ap (λ (y : Handle). y.root) a.1 ∙ r ∙ sym d.root

rebuilt-low : (h : Handle) (m : Mem) (t : Head) (g : Forest) → Good h m t g → (k p : ℕ) (z : Scratch) (c : ℕ)
    → ((insert_of h k p m z).answer ≡ done (c ∷ whole_tree ∷ [])) ⊎ (((insert_of h k p m z).answer ≡ done (c ∷ tidied ∷ [])) × ((insert_of h k p m z).handle.root ≡ h.root → ⊥))
    → LowKeeps (state (insert_of h k p m z).handle (insert_of h k p m z).memory (insert k p (flat_f g)))
rebuilt-low h m t g d k p z c e =
    both (scratch_fits h.capacity z)
    (λ f.
    both (ltb k key_bound)
    (λ b.
    let key = ltb-true k key_bound b in
    settled-low h m t g d k p key (insert_of h k p m z) (insert_t h (sub t g) m.used k p) (small_end h (sub t g) m.used k p (below_b (sub t g) (length (path_b k (sub t g))) k)) (low_end h m t g d k p key m.used (below_b (sub t g) (length (path_b k (sub t g))) k))
    (insert_answers h m t g d k p key z f) c e)
    (λ b. absurd (not_zero (sym (ap (λ (y : Insert). y.answer.number) (insert-range h m t g d k p z f b)) ∙ done-number))))
    (λ f. absurd (not_zero (sym (ap (λ (y : Insert). y.answer.number) (insert-sizes h m t g d k p z f)) ∙ done-number)))
  where
    done-number : (insert_of h k p m z).answer.number ≡ 0
    done-number = ⊎_elim (λ y. ap (λ (q : Answer ℕ). q.number) y) (λ y. ap (λ (q : Answer ℕ). q.number) y.0) e

low-after : (s : State) (k : Keeps s) (j p : ℕ) (z : Scratch) → RebuiltWhole ours s j p z → LowKeeps (after ours s (inserts j p z))
unfolding after
low-after s k j p z r =
    let x = insert_of s.handle j p s.memory z in
    let a = rebuilt-low s.handle s.memory k.head k.slots k.good j p z r.0 r.1 in
    let n : x.answer.number ≡ 0 = ⊎_elim (λ y. ap (λ (q : Answer ℕ). q.number) y) (λ y. ap (λ (q : Answer ℕ). q.number) y.0) r.1 in
    subst⁻¹ (λ (l : Map). LowKeeps (state x.handle x.memory l)) (when-done x.answer (insert j p s.map) s.map n) (subst (λ (l : Map). LowKeeps (state x.handle x.memory (insert j p l))) k.reads a)

pub demand_3 : Demand3 ours
demand_3 = record {
  stands = λ c ks ps m z asks. tree-stands _ (all-keeps asks (loaded_state ours c ks ps m) (accepted-keeps c ks ps m z));
  no_damage = λ c ks ps m z asks. tree-sound _ (all-keeps asks (loaded_state ours c ks ps m) (accepted-keeps c ks ps m z));
  low_load = λ c ks ps m z.
      let r = right c ks ps m z in
      low-tree (loaded_state ours c ks ps m) (load_low c ks ps m (load_of c ks ps m) (load_tree ks ps m) r.rises (given c ks ps m r.fits).same refl z (load_answers c ks ps m r.fits r.few r.rises));
  low-rebuild = λ c ks ps m z asks k p y r.
      low-tree _ (low-after (after_all ours (loaded_state ours c ks ps m) asks) (all-keeps asks (loaded_state ours c ks ps m) (accepted-keeps c ks ps m z)) k p y r);
}
