-- Insert: its answer goes by its causes, a refusal keeps handle and memory, and scratch is wiped exactly where a rebuild was tried. By the
-- parts of its definition, over plain variables. Assumes nothing.
use Rattle.std.specs.Prelude.{None, Option, Some}
use mathlib.Core.Bool.{Bool, true, false, ◌&&◌, ◌||◌, not}
use mathlib.Core.List.{List, [], ◌∷◌, ◌++◌}
use mathlib.Core.Logic.{⊎_elim}
use mathlib.Core.Path.{◌≡◌, refl, sym, ◌∙◌}
use Prim.Native.Nat.{ℕ, zero, suc, ◌+◌, ◌<◌, ◌≤◌}
use native.Mathlib.Omega.{arith}
use borrow.Author.Tests.{leb-true, leb-false, eqb-true, eqb-false, lt-ltb, le-ltb}
use lib.Dec.{ltb, leb, eqb}
use lib.ListN.{length, get_or, replicate, length-replicate}
use lib.Seq.{sets, sets-eq}
use Rattle.counters.specs.Counters.{due_in}
use Rattle.demands.proofs.Refusals.{in_turn, unless, none-holds, at_once, skip, not_below, below}
use Rattle.demands.specs.Demand1.{KeepsAll, tried, tried_over, zeros, zeroed}
use Rattle.demands.specs.Refusals.{refuse, GoesBy, is_roomless, is_damage, holds_key, path_to, too_deep, rebuilt_at, lacks_room, insert_causes}
use Rattle.insert.proofs.Leaves.{scratch_given}
use Rattle.insert.specs.Inserting.{Insert, scratch_fits, Fresh, fresh, held_payload, sound_due, standing, replaced, tidy_ends, tidy_of, pair_ends, settle_at, settle_of, whole_ends, whole_of, unless_full, insert_end, insert_of}
use Rattle.laws.proofs.Tests.{both, pick_in, true_not_false, and_both, le_or_lt}
use Rattle.laws.specs.Answers.{Answer, held, full, no_room, damage}
use Rattle.laws.specs.Keys.{key_bound}
use Rattle.laws.specs.Pick.{pick}
use Rattle.pool.specs.Memory.{Mem}
use Rattle.rebuild.proofs.Gathering.{with_few}
use Rattle.rebuild.specs.Pairs.{pair_if}
use Rattle.rebuild.specs.Rebuilding.{sound_below, keys_with, Scratch, wiped, rebuild_over, rebuild_of}
use Rattle.store.proofs.Fitting.{fits_given}
use Rattle.store.specs.Handles.{handle_fits}
use Rattle.store.specs.declared.Handle.{Handle}
use Rattle.walk.specs.Walks.{longest_path, step_of, Walk, walk, after, walk_from, walk_of}
use Rattle.walk.specs.declared.End.{End}
use Rattle.walk.specs.declared.End.TheVariants.{Empty, Key, Damage}
use Rattle.walk.specs.declared.Step.{Step}
use Rattle.walk.specs.declared.Step.TheVariants.{Down, Stop}

-- "the root being the first"
after_first : (x : ℕ) (s : Step) (p : List ℕ) (go : ℕ → Walk) → get_or p 0 0 ≡ x → ((c : ℕ) → get_or (go c).path 0 0 ≡ x) → get_or (after s p go).path 0 0 ≡ x
unfolding after
after_first x (Down c) p go e f = f c
after_first x (Stop s) p go e f = e

module _ (m : Mem) (k : ℕ) where
  first_stays : (f r x : ℕ) (p : List ℕ) → get_or (walk_from m k f r (x ∷ p)).path 0 0 ≡ x
  unfolding walk_from
  first_stays zero r x p = refl
  first_stays (suc f) r x p = after_first x (step_of m r k) _ _ refl (λ c. first_stays f c x (p ++ (r ∷ [])))

  pub root-first : (root : ℕ) → get_or (walk_of m root k).path 0 0 ≡ root
  unfolding walk_of walk_from
  root-first root = after_first root (step_of m root k) (root ∷ []) _ refl (λ c. first_stays 23 c root [])

-- a tidying is never refused
module _ (h : Handle) (f : Fresh) (i q c : ℕ) where
  ends-done : (b : Option ℕ) (m : Mem) (s : Scratch) → (tidy_ends h f i q c b m s).answer.number ≡ 0
  unfolding tidy_ends replaced standing
  ends-done (Some r) m s = refl
  ends-done None m s = refl

  tidy-done : (before m : Mem) (s : Scratch) → (tidy_of h f i q c before m s).answer.number ≡ 0
  unfolding tidy_of standing
  tidy-done before m s = pick_in (λ (x : Insert). x.answer.number ≡ 0) (ltb i (length f.path)) _ _ (ends-done _ _ _) refl

-- the causes of an insert, from the end of its path on
module _ (h : Handle) (m : Mem) (s : Scratch) where
  pair-order : (f : Fresh) (i q : ℕ) (b : Option ℕ) (m' : Mem) → GoesBy (refuse no_room (is_roomless b) ∷ []) (pair_ends h f i q m s b m').answer
  unfolding pair_ends
  pair-order f i q (Some c) m' = skip _ _ _ _ (none-holds _ (tidy-done h f i q c m m' s))
  pair-order f i q None m' = at_once _ _ _

  settle-order : (f : Fresh) (i : ℕ)
      → GoesBy (refuse damage (not (sound_due h.capacity f.key f.path i m)) ∷ refuse no_room (is_roomless (pair_if f.conflict f.key f.payload f.other (held_payload f m) m).built) ∷ []) (settle_at h f i m s).answer
  unfolding settle_at
  settle-order f i = unless _ _ (sound_due h.capacity f.key f.path i m) _ _ (λ e. rw e) (λ e. rw e (pair-order f i _ _ _))

  module _ (k p : ℕ) where
    whole_ends-order : (b : Option ℕ) (m' : Mem) (s' : Scratch) → GoesBy (refuse no_room (is_roomless b) ∷ []) (whole_ends h m b m' s').answer
    unfolding whole_ends
    whole_ends-order (Some r) m' s' = skip _ _ _ _ (none-holds _ refl)
    whole_ends-order None m' s' = at_once _ _ _

    whole-order : GoesBy (refuse damage (not (sound_below h.capacity k 0 h.root m)) ∷ refuse no_room (is_roomless (rebuild_of h.capacity k p 0 h.root m s).out.built) ∷ []) (whole_of h k p m s).answer
    unfolding whole_of
    whole-order = unless _ _ (sound_below h.capacity k 0 h.root m) _ _ (λ e. rw e) (λ e. rw e (whole_ends-order _ _ _))

    -- where the path has 24 nodes, the subtree to be rebuilt is the root's
    deep-sound : (path : List ℕ) → longest_path ≤ length path → get_or path 0 0 ≡ h.root → sound_due h.capacity k path 0 m ≡ sound_below h.capacity k 0 h.root m
    unfolding sound_due
    deep-sound path l e = rw (lt-ltb 0 (length path) (omega arith), e)

    module _ (path : List ℕ) (root : get_or path 0 0 ≡ h.root) (count : h.count ≤ h.capacity) where
      space : eqb h.count h.capacity ≡ false → ltb h.count h.capacity ≡ true
      space e = lt-ltb h.count h.capacity (smaller h.count h.capacity count (eqb-false h.count h.capacity e))
        where
          smaller : (a b : ℕ) → a ≤ b → (a ≡ b → ⊥) → a < b
          smaller a b le n = ⊎_elim (λ g. absurd (n (omega arith))) (λ g. g) (le_or_lt b a)

      no_space : eqb h.count h.capacity ≡ true → ltb h.count h.capacity ≡ false
      no_space e = le-ltb h.count h.capacity (omega (arith, eqb-true h.count h.capacity e))

      -- the causes after 5, of what the path's end asks for
      full-order : (x : End) (y : Insert)
          → GoesBy (refuse damage (not (sound_due h.capacity k path (rebuilt_at m (walk x path)) m)) ∷ refuse no_room (lacks_room h k p m s (walk x path)) ∷ []) y.answer
          → GoesBy
          (refuse full (eqb h.count h.capacity) ∷ refuse damage (not (sound_due h.capacity k path (rebuilt_at m (walk x path)) m))
          ∷ refuse no_room (lacks_room h k p m s (walk x path)) ∷ [])
          (unless_full h m s y).answer
      unfolding unless_full
      full-order x y o = in_turn _ _ (eqb h.count h.capacity) _ _ (λ e. rw (no_space e)) (λ e. rw (space e) o)

      conflict-order : (q j : ℕ)
          → GoesBy (refuse damage (not (sound_due h.capacity k path (rebuilt_at m (walk (Key q j) path)) m)) ∷ refuse no_room (lacks_room h k p m s (walk (Key q j) path)) ∷ [])
          (pick (ltb (length path) longest_path) (settle_of h (fresh k p q true j path) m s) (whole_of h k p m s)).answer
      unfolding settle_of pair_if
      conflict-order q j =
          both (leb longest_path (length path))
          (λ l.
          let n : longest_path ≤ length path = leb-true longest_path (length path) l in
          rw (l, le-ltb (length path) longest_path n, deep-sound path n root) whole-order)
          (λ l. rw (l, lt-ltb (length path) longest_path (leb-false longest_path (length path) l)) (settle-order (fresh k p q true j path) (due_in m.nodes true path)))

      end-order : (x : End)
          → GoesBy
          (refuse damage (is_damage x) ∷ refuse held (holds_key k x) ∷ refuse full (eqb h.count h.capacity)
          ∷ refuse damage (not (sound_due h.capacity k path (rebuilt_at m (walk x path)) m)) ∷ refuse no_room (lacks_room h k p m s (walk x path)) ∷ [])
          (insert_end h k p m s path x).answer
      unfolding insert_end settle_of pair_if
      end-order (Damage c) = at_once _ _ _
      end-order (Empty q) = skip _ _ _ _ (skip _ _ _ _ (full-order (Empty q) _ (settle-order (fresh k p q false 0 path) (due_in m.nodes false path))))
      end-order (Key q j) = skip _ _ _ _ (in_turn _ _ (eqb j k) _ _ (λ d. rw d) (λ d. rw d (full-order (Key q j) _ (conflict-order q j))))

pub insert-order : (h : Handle) (k p : ℕ) (m : Mem) (s : Scratch) → GoesBy (insert_causes h k p m s) (insert_of h k p m s).answer
unfolding insert_of
insert-order h k p m s =
    unless _ _ (handle_fits h m && scratch_fits h.capacity s) _ _ (λ e. rw e)
    (λ e.
    in_turn _ _ _ _ _ (λ f. rw (e, not_below k key_bound f))
    (λ f.
    let g = and_both (handle_fits h m) (scratch_fits h.capacity s) e in
    rw (e, below k key_bound f)
    (end-order h m s k p (walk_of m h.root k).path (root-first m k h.root) (fits_given h m g.0).count (walk_of m h.root k).end)))

-- a refusal keeps the handle and the memory
module _ (h : Handle) (m : Mem) where
  module _ (s : Scratch) where
    pair_keeps : (f : Fresh) (i q : ℕ) (b : Option ℕ) (m' : Mem) → KeepsAll h m (pair_ends h f i q m s b m')
    unfolding pair_ends
    pair_keeps f i q (Some c) m' = λ r. absurd (r (tidy-done h f i q c m m' s))
    pair_keeps f i q None m' = λ r. (refl, refl)

    settle-keeps : (f : Fresh) → KeepsAll h m (settle_of h f m s)
    unfolding settle_of settle_at
    settle-keeps f = pick_in (KeepsAll h m) (sound_due h.capacity f.key f.path (due_in m.nodes f.conflict f.path) m) _ _ (pair_keeps f _ _ _ _) (λ r. (refl, refl))

    whole_ends_keep : (b : Option ℕ) (m' : Mem) (s' : Scratch) → KeepsAll h m (whole_ends h m b m' s')
    unfolding whole_ends
    whole_ends_keep (Some r) m' s' = λ r. absurd (r refl)
    whole_ends_keep None m' s' = λ r. (refl, refl)

    module _ (k p : ℕ) where
      whole-keeps : KeepsAll h m (whole_of h k p m s)
      unfolding whole_of
      whole-keeps = pick_in (KeepsAll h m) (sound_below h.capacity k 0 h.root m) _ _ (whole_ends_keep _ _ _) (λ r. (refl, refl))

      full-keeps : (x : Insert) → KeepsAll h m x → KeepsAll h m (unless_full h m s x)
      unfolding unless_full
      full-keeps x e = pick_in (KeepsAll h m) (ltb h.count h.capacity) _ _ e (λ r. (refl, refl))

      end-keeps : (path : List ℕ) (x : End) → KeepsAll h m (insert_end h k p m s path x)
      unfolding insert_end
      end-keeps path (Damage c) = λ r. (refl, refl)
      end-keeps path (Empty q) = full-keeps _ (settle-keeps _)
      end-keeps path (Key q j) =
          pick_in (KeepsAll h m) (eqb j k) _ _ (λ r. (refl, refl))
          (full-keeps _ (pick_in (KeepsAll h m) (ltb (length path) longest_path) _ _ (settle-keeps _) whole-keeps))

      pub insert-keeps : KeepsAll h m (insert_of h k p m s)
      unfolding insert_of
      insert-keeps =
          pick_in (KeepsAll h m) (handle_fits h m && scratch_fits h.capacity s) _ _
          (pick_in (KeepsAll h m) (ltb k key_bound) _ _ (end-keeps _ _) (λ r. (refl, refl))) (λ r. (refl, refl))

-- Scratch: wiped over n keys where a rebuild was tried, and as it was elsewhere. `deep` says that the whole tree was to be rebuilt.
abbrev tried_by : Bool → Answer ℕ → Bool
tried_by deep a = eqb a.number 0 && leb 1 (get_or a.values 1 0) || eqb a.number no_room && deep

record Wipes (deep : Bool) (n : ℕ) (s : Scratch) (x : Insert) : Type 0 where
  rebuilt : tried_by deep x.answer ≡ true → x.scratch ≡ wiped n s
  untouched : tried_by deep x.answer ≡ false → x.scratch ≡ s

wipes : (deep : Bool) (n : ℕ) (s : Scratch) (x : Insert) → tried_by deep x.answer ≡ true → x.scratch ≡ wiped n s → Wipes deep n s x
wipes deep n s x t e = record { rebuilt = λ _. e; untouched = λ f. absurd (true_not_false (sym t ∙ f)) }

wipes_not : (deep : Bool) (n : ℕ) (s : Scratch) (x : Insert) → tried_by deep x.answer ≡ false → x.scratch ≡ s → Wipes deep n s x
wipes_not deep n s x t e = record { rebuilt = λ f. absurd (true_not_false (sym f ∙ t)); untouched = λ _. e }

module _ (h : Handle) (s : Scratch) where
  ends-wipe : (f : Fresh) (i q c n : ℕ) (b : Option ℕ) (m : Mem) → Wipes false n s (tidy_ends h f i q c b m (wiped n s))
  unfolding tidy_ends replaced standing
  ends-wipe f i q c n (Some r) m = wipes false n s _ refl refl
  ends-wipe f i q c n None m = wipes false n s _ refl refl

  module _ (m : Mem) where
    abbrev live_keys : Fresh → ℕ → ℕ
    live_keys f i = length (keys_with h.capacity f.key i (get_or f.path i 0) m)

    tidy_wipes : (f : Fresh) (i q c : ℕ) (m' : Mem) → Wipes false (live_keys f i) s (tidy_of h f i q c m m' s)
    unfolding tidy_of standing rebuild_over
    tidy_wipes f i q c m' =
        pick_in (Wipes false (live_keys f i) s) (ltb i (length f.path)) _ _ (ends-wipe f i q c _ _ _) (wipes_not false _ s _ refl refl)

    pair_wipes : (f : Fresh) (i q : ℕ) (b : Option ℕ) (m' : Mem) → Wipes false (live_keys f i) s (pair_ends h f i q m s b m')
    unfolding pair_ends
    pair_wipes f i q (Some c) m' = tidy_wipes f i q c m'
    pair_wipes f i q None m' = wipes_not false _ s _ refl refl

    settle_wipes : (f : Fresh) (i : ℕ) → Wipes false (live_keys f i) s (settle_at h f i m s)
    unfolding settle_at
    settle_wipes f i =
        pick_in (Wipes false (live_keys f i) s) (sound_due h.capacity f.key f.path i m) _ _ (pair_wipes f i _ _ _) (wipes_not false _ s _ refl refl)

    whole_ends-wipe : (n : ℕ) (b : Option ℕ) (m' : Mem) → Wipes true n s (whole_ends h m b m' (wiped n s))
    unfolding whole_ends
    whole_ends-wipe n (Some r) m' = wipes true n s _ refl refl
    whole_ends-wipe n None m' = wipes true n s _ refl refl

    module _ (k p : ℕ) where
      whole_wipes : Wipes true (length (keys_with h.capacity k 0 h.root m)) s (whole_of h k p m s)
      unfolding whole_of rebuild_of rebuild_over
      whole_wipes =
          pick_in (Wipes true (length (keys_with h.capacity k 0 h.root m)) s) (sound_below h.capacity k 0 h.root m) _ _
          (whole_ends-wipe _ _ _) (wipes_not true _ s _ refl refl)

      full_wipes : (deep : Bool) (n : ℕ) (x : Insert) → Wipes deep n s x → Wipes deep n s (unless_full h m s x)
      unfolding unless_full
      full_wipes deep n x e = pick_in (Wipes deep n s) (ltb h.count h.capacity) _ _ e (wipes_not deep n s _ refl refl)

      module _ (path : List ℕ) (root : get_or path 0 0 ≡ h.root) where
        conflict_wipes : (q j : ℕ)
            → Wipes (too_deep (walk (Key q j) path)) (tried_over h k m (walk (Key q j) path)) s
            (pick (ltb (length path) longest_path) (settle_of h (fresh k p q true j path) m s) (whole_of h k p m s))
        unfolding settle_of pair_if
        conflict_wipes q j =
            both (leb longest_path (length path))
            (λ l. rw (l, le-ltb (length path) longest_path (leb-true longest_path (length path) l), root) whole_wipes)
            (λ l. rw (l, lt-ltb (length path) longest_path (leb-false longest_path (length path) l)) (settle_wipes (fresh k p q true j path) (due_in m.nodes true path)))

        end_wipes : (x : End) → Wipes (too_deep (walk x path)) (tried_over h k m (walk x path)) s (insert_end h k p m s path x)
        unfolding insert_end settle_of pair_if
        end_wipes (Damage c) = wipes_not _ _ s _ refl refl
        end_wipes (Empty q) = full_wipes _ _ _ (settle_wipes (fresh k p q false 0 path) (due_in m.nodes false path))
        end_wipes (Key q j) =
            pick_in (Wipes (too_deep (walk (Key q j) path)) (tried_over h k m (walk (Key q j) path)) s) (eqb j k) _ _
            (wipes_not _ _ s _ refl refl) (full_wipes _ _ _ (conflict_wipes q j))

      insert_wipes : Wipes (too_deep (path_to h k m)) (tried_over h k m (path_to h k m)) s (insert_of h k p m s)
      unfolding insert_of
      insert_wipes =
          pick_in (Wipes (too_deep (path_to h k m)) (tried_over h k m (path_to h k m)) s) (handle_fits h m && scratch_fits h.capacity s) _ _
          (pick_in (Wipes (too_deep (path_to h k m)) (tried_over h k m (path_to h k m)) s) (ltb k key_bound) _ _
          (end_wipes (path_to h k m).path (root-first m k h.root) (path_to h k m).end) (wipes_not _ _ s _ refl refl))
          (wipes_not _ _ s _ refl refl)

      pub insert-untouched : tried (path_to h k m) (insert_of h k p m s).answer ≡ false → (insert_of h k p m s).scratch ≡ s
      insert-untouched e = insert_wipes.untouched e

-- zeros from the front are zeros and then the rest
wiped-list : (n : ℕ) (l : List ℕ) → n ≤ length l → sets l 0 (replicate n 0) ≡ zeros n l
wiped-list n l h =
    let z : 0 + n ≡ n = omega arith in
    rw (sets-eq (replicate n 0) l 0 (rw (length-replicate {A = ℕ} n 0, z) h), length-replicate {A = ℕ} n 0, z)

wiped-zeroed : (n : ℕ) (s : Scratch) → n ≤ length s.keys → length s.payloads ≡ length s.keys → length s.places ≡ length s.keys → wiped n s ≡ zeroed n s
unfolding wiped
wiped-zeroed n s h p q =
    rw (wiped-list n s.keys h, wiped-list n s.payloads (omega arith), wiped-list n s.places (omega arith))

module _ (h : Handle) (k p : ℕ) (m : Mem) (s : Scratch) where
  sizes : (handle_fits h m && scratch_fits h.capacity s) ≡ false → tried (path_to h k m) (insert_of h k p m s).answer ≡ false
  unfolding insert_of
  sizes f = rw f

  pub insert-rebuilt : tried (path_to h k m) (insert_of h k p m s).answer ≡ true → (insert_of h k p m s).scratch ≡ zeroed (tried_over h k m (path_to h k m)) s
  insert-rebuilt e =
      both (handle_fits h m && scratch_fits h.capacity s)
      (λ f.
      let g = and_both (handle_fits h m) (scratch_fits h.capacity s) f in
      let c = scratch_given h.capacity s.keys s.payloads s.places g.1 in
      let n : tried_over h k m (path_to h k m) ≤ h.capacity = with_few h.capacity k _ _ _ (fits_given h m g.0).limits.capacity-least in
      (insert_wipes h s m k p).rebuilt e ∙ wiped-zeroed (tried_over h k m (path_to h k m)) s (omega (arith, c.0)) c.1 c.2)
      (λ f. absurd (true_not_false (sym e ∙ sizes f)))
