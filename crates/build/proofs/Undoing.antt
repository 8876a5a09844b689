-- Marks made and undone: a size placed and its word undone leave the map as it was, and so do the words of a whole list; what is
-- left to place at each turn is what was to be placed at first. Laws over plain variables for the proofs of the module room.
-- Assumes nothing.
use mathlib.Core.Bool.{true, false}
use mathlib.Core.List.{List, [], ◌∷◌, ◌++◌}
use mathlib.Core.Logic.{⊎_elim, inl, inr}
use mathlib.Core.Path.{◌≡◌, refl, sym, ap, ◌∙◌}
use Prim.Native.Nat.{ℕ, zero, suc, ◌+◌, ◌*◌, ◌-◌, ◌/◌, ◌%◌, ◌^◌, ◌<◌, ◌≤◌}
use native.Mathlib.Numerals.{add-one}
use native.Mathlib.Omega.{arith}
use borrow.Author.Tests.{eqb-true, eqb-false, eq-eqb, ne_eqb, ltb-true, lt-ltb, le-ltb}
use lib.Dec.{eqb, ltb}
use lib.ListN.{length, get_or, set, take, drop, replicate, length-set, length-drop, length-replicate, drop_of_length-le}
use lib.Seq.{sets, sets-eq, get_or-set_same, get_or-set_other, get_or-drop, get_or-take, drop-cons, length-take-le, ext_get_or}
use Rattle.laws.proofs.Tests.{both, le_or_lt}
use Rattle.marks.specs.Used.{used_at, mark_at, mark_run, clear_at, clear_run, first_unused, lowest_run}
use Rattle.std.proofs.Common.{None, Option, Some}
use Rattle.marks.proofs.Lowest.{first_unused_at, lowest_run_finds, lowest_run-full}
use Rattle.marks.proofs.Marks.{Words, mark-same, mark-other, mark-length, mark-words, used-within, clear-mark}
use Rattle.marks.proofs.Runs.{free_run_at, free_run_is, mark_run_in, mark_run-out, mark_run-length, mark_run-words, clear-mark_run}
use Rattle.build.specs.Room.{place_all, Placed, at_run}
use Rattle.build.specs.Undoing.{
  Mapped,
  Sought,
  Asked,
  Undoable,
  Tried,
  Judged,
  spot_on,
  spot_for,
  marked_by,
  word_of,
  undo_word,
  undone_by,
}
use Rattle.build.specs.declared.room.Spot.{Spot}

-- a spot made of its numbers
abbrev pub spot_at : ℕ → ℕ → ℕ → Spot
spot_at r s f = record { «record» = r; start = s; first = f }

-- the three numbers of a word
module _ (l r s : ℕ) (hr : r < 2 ^ 24) (hs : s < 2 ^ 24) where
  word_size : word_of l r s / 2 ^ 48 ≡ l
  word_size = omega arith

  word-record : word_of l r s / 2 ^ 24 % 2 ^ 24 ≡ r
  word-record = omega arith

  word-start : word_of l r s % 2 ^ 24 ≡ s
  word-start = omega arith

-- the answers of the search, as the code comes to them
module _ (records count l : ℕ) (u : List ℕ) where
  pub spot_no_record : (first_unused u 0 records < records → ⊥) → None ≡ spot_for records count l u
  unfolding spot_for
  spot_no_record h = let e : records ≤ first_unused u 0 records = omega arith in rw (le-ltb _ _ e)

  module _ (room : first_unused u 0 records < records) where
    pub spot_no_run : None ≡ lowest_run u records count l → None ≡ spot_for records count l u
    unfolding spot_for spot_on
    spot_no_run e = rw (lt-ltb _ _ room, ← e)

    pub spot_no_slot : 1 ≤ l → (first_unused u records count < count → ⊥) → None ≡ spot_for records count l u
    spot_no_slot h e = spot_no_run (sym (lowest_run-full u records count l h (omega arith)))

    pub spot_here : (r f s : ℕ) → r ≡ first_unused u 0 records → f ≡ first_unused u records count → Some s ≡ lowest_run u records count l
        → Some (spot_at r s f) ≡ spot_for records count l u
    unfolding spot_for spot_on
    spot_here r f s lowest first e = rw (lt-ltb _ _ room, ← e, ← lowest, ← first)

-- what a spot is
record Spotted (records count l : ℕ) (u : List ℕ) (p : Spot) : Type 0 where
  pub lowest : first_unused u 0 records ≡ p.record
  pub room : p.record < records
  pub first : first_unused u records count ≡ p.first
  pub run : lowest_run u records count l ≡ Some p.start

on_run : (records count l : ℕ) (u : List ℕ) (r f : ℕ) (p : Spot) → first_unused u 0 records ≡ r → r < records → first_unused u records count ≡ f
    → (w : Option ℕ) → lowest_run u records count l ≡ w → Some p ≡ spot_on r f w → Spotted records count l u p
unfolding spot_on
on_run records count l u r f p lo ro fi (Some s) ru e =
    let d : p ≡ spot_at r s f = cc in
    rw d (record { lowest = lo; room = ro; first = fi; run = ru })
on_run records count l u r f p lo ro fi None ru e = let z : ◌≡◌ {A = ℕ} 0 1 = cc in absurd (omega arith)

spotted : (records count l : ℕ) (u : List ℕ) (p : Spot) → Some p ≡ spot_for records count l u → Spotted records count l u p
unfolding spot_for
spotted records count l u p e =
    both (ltb (first_unused u 0 records) records)
    (λ t. on_run records count l u _ _ p refl (ltb-true _ _ t) refl (lowest_run u records count l) refl (rw t at e))
    (λ t.
    let d : Some p ≡ None = rw t at e in
    let z : ◌≡◌ {A = ℕ} 0 1 = cc in
    absurd (omega arith))

-- where a size has no spot, nothing from it on fits
stuck_run : (records count l : ℕ) (ls u : List ℕ) (r f : ℕ) → (w : Option ℕ) → None ≡ spot_on r f w
    → (g : ℕ → Placed) → (at_run w u g).fits ≡ false
unfolding spot_on
stuck_run records count l ls u r f (Some s) e g = let z : ◌≡◌ {A = ℕ} 0 1 = cc in absurd (omega arith)
stuck_run records count l ls u r f None e g = refl

stuck : (records count l : ℕ) (ls u : List ℕ) → None ≡ spot_for records count l u → (place_all records count (l ∷ ls) u).fits ≡ false
unfolding spot_for place_all
stuck records count l ls u e =
    both (ltb (first_unused u 0 records) records)
    (λ t. rw t (stuck_run records count l ls u _ _ (lowest_run u records count l) (rw t at e) _))
    (λ t. rw t)

-- marks kept: a used place stays used
run-keeps : (u : List ℕ) (p n q : ℕ) → used_at u q ≡ true → used_at (mark_run u p n) q ≡ true
run-keeps u p n q e =
    ⊎_elim
    (λ h.
    ⊎_elim
    (λ k. mark_run-out u p n q (inr k) ∙ e)
    (λ k. mark_run_in u p n q h k (used-within u q e))
    (le_or_lt (p + n) q))
    (λ h. mark_run-out u p n q (inl h) ∙ e)
    (le_or_lt p q)

-- a size at its spot
module _ (records count l : ℕ) (u : List ℕ) (p : Spot) (map : Mapped records count u) (at : Spotted records count l u p) where
  abbrev after : List ℕ
  after = mark_run (mark_at u p.record) (records + p.start) l

  spot_within : p.start + l ≤ count
  spot_within = (lowest_run_finds u records count l p.start at.run).0

  after-length : length after ≡ length u
  after-length = mark_run-length (mark_at u p.record) (records + p.start) l ∙ mark-length u p.record

  -- what is left to place
  spot_places : (ls : List ℕ) → place_all records count (l ∷ ls) u ≡ place_all records count ls after
  unfolding place_all
  spot_places ls = rw (at.lowest, lt-ltb p.record records at.room, at.run)

  -- its word undone
  spot_undone : Words u → undo_word records (word_of l p.record p.start) after ≡ u
  unfolding undo_word
  spot_undone w =
      let r = p.record in
      let s = p.start in
      let hr : r < 2 ^ 24 = omega (arith, at.room, map.few-records) in
      let hs : s < 2 ^ 24 = omega (arith, spot_within, map.few-slots) in
      let free = (lowest_run_finds u records count l s at.run).1 in
      let unused : used_at u (0 + r) ≡ false = (first_unused_at u 0 records r at.lowest).2 at.room in
      let z : 0 + r ≡ r = omega arith in
      rw (word_size l r s hr hs, word-record l r s hr hs, word-start l r s hr hs)
      (rw
      (clear-mark_run (mark_at u r) (records + s) l
      (free_run_is (mark_at u r) (records + s) l (λ q a b. mark-other u r q (λ e. omega (arith, at.room)) ∙ free_run_at u (records + s) l free q a b))
      (mark-words u r w))
      (clear-mark u r (rw z at unused) w))

  -- where the next search may start
  spot_sought : Sought records count after (p.record + 1) p.first
  spot_sought =
      let r = p.record in
      let first = first_unused_at u records count p.first at.first in
      let lowest = first_unused_at u 0 records r at.lowest in
      record {
        record-within = omega (arith, at.room);
        slot-within = first.0;
        records-used = λ j h.
            mark_run-out (mark_at u r) (records + p.start) l (0 + j) (inl (omega (arith, at.room)))
            ∙ both (eqb j r)
            (λ t. let d : 0 + j ≡ r = omega (arith, eqb-true j r t) in rw d (mark-same u r (omega (arith, at.room, map.mapped))))
            (λ t.
            let d : j ≡ r → ⊥ = eqb-false j r t in
            mark-other u r (0 + j) (λ e. d (omega arith)) ∙ lowest.1 j (omega (arith, d)));
        slots-used = λ j h.
            run-keeps (mark_at u r) (records + p.start) l (records + j) (mark-other u r (records + j) (λ e. omega (arith, at.room)) ∙ first.1 j h);
      }

-- what marking does, once it is known whether there is a spot
pub marked_nowhere : (records l : ℕ) (f : Option Spot) (u v : List ℕ) → f ≡ None → v ≡ marked_by records l f u → v ≡ u
unfolding marked_by
marked_nowhere records l f u v e h = rw e at h

pub marked_here : (records l : ℕ) (f : Option Spot) (u v : List ℕ) (p : Spot) → f ≡ Some p → v ≡ marked_by records l f u
    → v ≡ mark_run (mark_at u p.record) (records + p.start) l
unfolding marked_by
marked_here records l f u v p e h = rw e at h

-- undoing looks at no word but those undone
undone-same : (records : ℕ) (ws vs : List ℕ) (i : ℕ) (u : List ℕ) → ((j : ℕ) → j < i → get_or ws j 0 ≡ get_or vs j 0)
    → undone_by records ws i u ≡ undone_by records vs i u
unfolding undone_by
undone-same records ws vs zero u f = refl
undone-same records ws vs (suc i) u f = rw (f i (omega arith)) (undone-same records ws vs i _ (λ j h. f j (omega arith)))

-- one word more
undone-next : (records : ℕ) (ws : List ℕ) (i w : ℕ) (u v : List ℕ) → i < length ws → undo_word records w v ≡ u
    → undone_by records (set ws i w) (i + 1) v ≡ undone_by records ws i u
unfolding undone_by
undone-next records ws i w u v h e =
    rw (add-one i, get_or-set_same ws i w 0 h, e) (undone-same records (set ws i w) ws i u (λ j k. get_or-set_other ws i j w 0 (λ d. omega arith)))

-- the placing at a turn: i sizes have their places
pub record Going (records count n : ℕ) (list₀ used₀ list used : List ℕ) (i r s : ℕ) : Type 0 where
  pub within : i ≤ n
  pub long : length list ≡ length list₀
  pub mapped : length used ≡ length used₀
  pub sought : Sought records count used r s
  pub left : (place_all records count (drop i (take n list₀)) used).fits ≡ (place_all records count (take n list₀) used₀).fits
  pub undone : undone_by records list i used ≡ used₀
  pub undoable : Undoable records i list (length used₀ * 64)
  pub rest : (j : ℕ) → i ≤ j → get_or list j 0 ≡ get_or list₀ j 0
  pub words : Words used

module _ (records count n : ℕ) (list₀ used₀ : List ℕ) (a : Asked records count n list₀ used₀) where
  pub going_start : Words used₀ → Going records count n list₀ used₀ list₀ used₀ 0 0 0
  unfolding undone_by
  going_start w = record {
    within = omega arith;
    long = refl;
    mapped = refl;
    sought = record {
      record-within = omega arith;
      slot-within = omega arith;
      records-used = λ j h. absurd (omega arith);
      slots-used = λ j h. absurd (omega arith);
    };
    left = refl;
    undone = refl;
    undoable = record {
      within = omega arith;
      few-records = a.map.few-records;
      run = λ j h. absurd (omega arith);
      place = λ j h. absurd (omega arith);
    };
    rest = λ j h. refl;
    words = w;
  }

  module _ (list used : List ℕ) (i r s : ℕ) (g : Going records count n list₀ used₀ list used i r s) where
    pub going_map : Mapped records count used
    going_map = record { mapped = rw g.mapped a.map.mapped; few-records = a.map.few-records; few-slots = a.map.few-slots }

    pub going_end : n ≤ i → Tried records count n list₀ used₀ list used i
    unfolding place_all
    going_end h = record {
      within = g.within;
      fits =
          let e : i ≡ n = omega (arith, g.within) in
          let d : drop n (take n list₀) ≡ [] = drop_of_length-le (take n list₀) {i = n} (omega (arith, length-take-le n list₀ a.within)) in
          eq-eqb i n e ∙ (rw (e, d) at g.left);
      undone = g.undone;
      undoable = rw g.mapped g.undoable;
      long = g.long;
      rest = λ j k. g.rest j (omega (arith, g.within));
    }

    -- the size of this turn
    module _ (h : i < n) where
      abbrev size : ℕ
      size = get_or list i 0

      pub going_size : (1 ≤ size) × (size ≤ 4096)
      going_size = rw (g.rest i (omega arith)) (a.sizes i h)

      going_next : drop i (take n list₀) ≡ size ∷ drop (i + 1) (take n list₀)
      going_next =
          rw (add-one i, g.rest i (omega arith))
          (drop-cons (take n list₀) i 0 (rw (length-take-le n list₀ a.within) h) ∙ rw (get_or-take n list₀ i 0 h))

      pub going_stuck : None ≡ spot_for records count size used → Tried records count n list₀ used₀ list used i
      going_stuck e = record {
        within = g.within;
        fits = ne_eqb i n (λ d. omega arith) ∙ sym (stuck records count size (drop (i + 1) (take n list₀)) used e) ∙ (rw going_next at g.left);
        undone = g.undone;
        undoable = rw g.mapped g.undoable;
        long = g.long;
        rest = λ j k. g.rest j (omega arith);
      }

      module _ (p : Spot) (e : Some p ≡ spot_for records count size used) where
        at : Spotted records count size used p
        at = spotted records count size used p e

        pub going_fits : (p.record < 2 ^ 20) × (p.start ≤ 2 ^ 20) × (size ≤ 4096)
        going_fits = (omega (arith, at.room, a.map.few-records), omega (arith, spot_within records count size used p going_map at, a.map.few-slots), going_size.1)

        pub going_step : Going records count n list₀ used₀ (set list i (word_of size p.record p.start)) (mark_run (mark_at used p.record) (records + p.start) size) (i + 1) (p.record + 1) p.first
        going_step =
            let hr : p.record < 2 ^ 24 = omega (arith, going_fits.0) in
            let hs : p.start < 2 ^ 24 = omega (arith, going_fits.1) in
            let lt : i < length list = omega (arith, g.long, a.within) in
            record {
              within = omega arith;
              long = length-set list i _ ∙ g.long;
              mapped = after-length records count size used p going_map at ∙ g.mapped;
              sought = spot_sought records count size used p going_map at;
              left = ap (λ (x : Placed). x.fits) (sym (spot_places records count size used p going_map at (drop (i + 1) (take n list₀)))) ∙ (rw going_next at g.left);
              undone = undone-next records list i _ used _ lt (spot_undone records count size used p going_map at g.words) ∙ g.undone;
              undoable = record {
                within = simp length-set (omega arith);
                few-records = a.map.few-records;
                run = λ j k.
                    both (eqb j i)
                    (λ t.
                    let d : j ≡ i = eqb-true j i t in
                    rw (d, get_or-set_same list i (word_of size p.record p.start) 0 lt, word-start size p.record p.start hr hs, word_size size p.record p.start hr hs)
                    (omega (arith, spot_within records count size used p going_map at, a.map.mapped)))
                    (λ t.
                    let d : j ≡ i → ⊥ = eqb-false j i t in
                    rw (get_or-set_other list i j (word_of size p.record p.start) 0 d) (g.undoable.run j (omega (arith, d))));
                place = λ j k.
                    both (eqb j i)
                    (λ t.
                    let d : j ≡ i = eqb-true j i t in
                    rw (d, get_or-set_same list i (word_of size p.record p.start) 0 lt, word-record size p.record p.start hr hs)
                    (omega (arith, at.room, a.map.mapped)))
                    (λ t.
                    let d : j ≡ i → ⊥ = eqb-false j i t in
                    rw (get_or-set_other list i j (word_of size p.record p.start) 0 d) (g.undoable.place j (omega (arith, d))));
              };
              rest = λ j k. get_or-set_other list i j _ 0 (λ d. omega arith) ∙ g.rest j (omega arith);
              words = mark_run-words _ (records + p.start) size (mark-words used p.record g.words);
            }

-- a turn of undoing
pub undo-step : (records : ℕ) (ws : List ℕ) (i : ℕ) (u : List ℕ) → 0 < i
    → undone_by records ws (i - 1) (clear_at (clear_run u (records + get_or ws (i - 1) 0 % 2 ^ 24) (get_or ws (i - 1) 0 / 2 ^ 48)) (get_or ws (i - 1) 0 / 2 ^ 24 % 2 ^ 24)) ≡ undone_by records ws i u
unfolding undone_by undo_word
undo-step records ws zero u h = absurd (omega arith)
undo-step records ws (suc i) u h = let e : suc i - 1 ≡ i = omega arith in rw e

pub undo-end : (records : ℕ) (ws : List ℕ) (i : ℕ) (u : List ℕ) → i ≤ 0 → undone_by records ws i u ≡ u
unfolding undone_by
undo-end records ws zero u h = refl
undo-end records ws (suc i) u h = absurd (omega arith)

pub wiped_is : (l : List ℕ) (n : ℕ) → n ≤ length l → sets l 0 (replicate n 0) ≡ replicate n 0 ++ drop n l
wiped_is l n h =
    let z : length (replicate {A = ℕ} n 0) ≡ n = length-replicate n 0 in
    let y : 0 + length (replicate {A = ℕ} n 0) ≡ n = omega arith in
    rw y at (sets-eq (replicate n 0) l 0 (omega arith))

-- two lists that agree past their first n places are one, once those are zero
pub wiped-same : (l k : List ℕ) (n : ℕ) → length l ≡ length k → n ≤ length k → ((j : ℕ) → n ≤ j → get_or l j 0 ≡ get_or k j 0)
    → sets l 0 (replicate n 0) ≡ sets k 0 (replicate n 0)
wiped-same l k n e h f =
    let d : drop n l ≡ drop n k =
    ext_get_or 0 (drop n l) (drop n k) (simp length-drop (omega arith)) (λ i t. get_or-drop n l i 0 ∙ f (n + i) (omega arith) ∙ sym (get_or-drop n k i 0))
    in
    rw (wiped_is l n (omega arith), wiped_is k n h, d)

-- what is left once the marks are undone and the list is wiped
pub judged : (records count n : ℕ) (list₀ used₀ list used : List ℕ) (i : ℕ) → Tried records count n list₀ used₀ list used i → n ≤ length list₀
    → (list₁ used₁ : List ℕ) → used₁ ≡ undone_by records list i used → list₁ ≡ sets list 0 (replicate n 0)
    → Judged records count n list₀ used₀ list₁ used₁ (eqb i n)
judged records count n list₀ used₀ list used i t h list₁ used₁ e d = record {
  fits = t.fits;
  used = e ∙ t.undone;
  list = d ∙ wiped-same list list₀ n t.long h t.rest;
}
