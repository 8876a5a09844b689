-- Nodes dropped one after the other: the order makes no difference, and a node dropped twice is dropped once. So what is left after
-- several hangs only on which they are. Assumes nothing.
use mathlib.Core.Bool.{Bool, true, false, ◌&&◌}
use mathlib.Core.List.{List}
use mathlib.Core.Logic.{⊎_elim}
use mathlib.Core.Path.{◌≡◌, refl, sym, ap, ◌∙◌}
use Prim.Native.Nat.{ℕ, zero, suc, ◌+◌, ◌*◌, ◌-◌, ◌/◌, ◌%◌, ◌^◌, ◌<◌}
use native.Mathlib.Omega.{arith}
use borrow.Author.Tests.{eqb-true, eqb-false, le-leb, lt-leb, lt-ltb, le-ltb}
use lib.Dec.{eqb, leb, ltb}
use lib.ListN.{length, get_or, set, replicate, length-replicate}
use lib.Seq.{sets, length-sets, ext_get_or, set-set, set_comm, get_or-set_same, get_or-set_other}
use Rattle.build.specs.Releasing.{drop_node}
use Rattle.laws.proofs.Tests.{both, le_or_lt}
use Rattle.laws.specs.Pick.{pick}
use Rattle.marks.proofs.Marks.{used-within, clear-same, clear-other}
use Rattle.marks.specs.Used.{used_at, clear_at, clear_run}
use Rattle.pool.proofs.Sets.{sets_before, sets_past, sets_zeros}
use Rattle.pool.specs.Memory.{Mem, lo_word, kind_word, record_words, slot_words, slot_place}
use Rattle.pool.specs.Writing.{zero_record, zero_run}
use Rattle.pool.specs.declared.Node.{Node}

-- zeros from place i on, n of them
abbrev zeros : List ℕ → ℕ → ℕ → List ℕ
zeros l i n = sets l i (replicate n 0)

abbrev within : ℕ → ℕ → ℕ → Bool
within i n p = leb i p && ltb p (i + n)

zeros-length : (l : List ℕ) (i n : ℕ) → length (zeros l i n) ≡ length l
zeros-length l i n = length-sets l i (replicate n 0)

zeros_at : (l : List ℕ) (i n p : ℕ) → get_or (zeros l i n) p 0 ≡ pick (within i n p) 0 (get_or l p 0)
zeros_at l i n p =
    ⊎_elim
    (λ a. ⊎_elim
    (λ b. let e : length {A = ℕ} (replicate n 0) ≡ n = length-replicate n 0 in rw (le-leb i p a, le-ltb p (i + n) b) (sets_past l i (replicate n 0) p (omega arith)))
    (λ b. rw (le-leb i p a, lt-ltb p (i + n) b) (sets_zeros l i n p a b))
    (le_or_lt (i + n) p))
    (λ a. rw (lt-leb i p a) (sets_before l i (replicate n 0) p a))
    (le_or_lt i p)

pick-swap : (a b : Bool) (x : ℕ) → pick a 0 (pick b 0 x) ≡ pick b 0 (pick a 0 x)
pick-swap true true x = refl
pick-swap true false x = refl
pick-swap false true x = refl
pick-swap false false x = refl

pick_twice : (a : Bool) (x : ℕ) → pick a 0 (pick a 0 x) ≡ pick a 0 x
pick_twice true x = refl
pick_twice false x = refl

zeros-swap : (l : List ℕ) (i n j k : ℕ) → zeros (zeros l i n) j k ≡ zeros (zeros l j k) i n
zeros-swap l i n j k =
    ext_get_or 0 _ _
    (zeros-length (zeros l i n) j k ∙ zeros-length l i n ∙ sym (zeros-length (zeros l j k) i n ∙ zeros-length l j k))
    (λ p h. zeros_at (zeros l i n) j k p ∙ ap (λ (x : ℕ). pick (within j k p) 0 x) (zeros_at l i n p)
    ∙ pick-swap (within j k p) (within i n p) (get_or l p 0)
    ∙ sym (zeros_at (zeros l j k) i n p ∙ ap (λ (x : ℕ). pick (within i n p) 0 x) (zeros_at l j k p)))

zeros_twice : (l : List ℕ) (i n : ℕ) → zeros (zeros l i n) i n ≡ zeros l i n
zeros_twice l i n =
    ext_get_or 0 _ _
    (zeros-length (zeros l i n) i n)
    (λ p h. zeros_at (zeros l i n) i n p ∙ ap (λ (x : ℕ). pick (within i n p) 0 x) (zeros_at l i n p)
    ∙ pick_twice (within i n p) (get_or l p 0) ∙ sym (zeros_at l i n p))

-- a place without a mark has none to lose
clear_none : (u : List ℕ) (p : ℕ) → used_at u p ≡ false → clear_at u p ≡ u
unfolding clear_at
clear_none u p e = rw e

clear_twice : (u : List ℕ) (p : ℕ) → clear_at (clear_at u p) p ≡ clear_at u p
clear_twice u p = clear_none (clear_at u p) p (clear-same u p)

abbrev lower : List ℕ → ℕ → List ℕ
lower u p = set u (p / 64) (get_or u (p / 64) 0 - 2 ^ (p % 64))

clear_marked : (u : List ℕ) (p : ℕ) → used_at u p ≡ true → clear_at u p ≡ lower u p
unfolding clear_at
clear_marked u p e = rw e

lower_swap : (u : List ℕ) (p q : ℕ) → used_at u p ≡ true → used_at u q ≡ true → lower (lower u p) q ≡ lower (lower u q) p
lower_swap u p q a b =
    both (eqb (q / 64) (p / 64))
    (λ t.
    let d : q / 64 ≡ p / 64 = eqb-true _ _ t in
    let w : p / 64 < length u = used-within u p a in
    let o : get_or u (p / 64) 0 - 2 ^ (p % 64) - 2 ^ (q % 64) ≡ get_or u (p / 64) 0 - 2 ^ (q % 64) - 2 ^ (p % 64) = omega arith in
    rw (d, get_or-set_same u (p / 64) (get_or u (p / 64) 0 - 2 ^ (p % 64)) 0 w, get_or-set_same u (p / 64) (get_or u (p / 64) 0 - 2 ^ (q % 64)) 0 w)
    (set-set u (p / 64) _ _ ∙ ap (λ (y : ℕ). set u (p / 64) y) o ∙ sym (set-set u (p / 64) _ _)))
    (λ t.
    let d : q / 64 ≡ p / 64 → ⊥ = eqb-false _ _ t in
    rw (get_or-set_other u (p / 64) (q / 64) (get_or u (p / 64) 0 - 2 ^ (p % 64)) 0 d, get_or-set_other u (q / 64) (p / 64) (get_or u (q / 64) 0 - 2 ^ (q % 64)) 0 (λ e. d (sym e)))
    (set_comm u (p / 64) (q / 64) _ _ (λ e. d (sym e))))

clear-swap : (u : List ℕ) (p q : ℕ) → clear_at (clear_at u p) q ≡ clear_at (clear_at u q) p
clear-swap u p q =
    both (eqb q p)
    (λ t. let d : q ≡ p = eqb-true _ _ t in rw d)
    (λ t.
    let d : q ≡ p → ⊥ = eqb-false _ _ t in
    let x : used_at (clear_at u p) q ≡ used_at u q = clear-other u p q d in
    let y : used_at (clear_at u q) p ≡ used_at u p = clear-other u q p (λ e. d (sym e)) in
    let after : (v w : ℕ) → used_at (clear_at u v) w ≡ true → used_at u v ≡ true → clear_at (clear_at u v) w ≡ lower (lower u v) w
    = λ v w g f. clear_marked (clear_at u v) w g ∙ ap (λ (z : List ℕ). lower z w) (clear_marked u v f) in
    both (used_at u q)
    (λ b.
    both (used_at u p)
    (λ a. after p q (x ∙ b) a ∙ lower_swap u p q a b ∙ sym (after q p (y ∙ a) b))
    (λ a. rw (clear_none u p a) (sym (clear_none (clear_at u q) p (y ∙ a)))))
    (λ b. clear_none (clear_at u p) q (x ∙ b) ∙ rw (clear_none u q b)))

-- a run and a place, two runs
run-swap : (u : List ℕ) (p n q : ℕ) → clear_at (clear_run u p n) q ≡ clear_run (clear_at u q) p n
unfolding clear_run
run-swap u p zero q = refl
run-swap u p (suc n) q = run-swap (clear_at u p) (p + 1) n q ∙ ap (λ (v : List ℕ). clear_run v (p + 1) n) (clear-swap u p q)

runs-swap : (u : List ℕ) (p n q k : ℕ) → clear_run (clear_run u p n) q k ≡ clear_run (clear_run u q k) p n
unfolding clear_run
runs-swap u p n q zero = refl
runs-swap u p n q (suc k) = ap (λ (v : List ℕ). clear_run v (q + 1) k) (run-swap u p n q) ∙ runs-swap (clear_at u q) p n (q + 1) k

run_twice : (u : List ℕ) (p n : ℕ) → clear_run (clear_run u p n) p n ≡ clear_run u p n
unfolding clear_run
run_twice u p zero = refl
run_twice u p (suc n) =
    ap (λ (v : List ℕ). clear_run v (p + 1) n) (run-swap (clear_at u p) (p + 1) n p)
    ∙ ap (λ (v : List ℕ). clear_run (clear_run v (p + 1) n) (p + 1) n) (clear_twice u p)
    ∙ run_twice (clear_at u p) (p + 1) n

-- the marks of a node: its run's and its record's
abbrev unmarked : List ℕ → ℕ → ℕ → ℕ → List ℕ
unmarked u p n r = clear_at (clear_run u p n) r

unmarked_swap : (u : List ℕ) (p n r q k s : ℕ) → unmarked (unmarked u p n r) q k s ≡ unmarked (unmarked u q k s) p n r
unmarked_swap u p n r q k s =
    ap (λ (v : List ℕ). clear_at v s) (sym (run-swap (clear_run u p n) q k r) ∙ ap (λ (v : List ℕ). clear_at v r) (runs-swap u p n q k))
    ∙ clear-swap (clear_run (clear_run u q k) p n) r s
    ∙ ap (λ (v : List ℕ). clear_at v r) (run-swap (clear_run u q k) p n s)

unmarked_twice : (u : List ℕ) (p n r : ℕ) → unmarked (unmarked u p n r) p n r ≡ unmarked u p n r
unmarked_twice u p n r =
    ap (λ (v : List ℕ). clear_at v r) (sym (run-swap (clear_run u p n) p n r) ∙ ap (λ (v : List ℕ). clear_at v r) (run_twice u p n))
    ∙ clear_twice (clear_run u p n) r

pub drop-swap : (m : Mem) (r s : ℕ) (a b : Node) → drop_node (drop_node m r a) s b ≡ drop_node (drop_node m s b) r a
unfolding drop_node zero_record zero_run
drop-swap m r s a b =
    rw (
      zeros-length m.nodes (lo_word r) record_words,
      zeros-length m.nodes (lo_word s) record_words,
      zeros-swap m.nodes (lo_word r) record_words (lo_word s) record_words,
      zeros-swap m.slots (kind_word a.start) (a.model.l * slot_words) (kind_word b.start) (b.model.l * slot_words),
      unmarked_swap m.used (slot_place m.nodes a.start) a.model.l r (slot_place m.nodes b.start) b.model.l s,
    )

pub drop_twice : (m : Mem) (r : ℕ) (a : Node) → drop_node (drop_node m r a) r a ≡ drop_node m r a
unfolding drop_node zero_record zero_run
drop_twice m r a =
    rw (
      zeros-length m.nodes (lo_word r) record_words,
      zeros_twice m.nodes (lo_word r) record_words,
      zeros_twice m.slots (kind_word a.start) (a.model.l * slot_words),
      unmarked_twice m.used (slot_place m.nodes a.start) a.model.l r,
    )
