-- Memory without some of its nodes: it hangs only on which they are, and each record and slot reads as before or, if it was theirs, as
-- nothing. Assumes nothing.
use Rattle.std.specs.Prelude.{Err, Ok}
use mathlib.Core.List.{List, [], ◌∷◌, ◌++◌}
use mathlib.Core.Logic.{◌⊎◌, inl, inr, ⊎_elim}
use mathlib.Core.Bool.{false}
use mathlib.Core.Path.{◌≡◌, refl, sym, ap, ◌∙◌}
use Prim.Native.Nat.{ℕ, ◌+◌, ◌<◌, ◌≤◌}
use native.Mathlib.Omega.{arith}
use borrow.Author.Tests.{eqb-true, eqb-false}
use lib.Dec.{eqb}
use Rattle.build.proofs.Releasing.{Frees, frees_same, frees_both, drop_frees}
use Rattle.build.specs.Releasing.{drop_node}
use Rattle.laws.proofs.Tests.{both, le_or_lt}
use Rattle.marks.proofs.Marks.{clear-same, clear-other}
use Rattle.marks.proofs.Runs.{clear_run-out}
use Rattle.marks.specs.Used.{used_at, clear_run}
use Rattle.pool.proofs.AfterStores.{node_zero_other, slot-zero_run, slot-zero_run-other}
use Rattle.pool.proofs.Nodes.{reads_unmarked, reads_outside}
use Rattle.pool.proofs.RecordStores.{length-zero_record}
use Rattle.pool.proofs.RunStores.{length-zero_run}
use Rattle.pool.proofs.Slots.{child-word, child-reads}
use Rattle.pool.specs.Memory.{Mem, records_in, slot_place}
use Rattle.pool.specs.Reading.{node_at, slot_at}
use Rattle.pool.specs.declared.Node.{Node}
use Rattle.pool.specs.declared.Slot.TheVariants.{Null, Child}
use Rattle.rebuild.specs.Zeroing.{Met, zeroed}
use Rattle.rebuild.proofs.Dropping.{drop-swap, drop_twice}
use Rattle.pool.specs.declared.Rule.TheVariants.{UnusedRecord}

-- a node is one of several
abbrev pub In : Met → List Met → Type 0
In x [] = ⊥
In x (a ∷ xs) = (x ≡ a) ⊎ In x xs

pub in_left : (x : Met) (xs ys : List Met) → In x xs → In x (xs ++ ys)
in_left x [] ys h = absurd h
in_left x (a ∷ xs) ys (inl e) = inl e
in_left x (a ∷ xs) ys (inr h) = inr (in_left x xs ys h)

pub in_right : (x : Met) (xs ys : List Met) → In x ys → In x (xs ++ ys)
in_right x [] ys h = h
in_right x (a ∷ xs) ys h = inr (in_right x xs ys h)

pub in_either : (x : Met) (xs ys : List Met) → In x (xs ++ ys) → In x xs ⊎ In x ys
in_either x [] ys h = inr h
in_either x (a ∷ xs) ys (inl e) = inl (inl e)
in_either x (a ∷ xs) ys (inr h) = ⊎_elim (λ k. inl (inr k)) (λ k. inr k) (in_either x xs ys h)

-- one of them is at record q
pub record Has (q : ℕ) (xs : List Met) : Type 0 where
  pub one : Met
  pub among : In one xs
  pub at : one.at ≡ q

pub has_in : {q : ℕ} {xs ys : List Met} → ((x : Met) → In x xs → In x ys) → Has q xs → Has q ys
has_in f h = record { one = h.one; among = f h.one h.among; at = h.at }

pub has_or_not : (q : ℕ) (xs : List Met) → Has q xs ⊎ ((x : Met) → In x xs → q ≡ x.at → ⊥)
has_or_not q [] = inr (λ x h e. h)
has_or_not q (a ∷ xs) =
    both (eqb a.at q)
    (λ t. inl (record { one = a; among = inl refl; at = eqb-true _ _ t }))
    (λ t.
    ⊎_elim
    (λ h. inl (has_in {q = q} (λ x k. inr k) h))
    (λ n. inr (λ x k e. ⊎_elim (λ d. eqb-false a.at q t (sym (e ∙ ap (λ (y : Met). y.at) d))) (λ d. n x d e) k))
    (has_or_not q xs))

abbrev without : Met → Mem → Mem
without a m = drop_node m a.at a.node

-- which they are is all that counts
pub zeroed_both : (xs ys : List Met) (m : Mem) → zeroed (xs ++ ys) m ≡ zeroed xs (zeroed ys m)
unfolding zeroed
zeroed_both [] ys m = refl
zeroed_both (a ∷ xs) ys m = ap (without a) (zeroed_both xs ys m)

drop-zeroed : (a : Met) (xs : List Met) (m : Mem) → without a (zeroed xs m) ≡ zeroed xs (without a m)
unfolding zeroed
drop-zeroed a [] m = refl
drop-zeroed a (b ∷ xs) m = drop-swap (zeroed xs m) b.at a.at b.node a.node ∙ ap (without b) (drop-zeroed a xs m)

pub zeroed-swap : (xs ys : List Met) (m : Mem) → zeroed xs (zeroed ys m) ≡ zeroed ys (zeroed xs m)
unfolding zeroed
zeroed-swap [] ys m = refl
zeroed-swap (a ∷ xs) ys m = ap (without a) (zeroed-swap xs ys m) ∙ drop-zeroed a ys (zeroed xs m)

drop_in : (x : Met) (xs : List Met) (m : Mem) → In x xs → without x (zeroed xs m) ≡ zeroed xs m
unfolding zeroed
drop_in x [] m h = absurd h
drop_in x (a ∷ xs) m (inl e) = rw e (drop_twice (zeroed xs m) a.at a.node)
drop_in x (a ∷ xs) m (inr h) = drop-swap (zeroed xs m) a.at x.at a.node x.node ∙ ap (without a) (drop_in x xs m h)

pub zeroed_in : (xs ys : List Met) (m : Mem) → ((x : Met) → In x xs → In x ys) → zeroed xs (zeroed ys m) ≡ zeroed ys m
unfolding zeroed
zeroed_in [] ys m h = refl
zeroed_in (a ∷ xs) ys m h = ap (without a) (zeroed_in xs ys m (λ x k. h x (inr k))) ∙ drop_in a ys m (h a (inl refl))

pub zeroed_frees : (xs : List Met) (m : Mem) → Frees m (zeroed xs m)
unfolding zeroed
zeroed_frees [] m = frees_same m
zeroed_frees (a ∷ xs) m = frees_both m (zeroed xs m) (without a (zeroed xs m)) (zeroed_frees xs m) (drop_frees (zeroed xs m) a.at a.node)

-- their records are unused
gone : (x : Met) (xs : List Met) (m : Mem) → In x xs → used_at (zeroed xs m).used x.at ≡ false
unfolding zeroed drop_node
gone x [] m h = absurd h
gone x (a ∷ xs) m (inl e) = rw e (clear-same _ a.at)
gone x (a ∷ xs) m (inr h) = (drop_frees (zeroed xs m) a.at a.node).unused x.at (gone x xs m h)

pub record_gone : (x : Met) (xs : List Met) (m : Mem) → In x xs → x.at < records_in m.nodes → node_at (zeroed xs m) x.at ≡ Err UnusedRecord
record_gone x xs m h inside = reads_unmarked (zeroed xs m) x.at (rw (zeroed_frees xs m).nodes inside) (gone x xs m h)

-- every other record reads as it did
drop-record : (m : Mem) (a : Met) (q : ℕ) → (q ≡ a.at → ⊥) → node_at (without a m) q ≡ node_at m q
unfolding node_at drop_node
drop-record m a q d = ⊎_elim outside inside (le_or_lt (records_in m.nodes) q)
  where
    outside : records_in m.nodes ≤ q → node_at (without a m) q ≡ node_at m q
    outside h = reads_outside (without a m) q (rw (drop_frees m a.at a.node).nodes h) ∙ sym (reads_outside m q h)

    inside : q < records_in m.nodes → node_at (without a m) q ≡ node_at m q
    inside h =
        let p = slot_place m.nodes a.node.start in
        let l = a.node.model.l in
        rw (
          length-zero_record m.nodes a.at,
          length-zero_run m.slots a.node.start l,
          node_zero_other m.nodes a.at q d,
          clear-other (clear_run m.used p l) a.at q d,
          clear_run-out m.used p l q (inl (omega arith)),
        )

pub record_kept : (xs : List Met) (m : Mem) (q : ℕ) → ((x : Met) → In x xs → q ≡ x.at → ⊥) → node_at (zeroed xs m) q ≡ node_at m q
unfolding zeroed
record_kept [] m q d = refl
record_kept (a ∷ xs) m q d = drop-record (zeroed xs m) a q (d a (inl refl)) ∙ record_kept xs m q (λ x h. d x (inr h))

-- slot j of n lies in the run of one of them
pub record Emptied (xs : List Met) (n : Node) (j : ℕ) : Type 0 where
  pub one : Met
  pub among : In one xs
  pub from : one.node.start ≤ n.start + j
  pub to : n.start + j < one.node.start + one.node.model.l

-- so it reads as NULL; every other slot reads as it did
drop-slot : (m : Mem) (a : Met) (n : Node) (j : ℕ)
    → (slot_at (without a m).slots n j ≡ slot_at m.slots n j)
    ⊎ ((slot_at (without a m).slots n j ≡ Ok Null) × (a.node.start ≤ n.start + j) × (n.start + j < a.node.start + a.node.model.l))
unfolding drop_node
drop-slot m a n j =
    let s = a.node.start in
    let l = a.node.model.l in
    ⊎_elim
    (λ h. ⊎_elim
    (λ k. inl (slot-zero_run-other m.slots n j s l (inr k)))
    (λ k. inr (slot-zero_run m.slots n j s l h k, h, k))
    (le_or_lt (s + l) (n.start + j)))
    (λ h. inl (slot-zero_run-other m.slots n j s l (inl h)))
    (le_or_lt s (n.start + j))

pub zeroed-slot : (xs : List Met) (m : Mem) (n : Node) (j : ℕ)
    → (slot_at (zeroed xs m).slots n j ≡ slot_at m.slots n j) ⊎ ((slot_at (zeroed xs m).slots n j ≡ Ok Null) × Emptied xs n j)
unfolding zeroed
zeroed-slot [] m n j = inl refl
zeroed-slot (a ∷ xs) m n j =
    ⊎_elim
    (λ e. ⊎_elim
    (λ f. inl (e ∙ f))
    (λ f. inr (e ∙ f.0, record { one = f.1.one; among = inr f.1.among; from = f.1.from; to = f.1.to }))
    (zeroed-slot xs m n j))
    (λ e. inr (e.0, record { one = a; among = inl refl; from = e.1; to = e.2 }))
    (drop-slot (zeroed xs m) a n j)

-- a child in a slot is one for every node that has the slot
pub child_elsewhere : (ss : List ℕ) (n b : Node) (j i c : ℕ) → n.start + j ≡ b.start + i → slot_at ss n j ≡ Ok (Child c) → slot_at ss b i ≡ Ok (Child c)
child_elsewhere ss n b j i c e h =
    let w = child-word ss n j c h in
    child-reads ss b i c (record { word = rw e at w.word; small = w.small })
