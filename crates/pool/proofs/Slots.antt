-- Reading a slot: what its word says kind by kind, and from what is read back to the word. Assumes nothing.
use Rattle.std.specs.Prelude.{Err, Ok}
use mathlib.Core.List.{List}
use mathlib.Core.Path.{◌≡◌, ◌∙◌}
use Prim.Native.Nat.{ℕ, ◌+◌, ◌*◌, ◌/◌, ◌%◌, ◌<◌}
use native.Mathlib.Omega.{arith}
use borrow.Author.Tests.{eq-eqb, ne_eqb, eqb-true, eqb-false}
use lib.Dec.{eqb}
use lib.ListN.{get_or}
use Rattle.laws.proofs.Tests.{both}
use Rattle.model.specs.Slots.{value_of, slot_of}
use Rattle.pool.specs.Memory.{kind_word, kind_unit, null_kind, data_kind, node_kind}
use Rattle.pool.specs.Reading.{slot_says, slot_at}
use Rattle.pool.specs.declared.Rule.{Rule}
use Rattle.pool.specs.declared.Node.{Node}
use Rattle.pool.specs.declared.Slot.TheVariants.{Null, Data, Child}
use Rattle.pool.specs.declared.Rule.TheVariants.{UnknownKind, MisplacedKey}

-- what a word says, kind by kind
module _ (n : Node) (j x : ℕ) where
  pub says-null : x / kind_unit ≡ null_kind → slot_says n j x ≡ Ok Null
  unfolding slot_says
  says-null k = rw (eq-eqb (x / kind_unit) null_kind k)

  pub says-data : x / kind_unit ≡ data_kind → slot_of n.model (value_of (x % kind_unit)) ≡ j → slot_says n j x ≡ Ok (Data (x % kind_unit))
  unfolding slot_says
  says-data k e = rw (ne_eqb (x / kind_unit) null_kind (λ z. omega arith), eq-eqb (x / kind_unit) data_kind k, eq-eqb _ j e)

  pub says_misplaced : x / kind_unit ≡ data_kind → (slot_of n.model (value_of (x % kind_unit)) ≡ j → ⊥) → slot_says n j x ≡ Err MisplacedKey
  unfolding slot_says
  says_misplaced k d = rw (ne_eqb (x / kind_unit) null_kind (λ z. omega arith), eq-eqb (x / kind_unit) data_kind k, ne_eqb _ j d)

  pub says-child : x / kind_unit ≡ node_kind → slot_says n j x ≡ Ok (Child (x % kind_unit))
  unfolding slot_says
  says-child k =
      rw (
        ne_eqb (x / kind_unit) null_kind (λ z. omega arith),
        ne_eqb (x / kind_unit) data_kind (λ z. omega arith),
        eq-eqb (x / kind_unit) node_kind k,
      )

  pub says-unknown : (x / kind_unit ≡ null_kind → ⊥) → (x / kind_unit ≡ data_kind → ⊥) → (x / kind_unit ≡ node_kind → ⊥) → slot_says n j x ≡ Err UnknownKind
  unfolding slot_says
  says-unknown a b c =
      rw (ne_eqb (x / kind_unit) null_kind a, ne_eqb (x / kind_unit) data_kind b, ne_eqb (x / kind_unit) node_kind c)

-- a DATA slot's word holds a key that belongs there
pub record DataSlot (ss : List ℕ) (n : Node) (j k : ℕ) : Type 0 where
  pub word : get_or ss (kind_word (n.start + j)) 0 ≡ data_kind * kind_unit + k
  pub small : k < kind_unit
  pub belongs : slot_of n.model (value_of k) ≡ j

-- a NODE slot's word holds a record
pub record ChildSlot (ss : List ℕ) (n : Node) (j c : ℕ) : Type 0 where
  pub word : get_or ss (kind_word (n.start + j)) 0 ≡ node_kind * kind_unit + c
  pub small : c < kind_unit

-- from the word to what is read
module _ (ss : List ℕ) (n : Node) (j : ℕ) where
  pub null-reads : get_or ss (kind_word (n.start + j)) 0 / kind_unit ≡ null_kind → slot_at ss n j ≡ Ok Null
  unfolding slot_at
  null-reads e = says-null n j _ e

  pub data_reads : (k : ℕ) → DataSlot ss n j k → slot_at ss n j ≡ Ok (Data k)
  unfolding slot_at
  data_reads k d =
      let x = get_or ss (kind_word (n.start + j)) 0 in
      let a : x / kind_unit ≡ data_kind = omega (arith, d.word, d.small) in
      let b : x % kind_unit ≡ k = omega (arith, d.word, d.small) in
      says-data n j x a (rw b d.belongs) ∙ rw b

  pub child-reads : (c : ℕ) → ChildSlot ss n j c → slot_at ss n j ≡ Ok (Child c)
  unfolding slot_at
  child-reads c d =
      let x = get_or ss (kind_word (n.start + j)) 0 in
      let a : x / kind_unit ≡ node_kind = omega (arith, d.word, d.small) in
      let b : x % kind_unit ≡ c = omega (arith, d.word, d.small) in
      says-child n j x a ∙ rw b

-- the ways that a word can be read, by its kind
kinds : {A : Type 0} (n : Node) (j x : ℕ)
    → (x / kind_unit ≡ null_kind → slot_says n j x ≡ Ok Null → A)
    → (x / kind_unit ≡ data_kind → slot_of n.model (value_of (x % kind_unit)) ≡ j → slot_says n j x ≡ Ok (Data (x % kind_unit)) → A)
    → (x / kind_unit ≡ node_kind → slot_says n j x ≡ Ok (Child (x % kind_unit)) → A)
    → ((rule : Rule) → slot_says n j x ≡ Err rule → A)
    → A
kinds n j x if_null if_data if_child if_broken =
    both (eqb (x / kind_unit) null_kind)
    (λ a. let k = eqb-true _ _ a in if_null k (says-null n j x k))
    (λ a.
    both (eqb (x / kind_unit) data_kind)
    (λ b.
    let k = eqb-true _ _ b in
    both (eqb (slot_of n.model (value_of (x % kind_unit))) j)
    (λ c. let q = eqb-true _ _ c in if_data k q (says-data n j x k q))
    (λ c. if_broken _ (says_misplaced n j x k (eqb-false _ _ c))))
    (λ b.
    both (eqb (x / kind_unit) node_kind)
    (λ c. let k = eqb-true _ _ c in if_child k (says-child n j x k))
    (λ c. if_broken _ (says-unknown n j x (eqb-false _ _ a) (eqb-false _ _ b) (eqb-false _ _ c)))))

zero_not_one : ◌≡◌ {A = ℕ} 0 1 → ⊥
zero_not_one z = omega arith

-- from what is read to the word
module _ (ss : List ℕ) (n : Node) (j : ℕ) where
  pub null_word : slot_at ss n j ≡ Ok Null → get_or ss (kind_word (n.start + j)) 0 / kind_unit ≡ null_kind
  unfolding slot_at
  null_word e =
      kinds n j (get_or ss (kind_word (n.start + j)) 0)
      (λ k s. k)
      (λ k q s. absurd (zero_not_one (cc)))
      (λ k s. absurd (zero_not_one (cc)))
      (λ rule s. absurd (zero_not_one (cc)))

  pub data-word : (k : ℕ) → slot_at ss n j ≡ Ok (Data k) → DataSlot ss n j k
  unfolding slot_at
  data-word v e =
      let x = get_or ss (kind_word (n.start + j)) 0 in
      kinds n j x
      (λ k s. absurd (zero_not_one (cc)))
      (λ k q s.
      let b : x % kind_unit ≡ v = cc in
      record { word = omega (arith, k, b); small = omega (arith, b); belongs = rw b at q })
      (λ k s. absurd (zero_not_one (cc)))
      (λ rule s. absurd (zero_not_one (cc)))

  pub child-word : (c : ℕ) → slot_at ss n j ≡ Ok (Child c) → ChildSlot ss n j c
  unfolding slot_at
  child-word v e =
      let x = get_or ss (kind_word (n.start + j)) 0 in
      kinds n j x
      (λ k s. absurd (zero_not_one (cc)))
      (λ k q s. absurd (zero_not_one (cc)))
      (λ k s. let b : x % kind_unit ≡ v = cc in record { word = omega (arith, k, b); small = omega (arith, b) })
      (λ rule s. absurd (zero_not_one (cc)))
