-- Due nodes: the four conditions behind the test, and the search along a path. Assumes nothing.
use mathlib.Core.Bool.{Bool, true, false}
use mathlib.Core.List.{List, [], ◌∷◌}
use mathlib.Core.Path.{◌≡◌, refl, ◌∙◌}
use Prim.Native.Nat.{ℕ, suc, ◌+◌, ◌-◌, ◌*◌, ◌<◌, ◌≤◌}
use native.Mathlib.Omega.{arith}
use borrow.Author.Tests.{ltb-true, ltb-false, leb-true, le-leb}
use lib.Dec.{ltb, leb}
use lib.ListN.{length, get_or, take, length-take}
use Rattle.std.specs.List.{position_or_len, position}
use Rattle.std.specs.Option.{unwrap_or}
use Rattle.std.specs.Prelude.{Option}
use Rattle.std.proofs.lemmas.List.{get_or_default, get_or-take}
use Rattle.walk.specs.declared.Path.{Path}
use Rattle.pool.specs.Memory.{records_in}
use Rattle.laws.proofs.Tests.{and_both, both, fails, pick_in}
use Rattle.model.specs.Slots.{most_slots}
use Rattle.counters.specs.Counters.{least_due, is_due, due_node, due_in, OnPath}

-- the four conditions of a due node
pub record Due (elements built conflicts l : ℕ) : Type 0 where
  pub many : least_due ≤ elements
  pub grown : 2 * built ≤ elements
  pub crowded : elements - built ≤ 10 * conflicts
  pub below : l < most_slots

module _ (e b c l : ℕ) where
  pub due_holds : is_due e b c l ≡ true → Due e b c l
  unfolding is_due
  due_holds t =
      let x = and_both (leb least_due e) _ t in
      let y = and_both (leb (2 * b) e) _ x.1 in
      let z = and_both (leb (e - b) (10 * c)) _ y.1 in
      record { many = leb-true _ _ x.0; grown = leb-true _ _ y.0; crowded = leb-true _ _ z.0; below = ltb-true _ _ z.1 }

  pub not-due : (Due e b c l → ⊥) → false ≡ is_due e b c l
  not-due h = fails _ (λ t. h (due_holds t))

  -- where the counters say so, the slots decide
  pub due_by_slots : least_due ≤ e → 2 * b ≤ e → e - b ≤ 10 * c → ltb l most_slots ≡ is_due e b c l
  unfolding is_due
  due_by_slots many grown crowded = rw (le-leb least_due e many, le-leb (2 * b) e grown, le-leb (e - b) (10 * c) crowded)

-- the place found is that of the first due node
pub due_first : (ns : List ℕ) (conflict : Bool) (p : List ℕ) → position_or_len (due_node ns conflict) p ≡ due_in ns conflict p
unfolding due_in
due_first ns conflict [] = refl
due_first ns conflict (r ∷ p) =
    both (due_node ns conflict r)
    (λ e. rw e)
    (λ e. rw (e, due_first ns conflict p) (omega arith))

-- the place found is one of the path's, or its length
pub due_within : (ns : List ℕ) (conflict : Bool) (p : List ℕ) → due_in ns conflict p ≤ length p
unfolding due_in
due_within ns conflict [] = omega arith
due_within ns conflict (r ∷ p) =
    let h : due_in ns conflict p ≤ length p = due_within ns conflict p in
    pick_in (λ (x : ℕ). x ≤ suc (length p)) (due_node ns conflict r) 0 (1 + due_in ns conflict p) (omega arith) (omega arith)

pub due_among : (ns : List ℕ) (conflict : Bool) (ps : List ℕ) (n : ℕ) → due_in ns conflict (take n ps) ≤ n
due_among ns conflict ps n = omega (arith, due_within ns conflict (take n ps), length-take n ps)

-- what `position` finds, or the path's length where it finds none
pub due_found : (ns : List ℕ) (conflict : Bool) (p : List ℕ) (n : ℕ) (r : Option ℕ) → length p ≡ n → r ≡ position (due_node ns conflict) p
    → unwrap_or r n ≡ due_in ns conflict p
due_found ns conflict p n r long e =
    let d : due_in ns conflict p ≤ length p = due_within ns conflict p in
    both (ltb (due_in ns conflict p) (length p))
    (λ t. rw (e, due_first ns conflict p, t))
    (λ t. rw (e, due_first ns conflict p, t) (omega (arith, ltb-false (due_in ns conflict p) (length p) t)))

-- each record of a path is the pool's
pub due_inside : (ns : List ℕ) (p : Path) → OnPath ns p → (k x : ℕ) → k < length (take p.len p.nodes) → x ≡ get_or (take p.len p.nodes) k x
    → x < records_in ns
due_inside ns p on k x h e =
    let short : k < p.len = omega (arith, length-take p.len p.nodes) in
    let r : x ≡ get_or p.nodes k 0 = e ∙ get_or_default (take p.len p.nodes) k x 0 h ∙ get_or-take p.len p.nodes k 0 short in
    rw r (on.within k short)
