-- The faults of a list to load: the search as a loop makes it, and that a list without a fault rises. Assumes nothing.
use mathlib.Core.List.{List, [], ◌∷◌}
use mathlib.Core.Path.{◌≡◌}
use Prim.Native.Nat.{ℕ, zero, suc, ◌+◌, ◌<◌, ◌≤◌}
use native.Mathlib.Numerals.{add-one}
use native.Mathlib.Omega.{arith}
use borrow.Author.Tests.{lt-ltb, le-ltb, le-leb, lt-leb, ltb-true, leb-true}
use lib.Dec.{ltb, leb}
use lib.ListN.{length, get_or, drop, drop_of_length-le}
use lib.Seq.{drop-cons}
use Rattle.laws.proofs.Tests.{both}
use Rattle.laws.specs.Keys.{key_bound, Rising}
use Rattle.store.specs.Loading.{fault_from, first_fault}
use Rattle.store.specs.declared.Fault.{Fault}
use Rattle.store.specs.declared.Fault.TheVariants.{OutOfRange, NotRising}
use Rattle.std.specs.Prelude.{Option, Some, None}

-- at place i what is left to search is the whole search
module _ (ks : List ℕ) (i least : ℕ) (whole : Option Fault) (inv : fault_from i least (drop i ks) ≡ whole) where
  pub fault_none : length ks ≤ i → None ≡ whole
  unfolding fault_from
  fault_none h = rw (drop_of_length-le ks h) at inv

  module _ (h : i < length ks) where
    here : fault_from i least (get_or ks i 0 ∷ drop (suc i) ks) ≡ whole
    here = rw (drop-cons ks i 0 h) at inv

    pub fault_range : key_bound ≤ get_or ks i 0 → Some OutOfRange ≡ whole
    unfolding fault_from
    fault_range le = rw (le-ltb (get_or ks i 0) key_bound le) at here

    pub fault_fall : get_or ks i 0 < key_bound → get_or ks i 0 < least → Some (NotRising i) ≡ whole
    unfolding fault_from
    fault_fall lt low = rw (lt-ltb (get_or ks i 0) key_bound lt, lt-leb least (get_or ks i 0) low) at here

    pub fault_on : get_or ks i 0 < key_bound → least ≤ get_or ks i 0 → fault_from (i + 1) (get_or ks i 0 + 1) (drop (i + 1) ks) ≡ whole
    unfolding fault_from
    fault_on lt up = rw (add-one i) (rw (lt-ltb (get_or ks i 0) key_bound lt, le-leb least (get_or ks i 0) up, add-one i) at here)

-- a list without a fault
abbrev Fine : ℕ → List ℕ → Type 0
Fine least ks = ((i : ℕ) → i < length ks → (get_or ks i 0 < key_bound) × (least ≤ get_or ks i 0)) × ((i j : ℕ) → i < j → j < length ks → get_or ks i 0 < get_or ks j 0)

fault-some : {A : Type 0} → (f : Fault) → Some f ≡ None → A
fault-some f e = absurd (let z : ◌≡◌ {A = ℕ} 0 1 = cc in omega arith)

fine_cons : (least k : ℕ) (ks : List ℕ) → k < key_bound → least ≤ k → Fine (k + 1) ks → Fine least (k ∷ ks)
fine_cons least k ks lt le f = (each, rise)
  where
    each : (i : ℕ) → i < suc (length ks) → (get_or (k ∷ ks) i 0 < key_bound) × (least ≤ get_or (k ∷ ks) i 0)
    each zero h = (lt, le)
    each (suc i) h = let g = f.0 i (omega arith) in (g.0, omega (arith, g.1))

    rise : (i j : ℕ) → i < j → j < suc (length ks) → get_or (k ∷ ks) i 0 < get_or (k ∷ ks) j 0
    rise zero zero a b = absurd (omega arith)
    rise zero (suc j) a b = omega (arith, (f.0 j (omega arith)).1)
    rise (suc i) zero a b = absurd (omega arith)
    rise (suc i) (suc j) a b = f.1 i j (omega arith) (omega arith)

fault_fine : (i least : ℕ) (ks : List ℕ) → fault_from i least ks ≡ None → Fine least ks
unfolding fault_from
fault_fine i least [] e = (λ j h. absurd (omega arith), λ a b h g. absurd (omega arith))
fault_fine i least (k ∷ ks) e =
    both (ltb k key_bound)
    (λ p.
    both (leb least k)
    (λ q. fine_cons least k ks (ltb-true k key_bound p) (leb-true least k q) (fault_fine (i + 1) (k + 1) ks (rw (p, q) at e)))
    (λ q. fault-some (NotRising i) (rw (p, q) at e)))
    (λ p. fault-some OutOfRange (rw p at e))

pub faultless_rises : (ks : List ℕ) → first_fault ks ≡ None → Rising ks
unfolding first_fault
faultless_rises ks e =
    let f = fault_fine 0 0 ks e in
    record { below = λ i h. (f.0 i h).0; rises = f.1 }
