-- A tree held in memory has no more nodes than there are records: no two share one. Assumes nothing.
use mathlib.Core.Logic.{⊎_elim}
use mathlib.Core.Path.{◌≡◌, refl, subst}
use native.Mathlib.Omega.{arith}
use Prim.Native.Nat.{ℕ, zero, suc, zero-le, ◌+◌, ◌<◌, ◌≤◌}
use Rattle.laws.proofs.Tests.{le_or_lt}
use Rattle.pool.specs.Memory.{Mem}
use Rattle.demands.specs.Placed.{Branch, null, leaf, sub, Forest, nil, cons, len, bit, cell_w, at, in_b, in_f, OkB, OkF}
use Rattle.demands.proofs.Plugs.{at_same}
use Rattle.demands.proofs.Reading.{Holds, bit_small}
use Rattle.demands.proofs.Sifting.{nodes_b, nodes_f}

abbrev sum_to : ℕ → (ℕ → ℕ) → ℕ
sum_to zero φ = 0
sum_to (suc n) φ = φ n + sum_to n φ

sum-most : (n : ℕ) (φ : ℕ → ℕ) → ((x : ℕ) → φ x ≤ 1) → sum_to n φ ≤ n
sum-most zero φ h = zero-le
sum-most (suc n) φ h = omega (arith, h n, sum-most n φ h)

sum_at : (n a : ℕ) → a < n → 1 ≤ sum_to n (at a 1)
sum_at zero a h = absurd (no h)
  where
    no : a < 0 → ⊥
    no x = omega arith
sum_at (suc n) a h = ⊎_elim (λ e. omega (arith, here (omega arith))) (λ e. omega (arith, sum_at n a e)) (le_or_lt n a)
  where
    here : a ≡ n → at a 1 n ≡ 1
    here e = subst (λ (y : ℕ). at a 1 y ≡ 1) e (at_same a 1)

sum_add : (n : ℕ) (φ ψ χ : ℕ → ℕ) → ((x : ℕ) → φ x ≡ ψ x + χ x) → sum_to n φ ≡ sum_to n ψ + sum_to n χ
sum_add zero φ ψ χ h = refl
sum_add (suc n) φ ψ χ h = omega (arith, h n, sum_add n φ ψ χ h)

sum-none : (n : ℕ) → sum_to n (λ x. 0) ≡ 0
sum-none zero = refl
sum-none (suc n) = omega (arith, sum-none n)

module _ (R S : ℕ) where
  mutual
    count-b : (b : Branch) → OkB R S b → nodes_b b ≤ sum_to R (λ x. in_b R (cell_w bit) x b)
    count-b null o = zero-le
    count-b (leaf k p) o = zero-le
    count-b (sub h g) o =
        omega (
          arith,
          sum_add R (λ x. in_b R (cell_w bit) x (sub h g)) (at h.at 1) (λ x. in_f R (cell_w bit) x (R + h.start) g) (λ x. refl),
          sum_at R h.at o.0.inside,
          count-f g (R + h.start) h.lo h.w (len g) 0 o.1,
        )

    count-f : (f : Forest) (a lo w l i : ℕ) → OkF R S lo w l i f → nodes_f f ≤ sum_to R (λ x. in_f R (cell_w bit) x a f)
    count-f nil a lo w l i o = zero-le
    count-f (cons b f) a lo w l i o =
        omega (
          arith,
          sum_add R (λ x. in_f R (cell_w bit) x a (cons b f)) (at a 1) (λ x. in_b R (cell_w bit) x b + in_f R (cell_w bit) x (a + 1) f) (λ x. refl),
          sum_add R (λ x. in_b R (cell_w bit) x b + in_f R (cell_w bit) x (a + 1) f) (λ x. in_b R (cell_w bit) x b) (λ x. in_f R (cell_w bit) x (a + 1) f) (λ x. refl),
          count-b b o.1,
          count-f f (a + 1) lo w l (i + 1) o.2,
        )

  pub held_once : (m : Mem) (b : Branch) → Holds R m b → (x : ℕ) → in_b R (cell_w bit) x b ≤ 1
  held_once m b k x = ⊎_elim (λ h. omega (arith, k x h bit, bit_small R m x)) (λ h. omega arith) (le_or_lt 1 (in_b R (cell_w bit) x b))

  pub nodes-few : (m : Mem) (b : Branch) → OkB R S b → Holds R m b → nodes_b b ≤ R
  nodes-few m b o k = omega (arith, count-b b o, sum-most R (λ x. in_b R (cell_w bit) x b) (held_once m b k))
