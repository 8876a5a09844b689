-- An answer that is not Ok is a refusal: its number is the refusal's, which is not 0. Assumes nothing.
use Rattle.std.proofs.Common.{◌≡◌, ℕ, refl, sym, Result, Ok, Err}
use Rattle.insert.specs.Inserting.{inserted}
use Rattle.insert.specs.declared.Inserted.{Inserted}
use Rattle.laws.proofs.Refusals.{number-refusal, refusal-not_0}
use Rattle.laws.specs.Answers.{Answer}
use Rattle.laws.specs.Refusals.{refusal, status_of}
use Rattle.laws.specs.declared.Refusal.{Refusal}
use Rattle.listing.specs.declared.Listed.{Listed}
use Rattle.store.specs.Bands.{listed}
use Rattle.store.specs.Calls.{looked, changed}
use Rattle.store.specs.declared.Looked.{Looked}

module _ {T : Type 0} (f : Result T Refusal → Answer ℕ) (ok : (x : T) → (f (Ok x)).number ≡ 0) (err : (e : Refusal) → f (Err e) ≡ refusal e) where
  status-number : (a : Result T Refusal) → status_of a ≡ (f a).number
  status-number (Ok x) = sym (ok x)
  status-number (Err e) = rw (err e) (sym (number-refusal e))

  not_ok-refuses : (a : Result T Refusal) → ((x : T) → a ≡ Ok x → ⊥) → (f a).number ≡ 0 → ⊥
  not_ok-refuses (Ok x) h z = h x refl
  not_ok-refuses (Err e) h z = refusal-not_0 e (rw (err e) at z)

pub inserted-number : (a : Result Inserted Refusal) → status_of a ≡ (inserted a).number
unfolding inserted
inserted-number a = status-number inserted (λ x. refl) (λ e. refl) a

pub inserted-refuses : (a : Result Inserted Refusal) → ((x : Inserted) → a ≡ Ok x → ⊥) → (inserted a).number ≡ 0 → ⊥
unfolding inserted
inserted-refuses a = not_ok-refuses inserted (λ x. refl) (λ e. refl) a

pub looked-number : (a : Result Looked Refusal) → status_of a ≡ (looked a).number
unfolding looked
looked-number a = status-number looked (λ x. refl) (λ e. refl) a

pub looked-refuses : (a : Result Looked Refusal) → ((x : Looked) → a ≡ Ok x → ⊥) → (looked a).number ≡ 0 → ⊥
unfolding looked
looked-refuses a = not_ok-refuses looked (λ x. refl) (λ e. refl) a

pub changed-number : (a : Result (Unit {0}) Refusal) → status_of a ≡ (changed a).number
unfolding changed
changed-number a = status-number changed (λ x. refl) (λ e. refl) a

pub changed-refuses : (a : Result (Unit {0}) Refusal) → ((x : Unit {0}) → a ≡ Ok x → ⊥) → (changed a).number ≡ 0 → ⊥
unfolding changed
changed-refuses a = not_ok-refuses changed (λ x. refl) (λ e. refl) a

pub listed-number : (a : Result Listed Refusal) → status_of a ≡ (listed a).number
unfolding listed
listed-number a = status-number listed (λ x. refl) (λ e. refl) a

pub listed-refuses : (a : Result Listed Refusal) → ((x : Listed) → a ≡ Ok x → ⊥) → (listed a).number ≡ 0 → ⊥
unfolding listed
listed-refuses a = not_ok-refuses listed (λ x. refl) (λ e. refl) a
