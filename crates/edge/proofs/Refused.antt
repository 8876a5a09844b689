-- A refusal of slot choice or of model choice, passed on: its number, and the place of a key that does not rise.
use Rattle.std.proofs.Common.{◌≡◌, ◌≢◌, false, eqb, ltb, leb, ℕ, ◌/◌, ◌%◌, length, List, refl, sym, ap}
use borrow.Author.Tests.{eqb-false}
use Rattle.laws.specs.Answers.{Answer, not_rising, not_held}
use Rattle.laws.specs.Bytes.{key_bytes, keys_in}
use Rattle.laws.specs.Keys.{key_bound, first_fall}
use Rattle.laws.specs.Refusals.{number_of, refusal}
use Rattle.laws.specs.declared.Refusal.{Refusal}
use Rattle.laws.specs.declared.Refusal.TheVariants.{WrongSizes, OutOfRange, Reversed, NotRising, Held, NotHeld, Full, NoRoom, Damage}
use Rattle.laws.proofs.Tests.{both}
use Rattle.model.specs.Choice.{most_keys, choice_over, model_choice}
use Rattle.model.specs.Slots.{in_range, slot_choice}
use Rattle.model.specs.declared.Model.{Model}
use Rattle.edge.specs.Passing.{pass_slot, pass_model}

-- slot choice tells no place and no visits, and model choice no visits
slot_tells_none : (k : ℕ) (m : Model) → (eqb (slot_choice k m).number not_rising ≡ false) × (eqb (slot_choice k m).number not_held ≡ false)
unfolding slot_choice
slot_tells_none k m = both (ltb k key_bound) (λ e. rw e (both (in_range m) (λ f. rw f (refl, refl)) (λ f. rw f (refl, refl)))) (λ e. rw e (refl, refl))

model_tells_no_visits : (bs : List ℕ) → eqb (model_choice bs).number not_held ≡ false
unfolding model_choice choice_over
model_tells_no_visits bs =
    both (eqb (length bs % key_bytes) 0)
    (λ e.
    rw e
    (both (leb (length bs / key_bytes) most_keys)
    (λ f. rw f (both (ltb (first_fall (keys_in bs)) (length (keys_in bs))) (λ g. rw g) (λ g. rw g)))
    (λ f. rw f)))
    (λ e. rw e)

number_in : {a : Answer ℕ} (e : Refusal) → refusal e ≡ a → (refusal e).number ≡ a.number
number_in e h = ap (λ (x : Answer ℕ). x.number) h

pub slot_refused : (e : Refusal) (k : ℕ) (m : Model) → refusal e ≡ slot_choice k m → record { number = number_of e; slot = 0 } ≡ pass_slot (slot_choice k m)
unfolding pass_slot
slot_refused (NotRising p) k m h = absurd (eqb-false _ _ (slot_tells_none k m).0 (sym (number_in (NotRising p) h)))
slot_refused (NotHeld v) k m h = absurd (eqb-false _ _ (slot_tells_none k m).1 (sym (number_in (NotHeld v) h)))
slot_refused WrongSizes k m h = ap pass_slot h
slot_refused OutOfRange k m h = ap pass_slot h
slot_refused Reversed k m h = ap pass_slot h
slot_refused Held k m h = ap pass_slot h
slot_refused Full k m h = ap pass_slot h
slot_refused NoRoom k m h = ap pass_slot h
slot_refused Damage k m h = ap pass_slot h

-- r is the place of a refusal that tells one, and 0 of any other
pub model_refused : (e : Refusal) (bs : List ℕ) (r : ℕ) → refusal e ≡ model_choice bs → ((p : ℕ) → e ≡ NotRising p → r ≡ p) → (((p : ℕ) → e ≢ NotRising p) → r ≡ 0)
    → record { number = number_of e; place = r; l = 0; t = 0; lo = 0; w = 0 } ≡ pass_model (model_choice bs)
unfolding pass_model
model_refused (NotRising p) bs r h place none = rw (place p refl) (ap pass_model h)
model_refused (NotHeld v) bs r h place none = absurd (eqb-false _ _ (model_tells_no_visits bs) (sym (number_in (NotHeld v) h)))
model_refused WrongSizes bs r h place none = rw (none (λ p q. cc)) (ap pass_model h)
model_refused OutOfRange bs r h place none = rw (none (λ p q. cc)) (ap pass_model h)
model_refused Reversed bs r h place none = rw (none (λ p q. cc)) (ap pass_model h)
model_refused Held bs r h place none = rw (none (λ p q. cc)) (ap pass_model h)
model_refused Full bs r h place none = rw (none (λ p q. cc)) (ap pass_model h)
model_refused NoRoom bs r h place none = rw (none (λ p q. cc)) (ap pass_model h)
model_refused Damage bs r h place none = rw (none (λ p q. cc)) (ap pass_model h)
