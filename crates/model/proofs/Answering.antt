-- The answers of the two public choices: a law for each way out of model choice, and that an answer determines the code's
-- result, so that any two results that a contract allows coincide. Assumes nothing.
use mathlib.Core.List.{List}
use mathlib.Core.Path.{◌≡◌, sym, ap}
use Prim.Native.Nat.{ℕ, ◌/◌, ◌%◌, ◌<◌, ◌≤◌}
use native.Mathlib.Omega.{arith}
use borrow.Author.Tests.{eq-eqb, ne_eqb, lt-ltb, le-ltb, le-leb, lt-leb}
use lib.Dec.{eqb}
use lib.ListN.{length}
use Rattle.laws.proofs.Bytes.{AreBytes, length_in, keys_small}
use Rattle.laws.proofs.Risings.{fall_within, fall_rising}
use Rattle.laws.proofs.Tests.{both}
use Rattle.laws.specs.Answers.{Answer, done}
use Rattle.laws.specs.Bytes.{keys_in}
use Rattle.laws.specs.Keys.{Rising, first_fall}
use Rattle.model.specs.Choice.{most_keys, choice_of, chosen_values, choice_over, model_choice, chosen}
use Rattle.model.specs.Slots.{slotted, slot_choice}
use Rattle.model.specs.declared.Choice.{Choice}
use Rattle.model.specs.declared.Model.{Model}
use Rattle.laws.specs.declared.Refusal.{Refusal}
use Rattle.laws.specs.declared.Refusal.TheVariants.{WrongSizes, NotRising}
use Rattle.laws.specs.Refusals.{refusal}
use Rattle.laws.proofs.Refusals.{refusal_injective, refusal-not_done}
use Rattle.std.proofs.Common.{Result, Ok, Err}

module _ (bs : List ℕ) where
  pub choice_uneven : (length bs % 6 ≡ 0 → ⊥) → refusal WrongSizes ≡ model_choice bs
  unfolding model_choice
  choice_uneven h = rw (ne_eqb (length bs % 6) 0 h)

  pub choice_many : most_keys < length bs / 6 → refusal WrongSizes ≡ model_choice bs
  unfolding model_choice
  choice_many h = both (eqb (length bs % 6) 0) (λ e. rw (e, lt-leb (length bs / 6) most_keys h)) (λ e. rw e)

  module _ (whole : length bs % 6 ≡ 0) (few : length bs / 6 ≤ most_keys) (f : ℕ) (e : f ≡ first_fall (keys_in bs)) where
    pub choice_falls : f < length bs / 6 → refusal (NotRising f) ≡ model_choice bs
    unfolding model_choice choice_over
    choice_falls lt =
        let q : first_fall (keys_in bs) < length (keys_in bs) = rw (length_in bs) (omega arith) in
        rw (eq-eqb (length bs % 6) 0 whole, le-leb (length bs / 6) most_keys few, lt-ltb (first_fall (keys_in bs)) (length (keys_in bs)) q, e)

    pub choice_is : length bs / 6 ≤ f → (c : Choice) → c ≡ choice_of (keys_in bs) → done (chosen_values c) ≡ model_choice bs
    unfolding model_choice choice_over
    choice_is le c r =
        let q : length (keys_in bs) ≤ first_fall (keys_in bs) = rw (length_in bs) (omega arith) in
        rw (eq-eqb (length bs % 6) 0 whole, le-leb (length bs / 6) most_keys few, le-ltb (first_fall (keys_in bs)) (length (keys_in bs)) q, r)

  -- a list of bytes whose keys nowhere fall
  pub choice-rising : AreBytes bs → (f : ℕ) → f ≡ first_fall (keys_in bs) → length bs / 6 ≤ f → Rising (keys_in bs)
  choice-rising h f e le =
      let n : length (keys_in bs) ≡ length bs / 6 = length_in bs in
      let q : first_fall (keys_in bs) ≤ length (keys_in bs) = fall_within (keys_in bs) in
      record { below = keys_small bs h; rises = fall_rising (keys_in bs) (omega arith) }

-- what an answer holds
numbers-same : {A : Type 0} {a b : Answer A} → a ≡ b → a.number ≡ b.number
numbers-same {A} e = ap (λ (x : Answer A). x.number) e

values_same : {A : Type 0} {a b : Answer A} → a ≡ b → a.values ≡ b.values
values_same {A} e = ap (λ (x : Answer A). x.values) e

-- an answer of slot choice is the answer of one result alone
pub slotted-one : (a b : Result ℕ Refusal) → slotted a ≡ slotted b → a ≡ b
unfolding slotted
slotted-one (Ok s) (Ok t) e = let v = values_same e in cc
slotted-one (Ok s) (Err x) e = absurd (refusal-not_done x _ (sym e))
slotted-one (Err x) (Ok t) e = absurd (refusal-not_done x _ e)
slotted-one (Err x) (Err y) e = ap Err (refusal_injective x y e)

values_one : (c d : Choice) → chosen_values c ≡ chosen_values d → c ≡ d
unfolding chosen_values
values_one c d v =
    let l : c.model.l ≡ d.model.l = cc in
    let t : c.t ≡ d.t = cc in
    let lo : c.model.lo ≡ d.model.lo = cc in
    let w : c.model.w ≡ d.model.w = cc in
    λ i. record { model = record { lo = lo i; w = w i; l = l i }; t = t i }

-- an answer of model choice is the answer of one result alone
pub chosen-one : (a b : Result Choice Refusal) → chosen a ≡ chosen b → a ≡ b
unfolding chosen
chosen-one (Ok c) (Ok d) e = ap Ok (values_one c d (values_same e))
chosen-one (Ok c) (Err x) e = absurd (refusal-not_done x _ (sym e))
chosen-one (Err x) (Ok d) e = absurd (refusal-not_done x _ e)
chosen-one (Err x) (Err y) e = ap Err (refusal_injective x y e)

-- so what the two contracts say determines what the calls return
pub slot_choice_determined : (a b : Result ℕ Refusal) (k : ℕ) (m : Model) → slotted a ≡ slot_choice k m → slotted b ≡ slot_choice k m → a ≡ b
slot_choice_determined a b k m p q = slotted-one a b (cc)

pub model_choice_determined : (a b : Result Choice Refusal) (bs : List ℕ) → chosen a ≡ model_choice bs → chosen b ≡ model_choice bs → a ≡ b
model_choice_determined a b bs p q = chosen-one a b (cc)
