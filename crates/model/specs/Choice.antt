-- Choosing a node's model over rising keys (document 01, "To build a node over n rising keys"), and the C edge's model choice
-- over keys of 6 bytes. Definitions only; that the T searched for exists is a theorem (proofs/Least).
use Rattle.std.specs.Prelude.{Result, Ok, Err, Bool, true, false, List, [], ◌∷◌, ℕ, zero, suc, ◌+◌, ◌-◌, ◌*◌, ◌/◌, ◌%◌, min, max, ltb, leb, eqb, length, get_or}
use Rattle.laws.specs.Answers.{Answer, done, refused, refused_with, wrong_sizes, not_rising}
use Rattle.laws.specs.Bytes.{key_bytes, keys_in}
use Rattle.laws.specs.Keys.{first_fall}
use Rattle.laws.specs.Pick.{pick}
use Rattle.laws.specs.Refusals.{refusal}
use Rattle.laws.specs.declared.Refusal.{Refusal}
use Rattle.model.specs.Slots.{least_slots, most_slots, value_of, value_bound, slot_of}
use Rattle.model.specs.declared.Choice.{Choice}
use Rattle.model.specs.declared.Model.{Model}

-- "L = 2n, raised to 4 or lowered to 4,096"
unfoldable pub slots_for : ℕ → ℕ
slots_for n = min most_slots (max least_slots (2 * n))

-- how many of the keys go to slot s
unfoldable pub count_at : Model → ℕ → List ℕ → ℕ
count_at m s [] = 0
count_at m s (k ∷ ks) = pick (eqb (slot_of m (value_of k)) s) (suc (count_at m s ks)) (count_at m s ks)

-- no slot below s gets more than t of the keys
unfoldable pub spread_below : Model → ℕ → List ℕ → ℕ → Bool
spread_below m t ks zero = true
spread_below m t ks (suc s) = pick (leb (count_at m s ks) t) (spread_below m t ks s) false

-- "no slot gets more than T of the keys"
unfoldable pub spread : Model → ℕ → List ℕ → Bool
spread m t ks = spread_below m t ks m.l

-- "lo = k[T], W = k[n-1-T] - k[T] + 1"
unfoldable pub model_at : List ℕ → ℕ → Model
model_at ks t = record {
  lo = value_of (get_or ks t 0);
  w = value_of (get_or ks (length ks - 1 - t) 0) - value_of (get_or ks t 0) + 1;
  l = slots_for (length ks);
}

-- the least of the tries t, t + 1, .., f of them, that passes; the one after them if none does
unfoldable pub least_from : (ℕ → Bool) → ℕ → ℕ → ℕ
least_from passes t zero = t
least_from passes t (suc f) = pick (passes t) t (least_from passes (t + 1) f)

-- "n = 1 or 2: T = 0. n >= 3: T is the least number, 1 <= T <= floor((n-1)/2), for which no slot gets more than T"
unfoldable pub t_of : List ℕ → ℕ
t_of ks = pick (ltb (length ks) 3) 0 (least_from (λ t. spread (model_at ks t) t ks) 1 ((length ks - 1) / 2))

-- "n = 0: T = 0, L = 64, lo = 0, W = 2^48"
abbrev pub empty_slots : ℕ
empty_slots = 64

unfoldable pub empty_model : Model
empty_model = record { lo = 0; w = value_bound; l = empty_slots }

unfoldable pub model_of : List ℕ → Model
model_of ks = pick (ltb (length ks) 1) empty_model (model_at ks (t_of ks))

unfoldable pub choice_of : List ℕ → Choice
choice_of ks = record { model = model_of ks; t = t_of ks }

-- the most keys of one model choice
abbrev pub most_keys : ℕ
most_keys = 16384

-- "L, T, lo, W"
unfoldable pub chosen_values : Choice → List ℕ
chosen_values c = c.model.l ∷ c.t ∷ c.model.lo ∷ c.model.w ∷ []

-- over a list of keys: 4 with the place of the first that is not above its forerunner, else the model
unfoldable pub choice_over : List ℕ → Answer ℕ
choice_over ks = pick (ltb (first_fall ks) (length ks)) (refused_with not_rising (first_fall ks ∷ [])) (done (chosen_values (choice_of ks)))

-- "takes keys of 6 bytes and answers 1 for a length that is no multiple of 6 or more than 16,384 keys, then 4; else L, T, lo, W"
unfoldable pub model_choice : List ℕ → Answer ℕ
model_choice bs =
    pick (eqb (length bs % key_bytes) 0)
    (pick (leb (length bs / key_bytes) most_keys) (choice_over (keys_in bs)) (refused wrong_sizes))
    (refused wrong_sizes)

-- which answer each result is
unfoldable pub chosen : Result Choice Refusal → Answer ℕ
chosen (Ok c) = done (chosen_values c)
chosen (Err e) = refusal e
