-- Model choice tried: over bytes, one sample of each answer, and the list on which a search for T by halving goes wrong. Document
-- 01's own cases stand in the crate demands. Each answer is computed by the definitions.
use mathlib.Core.Bool.{true, false}
use mathlib.Core.List.{List, [], ◌∷◌}
use mathlib.Core.Path.{◌≡◌, refl}
use Prim.Native.Nat.{ℕ, ◌^◌}
use Rattle.laws.specs.Answers.{done, refused, refused_with, wrong_sizes, not_rising}
use Rattle.laws.specs.Bytes.{little_endian, keys_of, keys_in}
use Rattle.laws.specs.Keys.{fall_from, first_fall}
use Rattle.model.specs.Choice.{slots_for, count_at, spread_below, spread, model_at, least_from, t_of, empty_model, model_of, choice_of, chosen_values, choice_over, model_choice}
use Rattle.model.specs.Slots.{slot_of}

pub one_byte : model_choice (0 ∷ []) ≡ refused wrong_sizes
unfolding model_choice
one_byte = refl

-- the keys 4, 4
pub same-key_twice : model_choice (4 ∷ 0 ∷ 0 ∷ 0 ∷ 0 ∷ 0 ∷ 4 ∷ 0 ∷ 0 ∷ 0 ∷ 0 ∷ 0 ∷ []) ≡ refused_with not_rising (1 ∷ [])
unfolding model_choice choice_over keys_in keys_of little_endian first_fall fall_from
same-key_twice = refl

-- L 64, T 0, lo 0, W 2^48
pub no_key : model_choice [] ≡ done (64 ∷ 0 ∷ 0 ∷ 2 ^ 48 ∷ [])
unfolding model_choice choice_over chosen_values choice_of model_of t_of empty_model keys_in keys_of first_fall
no_key = refl

-- the key 5,328,443,801,607, lowest byte first: L 4, T 0, lo the key, W 1
pub one_key : model_choice (7 ∷ 0 ∷ 0 ∷ 160 ∷ 216 ∷ 4 ∷ []) ≡ done (4 ∷ 0 ∷ 5328443801607 ∷ 1 ∷ [])
unfolding model_choice choice_over chosen_values choice_of model_of t_of model_at slots_for keys_in keys_of little_endian first_fall fall_from
one_key = refl

-- T is 2: the test holds there, fails at 3 and holds at 4, so that halving the range from 1 to 5 would end at 4
abbrev uneven : List ℕ
uneven = 0 ∷ 1 ∷ 2 ∷ 7 ∷ 8 ∷ 9 ∷ 10 ∷ 67 ∷ 68 ∷ 69 ∷ 70 ∷ []

pub uneven_choice : choice_of uneven ≡ record { model = record { lo = 2; w = 67; l = 22 }; t = 2 }
unfolding choice_of model_of t_of least_from model_at slots_for spread spread_below count_at slot_of
uneven_choice = refl

pub uneven_at_2 : spread (model_at uneven 2) 2 uneven ≡ true
unfolding model_at slots_for spread spread_below count_at slot_of
uneven_at_2 = refl

pub uneven_at_3 : spread (model_at uneven 3) 3 uneven ≡ false
unfolding model_at slots_for spread spread_below count_at slot_of
uneven_at_3 = refl

pub uneven_at_4 : spread (model_at uneven 4) 4 uneven ≡ true
unfolding model_at slots_for spread spread_below count_at slot_of
uneven_at_4 = refl
