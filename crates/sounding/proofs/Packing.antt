-- What the two calls answer by their definitions, case by case. There is one law for each way out of the code, over plain
-- numbers.
use mathlib.Core.Bool.{and-false}
use mathlib.Core.List.{[], ◌∷◌}
use mathlib.Core.Path.{◌≡◌}
use Prim.Native.Nat.{ℕ, ◌<◌, ◌≤◌}
use lib.IntN.{ℤ}
use lib.Signed.{◌≤ℤ◌, ◌<ℤ◌, le_z}
use borrow.Author.Tests.{lt-ltb, le-ltb, le-leb, lt-leb}
use Rattle.laws.specs.Answers.{done, refused, out_of_range}
use Rattle.laws.specs.Keys.{key_bound}
use Rattle.sounding.specs.Studio.{least_depth, most_depth, most_number, depth_in_range, number_in_range, key_of, sounding_of, pack_of, unpack_of}
use Rattle.sounding.proofs.Tests.{le_le_z, lt_le_z}

pub shoaler_than_the_least : (d : ℤ) (n : ℕ) → d <ℤ least_depth → pack_of d n ≡ refused out_of_range
unfolding pack_of depth_in_range
shoaler_than_the_least d n h = rw (lt_le_z h)

pub deeper_than_the_most : (d : ℤ) (n : ℕ) → most_depth <ℤ d → pack_of d n ≡ refused out_of_range
unfolding pack_of depth_in_range
deeper_than_the_most d n h = rw (lt_le_z h, and-false (le_z least_depth d))

pub number-above_the_most : (d : ℤ) (n : ℕ) → most_number < n → pack_of d n ≡ refused out_of_range
unfolding pack_of number_in_range
number-above_the_most d n h = rw (lt-leb n most_number h, and-false (depth_in_range d))

pub pack-in_range : (d : ℤ) (n : ℕ) → least_depth ≤ℤ d → d ≤ℤ most_depth → n ≤ most_number → pack_of d n ≡ done (key_of d n ∷ [])
unfolding pack_of depth_in_range number_in_range
pack-in_range d n h k l = rw (le_le_z h, le_le_z k, le-leb n most_number l)

pub key-past_the_last : (key : ℕ) → key_bound ≤ key → unpack_of key ≡ refused out_of_range
unfolding unpack_of
key-past_the_last key h = rw (le-ltb key key_bound h)

pub unpack-in_range : (key : ℕ) → key < key_bound → unpack_of key ≡ done (sounding_of key ∷ [])
unfolding unpack_of
unpack-in_range key h = rw (lt-ltb key key_bound h)
