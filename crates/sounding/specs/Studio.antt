-- Studio keys (document 01, "What the index holds"): the key of a depth and a number, the sounding of a key, and what the two
-- calls answer to every input. The contracts of `pack` and `unpack` cite them. Definitions only.
use Rattle.std.specs.Prelude.{Bool, Result, Ok, Err, ◌&&◌, [], ◌∷◌, ℕ, ◌+◌, ◌*◌, ◌/◌, ◌%◌, ◌^◌, ltb, leb, ℤ, pos, neg_ℤ, nat_abs, ◌+ℤ◌, ◌-ℤ◌}
use Rattle.std.specs.Int.Signed.{le_z}
use Rattle.laws.specs.Pick.{pick}
use Rattle.laws.specs.Answers.{Answer, done, refused, out_of_range}
use Rattle.laws.specs.Keys.{key_bound}
use Rattle.sounding.specs.declared.Sounding.{Sounding}
use Rattle.sounding.specs.declared.OutOfRange.{OutOfRange}

-- "Depth is signed centimetres, negative where it dries, from -20,000 to 1,028,575; number is 0 to 268,435,455."
abbrev pub least_depth : ℤ
least_depth = neg_ℤ (pos 20000)

abbrev pub most_depth : ℤ
most_depth = pos 1028575

abbrev pub most_number : ℕ
most_number = 268435455

unfoldable pub depth_in_range : ℤ → Bool
depth_in_range depth = le_z least_depth depth && le_z depth most_depth

unfoldable pub number_in_range : ℕ → Bool
number_in_range number = leb number most_number

-- "A studio key is (depth + 20,000) x 2^28 + number." In range the sum is not negative, and `nat_abs` is the sum as a natural number
unfoldable pub key_of : ℤ → ℕ → ℕ
key_of depth number = nat_abs (depth +ℤ pos 20000) * 2 ^ 28 + number

-- "Both directions are supplied."
unfoldable pub sounding_of : ℕ → Sounding
sounding_of key = record { depth = pos (key / 2 ^ 28) -ℤ pos 20000; number = key % 2 ^ 28 }

-- the calls: done with the key or the sounding, or refused with 2, "key, depth or number out of range"
unfoldable pub pack_of : ℤ → ℕ → Answer ℕ
pack_of depth number =
    pick (depth_in_range depth && number_in_range number) (done (key_of depth number ∷ [])) (refused out_of_range)

unfoldable pub unpack_of : ℕ → Answer Sounding
unpack_of key = pick (ltb key key_bound) (done (sounding_of key ∷ [])) (refused out_of_range)

-- which answer each result is
unfoldable pub packed : Result ℕ OutOfRange → Answer ℕ
packed (Ok key) = done (key ∷ [])
packed (Err e) = refused out_of_range

unfoldable pub unpacked : Result Sounding OutOfRange → Answer Sounding
unpacked (Ok sounding) = done (sounding ∷ [])
unpacked (Err e) = refused out_of_range
