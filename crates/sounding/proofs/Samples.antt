-- The ends of the ranges of packing and unpacking, the first values past them, and P9's way back. Each answer is computed by the
-- definitions. Document 01's own cases, the least depth and the first one past it among them, stand in the crate demands.
use mathlib.Core.List.{[], ◌∷◌}
use mathlib.Core.Path.{◌≡◌, refl}
use Prim.Native.Nat.{◌-◌, ◌^◌}
use lib.IntN.{pos, neg_ℤ}
use Rattle.laws.specs.Answers.{done, refused}
use Rattle.sounding.specs.Studio.{depth_in_range, number_in_range, key_of, sounding_of, pack_of, unpack_of}

pub deepest_with_the_most_number : pack_of (pos 1028575) 268435455 ≡ done ((2 ^ 48 - 1) ∷ [])
unfolding pack_of depth_in_range number_in_range key_of
deepest_with_the_most_number = refl

pub one_deeper : pack_of (pos 1028576) 0 ≡ refused 2
unfolding pack_of depth_in_range number_in_range key_of
one_deeper = refl

pub one-number-more : pack_of (pos 0) 268435456 ≡ refused 2
unfolding pack_of depth_in_range number_in_range key_of
one-number-more = refl

pub p9_unpacked : unpack_of 5328443801607 ≡ done ((record { depth = neg_ℤ (pos 150); number = 7 }) ∷ [])
unfolding unpack_of sounding_of
p9_unpacked = refl

pub first_key : unpack_of 0 ≡ done ((record { depth = neg_ℤ (pos 20000); number = 0 }) ∷ [])
unfolding unpack_of sounding_of
first_key = refl

pub last-key : unpack_of (2 ^ 48 - 1) ≡ done ((record { depth = pos 1028575; number = 268435455 }) ∷ [])
unfolding unpack_of sounding_of
last-key = refl

pub one-key-more : unpack_of (2 ^ 48) ≡ refused 2
unfolding unpack_of sounding_of
one-key-more = refl
