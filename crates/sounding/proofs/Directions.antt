-- Document 01, "Both directions are supplied": packing and unpacking undo each other. Every sounding in range has a key below
-- 2^48 that unpacks to it, and every key below 2^48 unpacks to a sounding in range that packs to it.
use mathlib.Core.Bool.{true}
use mathlib.Core.List.{[], ◌∷◌}
use mathlib.Core.Path.{◌≡◌, sym, ap, ◌∙◌, subst}
use Prim.Native.Nat.{ℕ, ◌+◌, ◌*◌, ◌/◌, ◌%◌, ◌^◌, ◌<◌, ◌≤◌}
use native.Mathlib.Omega.{arith}
use lib.IntN.{ℤ, pos, ◌+ℤ◌, ◌-ℤ◌, ◌*ℤ◌}
use Rattle.laws.specs.Answers.{Answer, done}
use Rattle.laws.specs.Keys.{key_bound}
use Rattle.sounding.specs.declared.Sounding.{Sounding}
use Rattle.sounding.specs.Studio.{most_number, depth_in_range, number_in_range, key_of, sounding_of, pack_of, unpack_of}
use Rattle.sounding.proofs.Tests.{depth_between, number_between}
use Rattle.sounding.proofs.Depths.{above, above_is_the_sum, above-below, above_back, count_back, count_between}
use Rattle.sounding.proofs.Packing.{pack-in_range, unpack-in_range}

-- a count of depths and a number, put together and taken apart
quotient_of_the_sum : (u n : ℕ) → n ≤ most_number → (u * 2 ^ 28 + n) / 2 ^ 28 ≡ u
quotient_of_the_sum u n h = omega arith

remainder_of_the_sum : (u n : ℕ) → n ≤ most_number → (u * 2 ^ 28 + n) % 2 ^ 28 ≡ n
remainder_of_the_sum u n h = omega arith

sum_of_the_parts : (key : ℕ) → key / 2 ^ 28 * 2 ^ 28 + key % 2 ^ 28 ≡ key
sum_of_the_parts key = omega arith

module _ (d : ℤ) (n : ℕ) (depth-in : depth_in_range d ≡ true) (number_in : number_in_range n ≡ true) where
  -- the key is document 01's sum, in the signed numbers
  pub key_is_the_sum : pos (key_of d n) ≡ (d +ℤ pos 20000) *ℤ pos (2 ^ 28) +ℤ pos n
  unfolding key_of
  key_is_the_sum = rw (above_is_the_sum d ((depth_between d).0 depth-in).0)

  pub key_below : key_of d n < key_bound
  unfolding key_of
  key_below =
      let b = (depth_between d).0 depth-in in
      omega (arith, above-below d b.0 b.1, (number_between n).0 number_in)

  sounding_of_the_key : sounding_of (key_of d n) ≡ record { depth = d; number = n }
  unfolding key_of sounding_of
  sounding_of_the_key =
      let h : n ≤ most_number = (number_between n).0 number_in in
      rw (quotient_of_the_sum (above d) n h, remainder_of_the_sum (above d) n h, above_back d ((depth_between d).0 depth-in).0)

  pub unpack-after-pack : unpack_of (key_of d n) ≡ done ((record { depth = d; number = n }) ∷ [])
  unpack-after-pack = rw (unpack-in_range (key_of d n) key_below, sounding_of_the_key)

module _ (key : ℕ) (below : key < key_bound) where
  pub sounding_in_range : (depth_in_range (sounding_of key).depth ≡ true) × (number_in_range (sounding_of key).number ≡ true)
  unfolding sounding_of
  sounding_in_range = (
    (depth_between (pos (key / 2 ^ 28) -ℤ pos 20000)).1 (count_between (key / 2 ^ 28) (omega arith)),
    (number_between (key % 2 ^ 28)).1 (omega arith),
  )

  pub key_of_the_sounding : key_of (sounding_of key).depth (sounding_of key).number ≡ key
  unfolding key_of sounding_of
  key_of_the_sounding = rw (count_back (key / 2 ^ 28)) (sum_of_the_parts key)

  sounding_packs_to_the_key : pack_of (sounding_of key).depth (sounding_of key).number ≡ done (key ∷ [])
  sounding_packs_to_the_key =
      let b = (depth_between (sounding_of key).depth).0 sounding_in_range.0 in
      rw (pack-in_range (sounding_of key).depth (sounding_of key).number b.0 b.1 ((number_between (sounding_of key).number).0 sounding_in_range.1), key_of_the_sounding)

  pub pack-after-unpack : (s : Sounding) → unpack_of key ≡ done (s ∷ []) → pack_of s.depth s.number ≡ done (key ∷ [])
  pack-after-unpack s e =
      let l : sounding_of key ∷ [] ≡ s ∷ [] = ap (λ (a : Answer Sounding). a.values) (sym (unpack-in_range key below) ∙ e) in
      let f : sounding_of key ≡ s = cc in
      subst (λ (t : Sounding). pack_of t.depth t.number ≡ done (key ∷ [])) f sounding_packs_to_the_key
