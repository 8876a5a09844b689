-- Keys in bytes: which bytes the i-th key is made of, that it is a key, how many there are, and that a key written in its bytes
-- reads back. Assumes nothing.
use mathlib.Core.List.{List, [], ◌∷◌, ◌++◌}
use mathlib.Core.Path.{◌≡◌, refl, ap, ◌∙◌}
use Prim.Native.Nat.{ℕ, zero, suc, ◌+◌, ◌*◌, ◌/◌, ◌^◌, ◌<◌, ◌≤◌}
use native.Mathlib.Omega.{arith}
use lib.ListN.{length, get_or, take, drop, length-drop, drop_of_length-le, get_or-eq_default}
use lib.Seq.{drop-cons, drop-drop}
use Rattle.std.proofs.Common.{replicate, set, sym, append_assoc, add-one}
use Rattle.std.proofs.Math.Seq.{set-append_seam, take-suc, length-take-le, get_or-drop}
use Rattle.std.specs.Int.{from_le_bytes, w64}
use Rattle.laws.proofs.Tests.{le_or_lt}
use mathlib.Core.Logic.{◌⊎◌, inl, inr}
use Rattle.laws.specs.Bytes.{little_endian, low_bytes, key_bytes, bytes_of, keys_of, keys_in}
use Rattle.laws.specs.Keys.{key_bound}

-- every element is a byte
abbrev pub AreBytes : List ℕ → Type 0
AreBytes bs = (i : ℕ) → get_or bs i 0 < 256

-- one byte more
little_more : (n p : ℕ) (bs : List ℕ) → little_endian (suc n) (drop p bs) ≡ get_or bs p 0 + 256 * little_endian n (drop (suc p) bs)
unfolding little_endian
little_more n p bs = go (le_or_lt (length bs) p)
  where
    none : (m : ℕ) → little_endian m [] ≡ 0
    none zero = refl
    none (suc m) = refl

    go : (length bs ≤ p) ⊎ (p < length bs) → little_endian (suc n) (drop p bs) ≡ get_or bs p 0 + 256 * little_endian n (drop (suc p) bs)
    go (inl h) = rw (drop_of_length-le bs h, drop_of_length-le bs {i = suc p} (omega arith), get_or-eq_default bs 0 h, none n)
    go (inr h) = rw (drop-cons bs p 0 h)

-- the six bytes of a key, lowest first
pub six_bytes : (p : ℕ) (bs : List ℕ)
    → little_endian key_bytes (drop p bs)
    ≡ get_or bs p 0 + 256 * (get_or bs (p + 1) 0 + 256 * (get_or bs (p + 2) 0 + 256 * (get_or bs (p + 3) 0 + 256 * (get_or bs (p + 4) 0 + 256 * get_or bs (p + 5) 0))))
unfolding little_endian
six_bytes p bs =
    let a1 : suc p ≡ p + 1 = omega arith in
    let a2 : suc (p + 1) ≡ p + 2 = omega arith in
    let a3 : suc (p + 2) ≡ p + 3 = omega arith in
    let a4 : suc (p + 3) ≡ p + 4 = omega arith in
    let a5 : suc (p + 4) ≡ p + 5 = omega arith in
    let e0 = rw a1 at (little_more 5 p bs) in
    let e1 = rw a2 at (little_more 4 (p + 1) bs) in
    let e2 = rw a3 at (little_more 3 (p + 2) bs) in
    let e3 = rw a4 at (little_more 2 (p + 3) bs) in
    let e4 = rw a5 at (little_more 1 (p + 4) bs) in
    let e5 = little_more 0 (p + 5) bs in
    rw (e0, e1, e2, e3, e4, e5) (omega arith)

zeros_say : (m : ℕ) → little_endian m (replicate m 0) ≡ 0
unfolding little_endian
zeros_say zero = refl
zeros_say (suc m) = rw (zeros_say m)

-- zeros after n bytes add nothing
padded : (n m : ℕ) (bs : List ℕ) → n ≤ m → n ≤ length bs → little_endian m (take n bs ++ drop n (replicate m 0)) ≡ little_endian n bs
unfolding little_endian
padded zero m bs h k = zeros_say m
padded (suc n) zero bs h k = absurd (omega arith)
padded (suc n) (suc m) [] h k = absurd (omega arith)
padded (suc n) (suc m) (b ∷ bs) h k = rw (padded n m bs (omega arith) (omega arith))

eight_bytes : (bs : List ℕ) → from_le_bytes w64 bs ≡ little_endian 8 bs
unfolding little_endian
eight_bytes bs =
    rw (little_more 7 0 bs, little_more 6 1 bs, little_more 5 2 bs, little_more 4 3 bs, little_more 3 4 bs, little_more 2 5 bs, little_more 1 6 bs, little_more 0 7 bs) (omega arith)

-- n bytes with zeros after them, 8 in all, read at once
pub padded_says : (n p : ℕ) (bs : List ℕ) → n ≤ 8 → p + n ≤ length bs → (l : List ℕ) → l ≡ take n (drop p bs) ++ drop n (replicate 8 0)
    → from_le_bytes w64 l ≡ little_endian n (drop p bs)
padded_says n p bs h k l e =
    let d : n ≤ length (drop p bs) = rw (length-drop p bs) (omega arith) in
    rw e (eight_bytes _ ∙ padded n 8 (drop p bs) h d)

-- one byte more of those from p on, written over zs
pub one_put : (p i : ℕ) (bs zs : List ℕ) → p + i < length bs → i < length zs → (l : List ℕ) → l ≡ take i (drop p bs) ++ drop i zs
    → set l i (get_or bs (p + i) 0) ≡ take (i + 1) (drop p bs) ++ drop (i + 1) zs
one_put p i bs zs h k l e =
    let xs = drop p bs in
    let a = get_or bs (p + i) 0 in
    let m : i < length xs = rw (length-drop p bs) (omega arith) in
    let n : length (take i xs) ≡ i = length-take-le i xs (omega arith) in
    let seam = rw n at (set-append_seam (take i xs) (get_or zs i 0) (drop (suc i) zs) a) in
    rw (e, drop-cons zs i 0 k, seam, add-one i, take-suc xs i 0 m, get_or-drop p bs i 0) (sym (append_assoc (take i xs) (a ∷ []) (drop (suc i) zs)))

pub key_small : (p : ℕ) (bs : List ℕ) → AreBytes bs → little_endian key_bytes (drop p bs) < key_bound
key_small p bs h =
    rw (six_bytes p bs)
    (omega (arith, h p, h (p + 1), h (p + 2), h (p + 3), h (p + 4), h (p + 5)))

-- a number that n bytes hold, written and read, whatever follows it
low_bytes_read : (n k : ℕ) (rest : List ℕ) → k < 256 ^ n → little_endian n (low_bytes n k ++ rest) ≡ k
unfolding little_endian low_bytes
low_bytes_read zero k rest h = omega arith
low_bytes_read (suc n) k rest h =
    let lt : k / 256 < 256 ^ n = omega arith in
    let e : little_endian n (low_bytes n (k / 256) ++ rest) ≡ k / 256 = low_bytes_read n (k / 256) rest lt in
    rw e (omega arith)

pub key-reads_back : (k : ℕ) → k < key_bound → (rest : List ℕ) → little_endian key_bytes (bytes_of k ++ rest) ≡ k
unfolding bytes_of
key-reads_back k h rest = low_bytes_read 6 k rest h

pub length-keys : (n : ℕ) (bs : List ℕ) → length (keys_of n bs) ≡ n
unfolding keys_of
length-keys zero bs = refl
length-keys (suc n) bs = ap suc (length-keys n (drop key_bytes bs))

keys_at : (n i p : ℕ) (bs : List ℕ) → i < n → get_or (keys_of n (drop p bs)) i 0 ≡ little_endian key_bytes (drop (p + i * 6) bs)
unfolding keys_of
keys_at zero i p bs h = absurd (omega arith)
keys_at (suc n) zero p bs h = let e : p + 0 * 6 ≡ p = omega arith in rw e
keys_at (suc n) (suc i) p bs h =
    let e : p + 6 + i * 6 ≡ p + suc i * 6 = omega arith in
    rw (drop-drop 6 p bs) (keys_at n i (p + 6) bs (omega arith) ∙ rw e)

-- of all the keys in a list of bytes
module _ (bs : List ℕ) where
  pub length_in : length (keys_in bs) ≡ length bs / 6
  unfolding keys_in
  length_in = length-keys (length bs / 6) bs

  pub key_in : (i : ℕ) → i < length bs / 6 → get_or (keys_in bs) i 0 ≡ little_endian key_bytes (drop (i * 6) bs)
  unfolding keys_in
  key_in i h = let e : 0 + i * 6 ≡ i * 6 = omega arith in keys_at (length bs / 6) i 0 bs h ∙ rw e

  pub keys_small : AreBytes bs → (i : ℕ) → i < length (keys_in bs) → get_or (keys_in bs) i 0 < key_bound
  keys_small h i lt = let q : i < length bs / 6 = rw length_in at lt in rw (key_in i q) (key_small (i * 6) bs h)

  -- a key put together of its lower and its upper three bytes
  pub key_halves : (i : ℕ) → i < length bs / 6 → (a b : ℕ)
      → a ≡ get_or bs (i * 6) 0 + 256 * (get_or bs (i * 6 + 1) 0 + 256 * get_or bs (i * 6 + 2) 0)
      → b ≡ get_or bs (i * 6 + 3) 0 + 256 * (get_or bs (i * 6 + 3 + 1) 0 + 256 * get_or bs (i * 6 + 3 + 2) 0)
      → a + 16777216 * b ≡ get_or (keys_in bs) i 0
  key_halves i h a b qa qb =
      let e4 : i * 6 + 3 + 1 ≡ i * 6 + 4 = omega arith in
      let e5 : i * 6 + 3 + 2 ≡ i * 6 + 5 = omega arith in
      let b' : b ≡ get_or bs (i * 6 + 3) 0 + 256 * (get_or bs (i * 6 + 4) 0 + 256 * get_or bs (i * 6 + 5) 0) = rw (e4, e5) at qb in
      rw (key_in i h, six_bytes (i * 6) bs) (omega arith)
