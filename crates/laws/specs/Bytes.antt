-- Numbers in bytes: little-endian, a key in 6 of them (document 01, "The session program"). Definitions only.
use Rattle.std.specs.Prelude.{List, [], ◌∷◌, ℕ, zero, suc, ◌+◌, ◌*◌, ◌/◌, ◌%◌, length, drop}

-- the number in the first n bytes, lowest first; bytes past the end count as 0
unfoldable pub little_endian : ℕ → List ℕ → ℕ
little_endian zero bs = 0
little_endian (suc n) [] = 0
little_endian (suc n) (b ∷ bs) = b + 256 * little_endian n bs

-- the lowest n bytes of a number, lowest first
unfoldable pub low_bytes : ℕ → ℕ → List ℕ
low_bytes zero k = []
low_bytes (suc n) k = k % 256 ∷ low_bytes n (k / 256)

abbrev pub key_bytes : ℕ
key_bytes = 6

-- a key in its 6 bytes
unfoldable pub bytes_of : ℕ → List ℕ
bytes_of k = low_bytes key_bytes k

-- the first n keys, 6 bytes each
unfoldable pub keys_of : ℕ → List ℕ → List ℕ
keys_of zero bs = []
keys_of (suc n) bs = little_endian key_bytes bs ∷ keys_of n (drop key_bytes bs)

-- as many keys as fit
unfoldable pub keys_in : List ℕ → List ℕ
keys_in bs = keys_of (length bs / key_bytes) bs
