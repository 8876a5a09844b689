-- "Soundings to prove by" (document 01): the one table of worked cases, as data, and what it means that a row holds. The theorem
-- that every row holds is proofs/Soundings.
use Rattle.std.specs.Prelude.{List, [], ◌∷◌, map, ◌≡◌, ℕ, ◌+◌, ◌-◌, ◌*◌, ◌^◌, replicate, ℤ, pos, neg_ℤ}
use Rattle.insert.specs.Inserting.{Insert, insertion, insert_of}
use Rattle.laws.specs.Answers.{Answer, done, refused, refused_with, out_of_range, not_rising, not_held}
use Rattle.model.specs.Choice.{choice_of}
use Rattle.model.specs.Slots.{value_of, slot_of}
use Rattle.model.specs.declared.Choice.{Choice}
use Rattle.pool.specs.Memory.{Mem, mem}
use Rattle.rebuild.specs.Rebuilding.{Scratch, scratch}
use Rattle.sounding.specs.Studio.{pack_of}
use Rattle.store.specs.Bands.{Band, band, band_of}
use Rattle.store.specs.Calls.{Call, call, lookup_of}
use Rattle.store.specs.Handles.{new_handle, no_handle}
use Rattle.store.specs.Loading.{load_of}
use Rattle.store.specs.declared.Handle.{Handle}

-- a row: keys with the model chosen over them (L, T, lo, W) and the slot of each key; a depth and a number with the answer; a load
-- of keys with payloads, of some capacity into some memory, with its answer, handle and every word left; an insert of a key with its
-- payload into some memory, with all that it leaves; a lookup with its answer; a band from u to v over some memory into two output lists,
-- with its answer and the output left
pub data Row : Type 0 where
  node : (keys : List ℕ) → (l t lo w : ℕ) → (slots : List ℕ) → Row
  key : (depth : ℤ) → (number : ℕ) → Answer ℕ → Row
  loads : (capacity : ℕ) → (keys payloads : List ℕ) → Mem → Call → Row
  inserts : (h : Handle) → (key payload : ℕ) → Mem → Scratch → Insert → Row
  looks : (h : Handle) → (key : ℕ) → Mem → Answer ℕ → Row
  lists : (h : Handle) → (u v : ℕ) → Mem → (keys payloads : List ℕ) → Band → Row

abbrev pub choice : ℕ → ℕ → ℕ → ℕ → Choice
choice l t lo w = record { model = record { lo = lo; w = w; l = l }; t = t }

abbrev pub Holds : Row → Type 0
Holds (node ks l t lo w ss) = (choice_of ks ≡ choice l t lo w) × (map (λ (k : ℕ). slot_of (choice_of ks).model (value_of k)) ks ≡ ss)
Holds (key d n a) = pack_of d n ≡ a
Holds (loads c ks ps m x) = load_of c ks ps m ≡ x
Holds (inserts h k p m s x) = insert_of h k p m s ≡ x
Holds (looks h k m a) = lookup_of h k m ≡ a
Holds (lists h u v m ks ps b) = band_of h u v m ks ps ≡ b

abbrev pub All : List Row → Type 0
All [] = Unit
All (r ∷ rs) = Holds r × All rs

-- 3 records and 20 slots full of old words, for P4; and 1 record and 64 slots, for a load of nothing
abbrev pub old_pools : Mem
old_pools = mem (replicate 24 5) (replicate 40 7) (11 ∷ [])

abbrev pub empty_pools : Mem
empty_pools = mem (replicate 8 5) (replicate 128 7) (1 ∷ 0 ∷ [])

-- P4's store: the root at record 0 and slots 0 to 11, its children at runs 12 and 16, their keys at slots 1 and 2
abbrev pub p4_pools : Mem
p4_pools =
    mem
    (101 ∷ 2 ∷ 12 ∷ 0 ∷ 6 ∷ 6 ∷ 0 ∷ 0 ∷ 0 ∷ 101 ∷ 4 ∷ 12 ∷ 2 ∷ 2 ∷ 0 ∷ 0 ∷ 10000 ∷ 10001 ∷ 4 ∷ 16 ∷ 2 ∷ 2 ∷ 0 ∷ 0 ∷ [])
    ((2 * 2 ^ 48 + 1) ∷ 0 ∷ (2 ^ 48 + 101) ∷ 3 ∷ 0 ∷ 0 ∷ 0 ∷ 0 ∷ 0 ∷ 0 ∷ 0 ∷ 0 ∷ (2 ^ 48 + 102) ∷ 4 ∷ 0 ∷ 0 ∷ 0 ∷ 0 ∷ 0 ∷ 0 ∷ 0 ∷ 0 ∷ (2 * 2 ^ 48 + 2) ∷ 0
    ∷ 0 ∷ 0 ∷ (2 ^ 48 + 0) ∷ 1 ∷ (2 ^ 48 + 100) ∷ 2 ∷ 0 ∷ 0
    ∷ 0 ∷ 0 ∷ (2 ^ 48 + 10000) ∷ 5 ∷ (2 ^ 48 + 20000) ∷ 6 ∷ 0 ∷ 0 ∷ [])
    ((2 ^ 23 - 1) ∷ [])

-- the same with 1 for 0
abbrev pub six_pools : Mem
six_pools =
    mem
    (101 ∷ 2 ∷ 12 ∷ 0 ∷ 6 ∷ 6 ∷ 0 ∷ 0 ∷ 1 ∷ 100 ∷ 4 ∷ 12 ∷ 2 ∷ 2 ∷ 0 ∷ 0 ∷ 10000 ∷ 10001 ∷ 4 ∷ 16 ∷ 2 ∷ 2 ∷ 0 ∷ 0 ∷ [])
    ((2 * 2 ^ 48 + 1) ∷ 0 ∷ (2 ^ 48 + 101) ∷ 3 ∷ 0 ∷ 0 ∷ 0 ∷ 0 ∷ 0 ∷ 0 ∷ 0 ∷ 0 ∷ (2 ^ 48 + 102) ∷ 4 ∷ 0 ∷ 0 ∷ 0 ∷ 0 ∷ 0 ∷ 0 ∷ 0 ∷ 0 ∷ (2 * 2 ^ 48 + 2) ∷ 0
    ∷ 0 ∷ 0 ∷ (2 ^ 48 + 1) ∷ 1 ∷ (2 ^ 48 + 100) ∷ 2 ∷ 0 ∷ 0
    ∷ 0 ∷ 0 ∷ (2 ^ 48 + 10000) ∷ 5 ∷ (2 ^ 48 + 20000) ∷ 6 ∷ 0 ∷ 0 ∷ [])
    ((2 ^ 23 - 1) ∷ [])

-- P1's store in 2 records and 12 slots: the root at record 0 and slots 0 to 7
abbrev pub p1_pools : Mem
p1_pools =
    mem
    (20 ∷ 11 ∷ 8 ∷ 0 ∷ 4 ∷ 4 ∷ 0 ∷ 0 ∷ 0 ∷ 0 ∷ 0 ∷ 0 ∷ 0 ∷ 0 ∷ 0 ∷ 0 ∷ [])
    ((2 ^ 48 + 10) ∷ 1 ∷ (2 ^ 48 + 20) ∷ 2 ∷ 0 ∷ 0 ∷ 0 ∷ 0 ∷ 0 ∷ 0 ∷ 0 ∷ 0 ∷ (2 ^ 48 + 30) ∷ 3 ∷ (2 ^ 48 + 40) ∷ 4
    ∷ 0 ∷ 0 ∷ 0 ∷ 0 ∷ 0 ∷ 0 ∷ 0 ∷ 0 ∷ [])
    ((2 ^ 10 - 3) ∷ [])

-- then 25 at slot 3; and, from P1 again, 5 after its conflict with 10: the two-key node at record 1 and slots 8 to 11
abbrev pub p7_pools : Mem
p7_pools =
    mem
    (20 ∷ 11 ∷ 8 ∷ 0 ∷ 5 ∷ 4 ∷ 0 ∷ 0 ∷ 0 ∷ 0 ∷ 0 ∷ 0 ∷ 0 ∷ 0 ∷ 0 ∷ 0 ∷ [])
    ((2 ^ 48 + 10) ∷ 1 ∷ (2 ^ 48 + 20) ∷ 2 ∷ 0 ∷ 0 ∷ (2 ^ 48 + 25) ∷ 9 ∷ 0 ∷ 0 ∷ 0 ∷ 0 ∷ (2 ^ 48 + 30) ∷ 3 ∷ (2 ^ 48 + 40) ∷ 4
    ∷ 0 ∷ 0 ∷ 0 ∷ 0 ∷ 0 ∷ 0 ∷ 0 ∷ 0 ∷ [])
    ((2 ^ 10 - 3) ∷ [])

abbrev pub p8_pools : Mem
p8_pools =
    mem
    (20 ∷ 11 ∷ 8 ∷ 0 ∷ 5 ∷ 4 ∷ 1 ∷ 0 ∷ 5 ∷ 6 ∷ 4 ∷ 8 ∷ 2 ∷ 2 ∷ 0 ∷ 0 ∷ [])
    ((2 * 2 ^ 48 + 1) ∷ 0 ∷ (2 ^ 48 + 20) ∷ 2 ∷ 0 ∷ 0 ∷ 0 ∷ 0 ∷ 0 ∷ 0 ∷ 0 ∷ 0 ∷ (2 ^ 48 + 30) ∷ 3 ∷ (2 ^ 48 + 40) ∷ 4
    ∷ 0 ∷ 0 ∷ (2 ^ 48 + 5) ∷ 9 ∷ (2 ^ 48 + 10) ∷ 1 ∷ 0 ∷ 0 ∷ [])
    ((2 ^ 14 - 1) ∷ [])

-- scratch for 5 keys, which none of these inserts touches
abbrev pub old_scratch : Scratch
old_scratch = scratch (replicate 5 7) (replicate 5 8) (replicate 5 9)

-- the store of no keys: the root with its 64 slots
abbrev pub nothing : Mem
nothing = mem (0 ∷ (2 ^ 48) ∷ 64 ∷ 0 ∷ 0 ∷ 0 ∷ 0 ∷ 0 ∷ []) (replicate 128 0) ((2 ^ 64 - 1) ∷ 1 ∷ [])

abbrev pub table : List Row
table =
    -- P1
    node (10 ∷ 20 ∷ 30 ∷ 40 ∷ []) 8 1 20 11 (0 ∷ 1 ∷ 6 ∷ 7 ∷ [])
    -- P2
    ∷ node (5 ∷ 6 ∷ 7 ∷ []) 6 1 6 1 (0 ∷ 1 ∷ 5 ∷ [])
    -- P3
    ∷ node (1 ∷ 2 ∷ 3 ∷ 4 ∷ 1000 ∷ []) 10 1 2 3 (0 ∷ 1 ∷ 3 ∷ 6 ∷ 9 ∷ [])
    -- P4, model and slots, and its two children
    ∷ node (0 ∷ 100 ∷ 101 ∷ 102 ∷ 10000 ∷ 20000 ∷ []) 12 2 101 2 (0 ∷ 0 ∷ 1 ∷ 6 ∷ 11 ∷ 11 ∷ [])
    ∷ node (0 ∷ 100 ∷ []) 4 0 0 101 (1 ∷ 2 ∷ [])
    ∷ node (10000 ∷ 20000 ∷ []) 4 0 10000 10001 (1 ∷ 2 ∷ [])
    -- P5, P6
    ∷ node (7 ∷ 8 ∷ []) 4 0 7 2 (1 ∷ 2 ∷ [])
    ∷ node (0 ∷ (2 ^ 48 - 1) ∷ []) 4 0 0 (2 ^ 48) (1 ∷ 2 ∷ [])
    -- P4's places
    ∷ loads 6 (0 ∷ 100 ∷ 101 ∷ 102 ∷ 10000 ∷ 20000 ∷ []) (1 ∷ 2 ∷ 3 ∷ 4 ∷ 5 ∷ 6 ∷ []) old_pools (call (done []) (new_handle 0 6 6 3 20) p4_pools)
    -- P7 and P8, from P1's store; then the lookup of 7
    ∷ loads 5 (10 ∷ 20 ∷ 30 ∷ 40 ∷ []) (1 ∷ 2 ∷ 3 ∷ 4 ∷ []) (mem (replicate 16 5) (replicate 24 7) (11 ∷ [])) (call (done []) (new_handle 0 4 5 2 12) p1_pools)
    ∷ inserts (new_handle 0 4 5 2 12) 25 9 p1_pools old_scratch (insertion (done (0 ∷ 0 ∷ [])) (new_handle 0 5 5 2 12) p7_pools old_scratch)
    ∷ inserts (new_handle 0 4 5 2 12) 5 9 p1_pools old_scratch (insertion (done (1 ∷ 0 ∷ [])) (new_handle 0 5 5 2 12) p8_pools old_scratch)
    ∷ looks (new_handle 0 5 5 2 12) 7 p8_pools (refused_with not_held (2 ∷ []))
    -- P9
    ∷ key (neg_ℤ (pos 150)) 7 (done (5328443801607 ∷ []))
    -- P10
    ∷ key (neg_ℤ (pos 20001)) 0 (refused out_of_range)
    ∷ key (neg_ℤ (pos 20000)) 0 (done (0 ∷ []))
    -- P11
    ∷ loads 2 (4 ∷ 4 ∷ []) (1 ∷ 2 ∷ []) old_pools (call (refused_with not_rising (1 ∷ [])) no_handle old_pools)
    -- P12: a load of nothing, and a band over it: none, no more
    ∷ loads 1 [] [] empty_pools (call (done []) (new_handle 0 0 1 1 64) nothing)
    ∷ lists (new_handle 0 0 1 1 64) 0 (2 ^ 48 - 1) nothing (3 ∷ []) (5 ∷ []) (band (done (0 ∷ 0 ∷ [])) (3 ∷ []) (5 ∷ []))
    -- P4 with 1 for 0: model and slots, its lower child, places
    ∷ node (1 ∷ 100 ∷ 101 ∷ 102 ∷ 10000 ∷ 20000 ∷ []) 12 2 101 2 (0 ∷ 0 ∷ 1 ∷ 6 ∷ 11 ∷ 11 ∷ [])
    ∷ node (1 ∷ 100 ∷ []) 4 0 1 100 (1 ∷ 2 ∷ [])
    ∷ loads 6 (1 ∷ 100 ∷ 101 ∷ 102 ∷ 10000 ∷ 20000 ∷ []) (1 ∷ 2 ∷ 3 ∷ 4 ∷ 5 ∷ 6 ∷ []) old_pools (call (done []) (new_handle 0 6 6 3 20) six_pools)
    ∷ []
