-- No field of Good follows from the others: for each there is a handle, memory and a tree that break it alone. Assumes nothing.
use mathlib.Core.List.{[], ◌∷◌}
use mathlib.Core.Path.{◌≡◌, refl, sym, subst⁻¹}
use native.Mathlib.Omega.{arith}
use Prim.Native.Nat.{ℕ, zero, suc, ◌+◌, ◌-◌, ◌*◌, ◌^◌, ◌<◌, ◌≤◌}
use Rattle.laws.proofs.Tests.{true_not_false}
use Rattle.model.specs.Slots.{slot_of}
use Rattle.pool.specs.Memory.{Mem}
use Rattle.store.specs.Handles.{limits_hold, pools_are, handle_fits}
use Rattle.store.specs.declared.Handle.{Handle}
use Rattle.demands.specs.Examples.{p1_handle, p1_root, p1_slots, short_pools, wrong_root, wrong_count, stray_mark, stray_word, wrong_slots, wrong_slot_pools, chain, deep_handle, deep_pools, deep_root, deep_slots, wide_map}
use Rattle.demands.specs.Fields.{Field, fits, root, count, image, okay, deep, words, Says, BreaksOnly}
use Rattle.demands.specs.Map.{EachKey}
use Rattle.demands.specs.Placed.{Head, Forest, sub, flat_b, OkB, slot_in, bit, in_slot, at, view, Words, Good}
use Rattle.demands.specs.Soundings.{p1_pools}
use Rattle.demands.proofs.Checking.{image_checked}
use Rattle.demands.proofs.Examples.{p1_good}

-- the fields make up Good, and Good has no other
module _ (h : Handle) (m : Mem) (t : Head) (g : Forest) where
  pub good-says : Good h m t g → (f : Field) → Says f h m t g
  good-says d fits = d.fits
  good-says d root = d.root
  good-says d count = d.count
  good-says d image = d.image
  good-says d okay = d.okay
  good-says d deep = d.deep
  good-says d words = d.words

  pub says-good : ((f : Field) → Says f h m t g) → Good h m t g
  says-good s = record { fits = s fits; root = s root; count = s count; image = s image; okay = s okay; deep = s deep; words = s words }

pub not_good : (f : Field) (b : BreaksOnly f) → Good b.handle b.memory b.head b.slots → ⊥
not_good f b d = b.broken (good-says b.handle b.memory b.head b.slots d f)

one_word : (u : ℕ) → u < 2 ^ 64 → Words (u ∷ [])
one_word u l zero = l
one_word u l (suc i) = omega arith

two-words : (u v : ℕ) → u < 2 ^ 64 → v < 2 ^ 64 → Words (u ∷ v ∷ [])
two-words u v k l zero = k
two-words u v k l (suc i) = one_word v l i

-- the last word of the slots is missing
short-image : Says image p1_handle short_pools p1_root p1_slots
unfolding view at
short-image = image_checked 2 short_pools (sub p1_root p1_slots) 64 refl (omega arith) (omega arith) (omega arith) (omega arith)

fits-others : (e : Field) → (e ≡ fits → ⊥) → Says e p1_handle short_pools p1_root p1_slots
fits-others fits n = absurd (n refl)
fits-others root n = p1_good.root
fits-others count n = p1_good.count
fits-others image n = short-image
fits-others okay n = p1_good.okay
fits-others deep n = p1_good.deep
fits-others words n = p1_good.words

broken-fits : Says fits p1_handle short_pools p1_root p1_slots → ⊥
unfolding limits_hold pools_are handle_fits
broken-fits d = true_not_false (sym d)

pub breaks_fits : BreaksOnly fits
breaks_fits = record { handle = p1_handle; memory = short_pools; head = p1_root; slots = p1_slots; others = fits-others; broken = broken-fits }

-- the handle names record 1
root-others : (e : Field) → (e ≡ root → ⊥) → Says e wrong_root p1_pools p1_root p1_slots
unfolding limits_hold pools_are handle_fits
root-others fits n = refl
root-others root n = absurd (n refl)
root-others count n = p1_good.count
root-others image n = p1_good.image
root-others okay n = p1_good.okay
root-others deep n = p1_good.deep
root-others words n = p1_good.words

broken-root : Says root wrong_root p1_pools p1_root p1_slots → ⊥
broken-root d = let e : ◌≡◌ {A = ℕ} 1 0 = d in omega arith

pub breaks_root : BreaksOnly root
breaks_root = record { handle = wrong_root; memory = p1_pools; head = p1_root; slots = p1_slots; others = root-others; broken = broken-root }

-- the handle counts 3 keys of 4
count-others : (e : Field) → (e ≡ count → ⊥) → Says e wrong_count p1_pools p1_root p1_slots
unfolding limits_hold pools_are handle_fits
count-others fits n = refl
count-others root n = p1_good.root
count-others count n = absurd (n refl)
count-others image n = p1_good.image
count-others okay n = p1_good.okay
count-others deep n = p1_good.deep
count-others words n = p1_good.words

broken-count : Says count wrong_count p1_pools p1_root p1_slots → ⊥
broken-count d = let e : ◌≡◌ {A = ℕ} 3 4 = d in omega arith

pub breaks_count : BreaksOnly count
breaks_count = record { handle = wrong_count; memory = p1_pools; head = p1_root; slots = p1_slots; others = count-others; broken = broken-count }

-- a record is marked used where no node is
marks_others : (e : Field) → (e ≡ image → ⊥) → Says e p1_handle stray_mark p1_root p1_slots
unfolding limits_hold pools_are handle_fits
marks_others fits n = refl
marks_others root n = p1_good.root
marks_others count n = p1_good.count
marks_others image n = absurd (n refl)
marks_others okay n = p1_good.okay
marks_others deep n = p1_good.deep
marks_others words n = one_word (2 ^ 10 - 1) (omega arith)

broken_marks : Says image p1_handle stray_mark p1_root p1_slots → ⊥
unfolding view at
broken_marks d = let e : ◌≡◌ {A = ℕ} 1 0 = d 1 bit in omega arith

pub breaks_marks : BreaksOnly image
breaks_marks = record { handle = p1_handle; memory = stray_mark; head = p1_root; slots = p1_slots; others = marks_others; broken = broken_marks }

-- a NULL slot is not all zeros
zeros-others : (e : Field) → (e ≡ image → ⊥) → Says e p1_handle stray_word p1_root p1_slots
unfolding limits_hold pools_are handle_fits
zeros-others fits n = refl
zeros-others root n = p1_good.root
zeros-others count n = p1_good.count
zeros-others image n = absurd (n refl)
zeros-others okay n = p1_good.okay
zeros-others deep n = p1_good.deep
zeros-others words n = p1_good.words

broken-zeros : Says image p1_handle stray_word p1_root p1_slots → ⊥
unfolding view at
broken-zeros d = let e : ◌≡◌ {A = ℕ} 9 0 = d 4 (in_slot 1) in omega arith

pub breaks_zeros : BreaksOnly image
breaks_zeros = record { handle = p1_handle; memory = stray_word; head = p1_root; slots = p1_slots; others = zeros-others; broken = broken-zeros }

-- a key stands in another slot than its own
wrong_image : Says image p1_handle wrong_slot_pools p1_root wrong_slots
unfolding view at
wrong_image = image_checked 2 wrong_slot_pools (sub p1_root wrong_slots) 64 refl (omega arith) (omega arith) (omega arith) (omega arith)

okay-others : (e : Field) → (e ≡ okay → ⊥) → Says e p1_handle wrong_slot_pools p1_root wrong_slots
unfolding limits_hold pools_are handle_fits
okay-others fits n = refl
okay-others root n = p1_good.root
okay-others count n = refl
okay-others image n = wrong_image
okay-others okay n = absurd (n refl)
okay-others deep n = p1_good.deep
okay-others words n = p1_good.words

broken-okay : Says okay p1_handle wrong_slot_pools p1_root wrong_slots → ⊥
unfolding slot_of
broken-okay d = let e : ◌≡◌ {A = ℕ} 6 5 = d.1.2.2.2.2.2.0.0 in omega arith

pub breaks_okay : BreaksOnly okay
breaks_okay = record { handle = p1_handle; memory = wrong_slot_pools; head = p1_root; slots = wrong_slots; others = okay-others; broken = broken-okay }

-- a path has 25 nodes
deep-image : Says image deep_handle deep_pools deep_root deep_slots
unfolding view at
deep-image = image_checked 25 deep_pools (sub deep_root deep_slots) 128 refl (omega arith) (omega arith) (omega arith) (omega arith)

chain_flat : (n r : ℕ) → flat_b (chain n r) ≡ []
chain_flat zero r = refl
chain_flat (suc n) r = rw (chain_flat n (r + 1))

chain-okay : (R S n r : ℕ) → r + n ≤ R → (r + n) * 4 ≤ S → OkB R S (chain n r)
chain-okay R S zero r k l = tt
chain-okay R S (suc n) r k l = (
  record { inside = omega arith; range = record { least = omega arith; most = omega arith; wide = omega arith; top = omega arith }; run = omega arith },
  (subst⁻¹ (EachKey (λ j. slot_in 0 1 4 j ≡ 0)) (chain_flat n (r + 1)) tt, chain-okay R S n (r + 1) (omega arith) (omega arith), (tt, tt, (tt, tt, (tt, tt, tt)))),
)

deep-others : (e : Field) → (e ≡ deep → ⊥) → Says e deep_handle deep_pools deep_root deep_slots
unfolding limits_hold pools_are handle_fits
deep-others fits n = refl
deep-others root n = refl
deep-others count n = refl
deep-others image n = deep-image
deep-others okay n = chain-okay 25 100 25 0 (omega arith) (omega arith)
deep-others deep n = absurd (n refl)
deep-others words n = two-words (2 ^ 64 - 1) (2 ^ 61 - 1) (omega arith) (omega arith)

broken-deep : Says deep deep_handle deep_pools deep_root deep_slots → ⊥
broken-deep d = let e : 25 ≤ 24 = d in omega arith

pub breaks_deep : BreaksOnly deep
breaks_deep = record { handle = deep_handle; memory = deep_pools; head = deep_root; slots = deep_slots; others = deep-others; broken = broken-deep }

-- a word of the map has a 65th bit
wide-image : Says image p1_handle wide_map p1_root p1_slots
unfolding view at
wide-image = image_checked 2 wide_map (sub p1_root p1_slots) 64 refl (omega arith) (omega arith) (omega arith) (omega arith)

words-others : (e : Field) → (e ≡ words → ⊥) → Says e p1_handle wide_map p1_root p1_slots
unfolding limits_hold pools_are handle_fits
words-others fits n = refl
words-others root n = p1_good.root
words-others count n = p1_good.count
words-others image n = wide-image
words-others okay n = p1_good.okay
words-others deep n = p1_good.deep
words-others words n = absurd (n refl)

broken-words : Says words p1_handle wide_map p1_root p1_slots → ⊥
broken-words d = let e : 2 ^ 64 + (2 ^ 10 - 3) < 2 ^ 64 = d 0 in omega arith

pub breaks_words : BreaksOnly words
breaks_words = record { handle = p1_handle; memory = wide_map; head = p1_root; slots = p1_slots; others = words-others; broken = broken-words }

-- no field follows from the others
pub each_field_needed : (f : Field) → BreaksOnly f
each_field_needed fits = breaks_fits
each_field_needed root = breaks_root
each_field_needed count = breaks_count
each_field_needed image = breaks_marks
each_field_needed okay = breaks_okay
each_field_needed deep = breaks_deep
each_field_needed words = breaks_words
