-- An answer is the answer of one result alone: two results with the same number and values are the same result. So what the contracts of
-- `pack` and `unpack` say determines what they return.
use Rattle.std.proofs.Common.{Result, Ok, Err}
use mathlib.Core.Path.{◌≡◌, refl, ap}
use Prim.Native.Nat.{ℕ}
use lib.IntN.{ℤ}
use Rattle.laws.specs.Answers.{Answer}
use Rattle.sounding.specs.declared.Sounding.{Sounding}
use Rattle.sounding.specs.declared.OutOfRange.{OutOfRange}
use Rattle.sounding.specs.Studio.{packed, pack_of, unpacked, unpack_of}

pub packed_injective : (a b : Result ℕ OutOfRange) → packed a ≡ packed b → a ≡ b
unfolding packed
packed_injective (Ok k) (Ok l) e = let v = ap (λ (a : Answer ℕ). a.values) e in cc
packed_injective (Ok k) (Err x) e = let v = ap (λ (a : Answer ℕ). a.number) e in cc
packed_injective (Err x) (Ok l) e = let v = ap (λ (a : Answer ℕ). a.number) e in cc
packed_injective (Err x) (Err y) e = refl

pub unpacked_injective : (a b : Result Sounding OutOfRange) → unpacked a ≡ unpacked b → a ≡ b
unfolding unpacked
unpacked_injective (Ok s) (Ok t) e = let v = ap (λ (a : Answer Sounding). a.values) e in cc
unpacked_injective (Ok s) (Err x) e = let v = ap (λ (a : Answer Sounding). a.number) e in cc
unpacked_injective (Err x) (Ok t) e = let v = ap (λ (a : Answer Sounding). a.number) e in cc
unpacked_injective (Err x) (Err y) e = refl

pub pack_determined : (d : ℤ) (n : ℕ) (a b : Result ℕ OutOfRange) → packed a ≡ pack_of d n → packed b ≡ pack_of d n → a ≡ b
pack_determined d n a b p q = packed_injective a b (cc)

pub unpack_determined : (key : ℕ) (a b : Result Sounding OutOfRange) → unpacked a ≡ unpack_of key → unpacked b ≡ unpack_of key → a ≡ b
unpack_determined key a b p q = unpacked_injective a b (cc)
