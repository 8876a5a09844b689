-- Lines computed: a line of each length, the greatest number, and what the bytes of kind say. Assumes nothing.
use mathlib.Core.List.{List, [], ◌∷◌, ◌++◌}
use mathlib.Core.Path.{◌≡◌, refl, ap, ◌∙◌}
use Prim.Native.Nat.{ℕ, ◌/◌, ◌%◌, ◌≤◌}
use Rattle.std.proofs.Common.{Some, None}
use lib.Dec.{lit<, lit≤}
use Rattle.lines.specs.Kinds.{kind, kind_of}
use Rattle.lines.specs.Lines.{digit, digits, decimal, spaced, numbers, line}
use Rattle.lines.specs.declared.Operation.TheVariants.{Insert, Delete, Lookup, Band, Replace}
use Rattle.lines.proofs.Decimals.{decimal-below, decimal-above}

-- "x 0", "= 10 1" and "4 0 64 1", each with its line's end
lines : (line 120 (0 ∷ []) ≡ 120 ∷ 32 ∷ 48 ∷ 10 ∷ [])
    × (line 61 (10 ∷ 1 ∷ []) ≡ 61 ∷ 32 ∷ 49 ∷ 48 ∷ 32 ∷ 49 ∷ 10 ∷ [])
    × (line 52 (0 ∷ 64 ∷ 1 ∷ []) ≡ 52 ∷ 32 ∷ 48 ∷ 32 ∷ 54 ∷ 52 ∷ 32 ∷ 49 ∷ 10 ∷ [])
unfolding line numbers spaced decimal digits
lines = (refl, refl, refl)

one_more : (n : ℕ) {l : List ℕ} → 10 ≤ n → decimal (n / 10) ≡ l → decimal n ≡ l ++ (digit (n % 10) ∷ [])
one_more n h e = decimal-above n h ∙ ap (λ (x : List ℕ). x ++ (digit (n % 10) ∷ [])) e

-- the greatest number of 64 bits, digit by digit: its value is too large to be counted down in one computation
greatest : decimal 18446744073709551615 ≡ 49 ∷ 56 ∷ 52 ∷ 52 ∷ 54 ∷ 55 ∷ 52 ∷ 52 ∷ 48 ∷ 55 ∷ 51 ∷ 55 ∷ 48 ∷ 57 ∷ 53 ∷ 53 ∷ 49 ∷ 54 ∷ 49 ∷ 53 ∷ []
greatest =
    one_more 18446744073709551615 (lit≤ tt) (one_more 1844674407370955161 (lit≤ tt) (one_more 184467440737095516 (lit≤ tt) (one_more 18446744073709551 (lit≤ tt) (one_more 1844674407370955 (lit≤ tt) (one_more 184467440737095 (lit≤ tt) (one_more 18446744073709 (lit≤ tt) (one_more 1844674407370 (lit≤ tt) (one_more 184467440737 (lit≤ tt) (one_more 18446744073 (lit≤ tt) (one_more 1844674407 (lit≤ tt) (one_more 184467440 (lit≤ tt) (one_more 18446744 (lit≤ tt) (one_more 1844674 (lit≤ tt) (one_more 184467 (lit≤ tt) (one_more 18446 (lit≤ tt) (one_more 1844 (lit≤ tt) (one_more 184 (lit≤ tt) (one_more 18 (lit≤ tt) (decimal-below 1 (lit< tt))))))))))))))))))))

-- no kind below 1 and above 5
kinds : (kind_of 0 ≡ None)
    × (kind_of 1 ≡ Some (kind 14 Insert))
    × (kind_of 2 ≡ Some (kind 6 Delete))
    × (kind_of 3 ≡ Some (kind 6 Lookup))
    × (kind_of 4 ≡ Some (kind 12 Band))
    × (kind_of 5 ≡ Some (kind 14 Replace))
    × (kind_of 6 ≡ None)
    × (kind_of 255 ≡ None)
unfolding kind_of
kinds = (refl, refl, refl, refl, refl, refl, refl, refl)
