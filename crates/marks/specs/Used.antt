-- The map of used places (document 01, "Where nodes go"): a bit a place, 64 places a word, lowest bit first. What it means that
-- a place is used, that a run is unused or wholly used, and which place or run is the lowest. Definitions only.
use Rattle.std.specs.Prelude.{Bool, true, false, List, Option, None, Some, ℕ, zero, suc, ◌+◌, ◌-◌, ◌/◌, ◌%◌, ◌^◌, eqb, get_or, set}
use Rattle.laws.specs.Pick.{pick}

-- is place p used; past the map's end nothing is
unfoldable pub used_at : List ℕ → ℕ → Bool
used_at u p = eqb (get_or u (p / 64) 0 / 2 ^ (p % 64) % 2) 1

-- the map with place p used
unfoldable pub mark_at : List ℕ → ℕ → List ℕ
mark_at u p = pick (used_at u p) u (set u (p / 64) (get_or u (p / 64) 0 + 2 ^ (p % 64)))

-- the map with place p unused
unfoldable pub clear_at : List ℕ → ℕ → List ℕ
clear_at u p = pick (used_at u p) (set u (p / 64) (get_or u (p / 64) 0 - 2 ^ (p % 64))) u

-- the map with the n places from p on used, and unused
unfoldable pub mark_run : List ℕ → ℕ → ℕ → List ℕ
mark_run u p zero = u
mark_run u p (suc n) = mark_run (mark_at u p) (p + 1) n

unfoldable pub clear_run : List ℕ → ℕ → ℕ → List ℕ
clear_run u p zero = u
clear_run u p (suc n) = clear_run (clear_at u p) (p + 1) n

-- the map with place p, or with the n places from p on, used or unused
abbrev pub set_place : Bool → List ℕ → ℕ → List ℕ
set_place used u p = pick used (mark_at u p) (clear_at u p)

abbrev pub set_run : Bool → List ℕ → ℕ → ℕ → List ℕ
set_run used u p n = pick used (mark_run u p n) (clear_run u p n)

-- are the n places from p on all unused; are they all used
unfoldable pub free_run : List ℕ → ℕ → ℕ → Bool
free_run u p zero = true
free_run u p (suc n) = pick (used_at u p) false (free_run u (p + 1) n)

unfoldable pub full_run : List ℕ → ℕ → ℕ → Bool
full_run u p zero = true
full_run u p (suc n) = pick (used_at u p) (full_run u (p + 1) n) false

-- of the n places from `from` on, counted from 0, the first from s on that is unused; n if there is none
unfoldable pub first_from : List ℕ → ℕ → ℕ → ℕ → ℕ
first_from u from zero s = s
first_from u from (suc f) s = pick (used_at u (from + s)) (first_from u from f (s + 1)) s

unfoldable pub first_unused : List ℕ → ℕ → ℕ → ℕ
first_unused u from n = first_from u from n 0

-- "the lowest start at which L consecutive slots are unused": the starts s, s + 1, .., f of them
unfoldable pub lowest_from : List ℕ → ℕ → ℕ → ℕ → ℕ → Option ℕ
lowest_from u from l zero s = None
lowest_from u from l (suc f) s = pick (free_run u (from + s) l) (Some s) (lowest_from u from l f (s + 1))

-- a run of l places within the n places from `from` on
unfoldable pub lowest_run : List ℕ → ℕ → ℕ → ℕ → Option ℕ
lowest_run u from n l = lowest_from u from l (n + 1 - l) 0
