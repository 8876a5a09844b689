-- Room for a build (document 01, "Where nodes go"): sizes placed one after the other by first fit, each at the lowest unused
-- record and the lowest run, on the map of used places alone. "There is no room exactly when some node of the build finds neither
-- record or run at its turn; one of the two lacking is enough." Definitions only.
use Rattle.std.specs.Prelude.{Bool, true, false, None, Option, Some, List, [], ◌∷◌, ◌≡◌, ℕ, ◌+◌, ◌*◌, ◌<◌, ◌≤◌, ltb, length}
use Rattle.laws.specs.Pick.{pick}
use Rattle.marks.specs.Used.{used_at, mark_at, mark_run, first_unused, lowest_run}

-- what placing leaves: whether every size had its place, and the map as far as it came
pub record Placed : Type 0 where
  pub fits : Bool
  pub used : List ℕ

abbrev pub placed : Bool → List ℕ → Placed
placed f u = record { fits = f; used = u }

-- go on at the run found
abbrev pub at_run : Option ℕ → List ℕ → (ℕ → Placed) → Placed
at_run (Some s) u f = f s
at_run None u f = placed false u

-- the sizes in turn, on a map of so many records and then so many slots, marked as a build marks them
unfoldable pub place_all : ℕ → ℕ → List ℕ → List ℕ → Placed
place_all records count [] u = placed true u
place_all records count (l ∷ ls) u =
    pick (ltb (first_unused u 0 records) records)
    (at_run (lowest_run u records count l) u (λ s. place_all records count ls (mark_run (mark_at u (first_unused u 0 records)) (records + s) l)))
    (placed false u)

-- a build that had room
abbrev pub has_room : Option ℕ → Bool
has_room (Some r) = true
has_room None = false

-- just the first a records and the first b slots are used
pub record Prefix (records count : ℕ) (u : List ℕ) (a b : ℕ) : Type 0 where
  pub mapped : records + count ≤ length u * 64
  pub records-within : a ≤ records
  pub slots-within : b ≤ count
  pub records-used : (r : ℕ) → r < records → used_at u r ≡ ltb r a
  pub slots-used : (q : ℕ) → q < count → used_at u (records + q) ≡ ltb q b
