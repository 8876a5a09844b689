-- Judging whether there is room for a build: what is asked, where one size goes, the word by which its marks are undone, and
-- what the judgement leaves. The sizes are placed as Room says; afterwards the map is as it was. Definitions only.
use Rattle.std.specs.Prelude.{Bool, true, None, Option, Some, List, ◌≡◌, ℕ, zero, suc, ◌+◌, ◌*◌, ◌/◌, ◌%◌, ◌^◌, ◌<◌, ◌≤◌, ltb, eqb, length, get_or, take, replicate}
use Rattle.std.proofs.lemmas.List.Edits.{sets}
use Rattle.laws.specs.Pick.{pick}
use Rattle.marks.specs.Used.{used_at, mark_at, mark_run, clear_at, clear_run, first_unused, lowest_run}
use Rattle.model.specs.Slots.{most_slots}
use Rattle.build.specs.Room.{place_all}
use Rattle.build.specs.declared.room.Spot.{Spot}

-- the map has a bit for every place, and a record's or a slot's number fits 24 bits
pub record Mapped (records count : ℕ) (used : List ℕ) : Type 0 where
  pub mapped : records + count ≤ length used * 64
  pub few-records : records ≤ 2 ^ 20
  pub few-slots : count ≤ 2 ^ 20

-- every record before r and every slot before s is used, so that no search has to look there
pub record Sought (records count : ℕ) (used : List ℕ) (r s : ℕ) : Type 0 where
  pub record-within : r ≤ records
  pub slot-within : s ≤ count
  pub records-used : (j : ℕ) → j < r → used_at used (0 + j) ≡ true
  pub slots-used : (j : ℕ) → j < s → used_at used (records + j) ≡ true

-- n sizes of nodes, at the start of a list
pub record Asked (records count n : ℕ) (list used : List ℕ) : Type 0 where
  pub map : Mapped records count used
  pub within : n ≤ length list
  pub sizes : (i : ℕ) → i < n → (1 ≤ get_or list i 0) × (get_or list i 0 ≤ most_slots)

-- where a size goes: the lowest unused record and the lowest run, if there are both
unfoldable pub spot_on : ℕ → ℕ → Option ℕ → Option Spot
spot_on r f None = None
spot_on r f (Some s) = Some (record { «record» = r; start = s; first = f })

unfoldable pub spot_for : ℕ → ℕ → ℕ → List ℕ → Option Spot
spot_for records count l u =
    pick (ltb (first_unused u 0 records) records)
    (spot_on (first_unused u 0 records) (first_unused u records count) (lowest_run u records count l))
    None

-- the map once a size has its places
unfoldable pub marked_by : ℕ → ℕ → Option Spot → List ℕ → List ℕ
marked_by records l None u = u
marked_by records l (Some p) u = mark_run (mark_at u p.record) (records + p.start) l

-- a size's places in one word: its size, its record and its start
abbrev pub word_of : ℕ → ℕ → ℕ → ℕ
word_of l r s = l * 2 ^ 48 + r * 2 ^ 24 + s

-- the map once the marks that a word keeps are undone
unfoldable pub undo_word : ℕ → ℕ → List ℕ → List ℕ
undo_word records w u = clear_at (clear_run u (records + w % 2 ^ 24) (w / 2 ^ 48)) (w / 2 ^ 24 % 2 ^ 24)

-- the first i words undone, the last first
unfoldable pub undone_by : ℕ → List ℕ → ℕ → List ℕ → List ℕ
undone_by records ws zero u = u
undone_by records ws (suc i) u = undone_by records ws i (undo_word records (get_or ws i 0) u)

-- the first n words keep places of a map of so many places
pub record Undoable (records n : ℕ) (ws : List ℕ) (places : ℕ) : Type 0 where
  pub within : n ≤ length ws
  pub few-records : records ≤ 2 ^ 20
  pub run : (j : ℕ) → j < n → records + get_or ws j 0 % 2 ^ 24 + get_or ws j 0 / 2 ^ 48 ≤ places
  pub place : (j : ℕ) → j < n → get_or ws j 0 / 2 ^ 24 % 2 ^ 24 < places

-- what placing as many sizes as have room leaves: i of n have their places, and the list's first i words undo them
pub record Tried (records count n : ℕ) (list₀ used₀ list used : List ℕ) (i : ℕ) : Type 0 where
  pub within : i ≤ n
  pub fits : eqb i n ≡ (place_all records count (take n list₀) used₀).fits
  pub undone : undone_by records list i used ≡ used₀
  pub undoable : Undoable records i list (length used * 64)
  pub long : length list ≡ length list₀
  pub rest : (j : ℕ) → n ≤ j → get_or list j 0 ≡ get_or list₀ j 0

-- what judging leaves: whether the sizes have room, the map as it was, and the list with its first n places zero
pub record Judged (records count n : ℕ) (list₀ used₀ list₁ used₁ : List ℕ) (b : Bool) : Type 0 where
  pub fits : b ≡ (place_all records count (take n list₀) used₀).fits
  pub used : used₁ ≡ used₀
  pub list : list₁ ≡ sets list₀ 0 (replicate n 0)
