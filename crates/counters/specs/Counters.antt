-- The counters of the nodes on a path, and which of these nodes is due (document 01, "Insert"). The counters are under no damage
-- rule: whatever their words hold is taken as it is. Definitions only.
use Rattle.std.specs.Prelude.{Bool, ◌&&◌, List, [], ◌∷◌, ℕ, ◌+◌, ◌-◌, ◌*◌, ◌<◌, ◌≤◌, min, ltb, leb, get_or, set}
use Rattle.laws.specs.Pick.{pick}
use Rattle.model.specs.Slots.{most_slots}
use Rattle.pool.specs.Memory.{records_in, l_word, elements_word, built_word, conflicts_word}
use Rattle.walk.specs.Walks.{longest_path}
use Rattle.walk.specs.declared.Path.{Path}

-- "each stops at 4,294,967,295"
abbrev pub counter_stop : ℕ
counter_stop = 4294967295

-- a word above the stop comes down to it
unfoldable pub one_more : ℕ → ℕ
one_more x = min (x + 1) counter_stop

unfoldable pub raised_if : Bool → ℕ → ℕ
raised_if conflict x = pick conflict (one_more x) x

-- "elements >= 64"
abbrev pub least_due : ℕ
least_due = 64

-- "A node is due when elements >= 64, elements >= 2 x built, 10 x conflicts >= elements - built, and L < 4,096"
unfoldable pub is_due : ℕ → ℕ → ℕ → ℕ → Bool
is_due elements built conflicts l =
    leb least_due elements && (leb (2 * built) elements && (leb (elements - built) (10 * conflicts) && ltb l most_slots))

-- "judged as if the insert stood": record r with its counters one insert on, which was or was not a conflict
unfoldable pub due_node : List ℕ → Bool → ℕ → Bool
due_node ns conflict r =
    is_due (one_more (get_or ns (elements_word r) 0)) (get_or ns (built_word r) 0) (raised_if conflict (get_or ns (conflicts_word r) 0)) (get_or ns (l_word r) 0)

-- "the due node nearest the root": its place in the path, from 0; the path's length if none is due
unfoldable pub due_in : List ℕ → Bool → List ℕ → ℕ
due_in ns conflict [] = 0
due_in ns conflict (r ∷ p) = pick (due_node ns conflict r) 0 (1 + due_in ns conflict p)

-- "elements + 1 and, after a conflict, conflicts + 1": no other word of the record is stored
unfoldable pub raise_elements : List ℕ → ℕ → List ℕ
raise_elements ns r = set ns (elements_word r) (one_more (get_or ns (elements_word r) 0))

unfoldable pub raise_conflicts : List ℕ → ℕ → List ℕ
raise_conflicts ns r = set ns (conflicts_word r) (one_more (get_or ns (conflicts_word r) 0))

unfoldable pub raise_node : List ℕ → Bool → ℕ → List ℕ
raise_node ns conflict r = pick conflict (raise_conflicts (raise_elements ns r) r) (raise_elements ns r)

-- the records of a path, the root first
unfoldable pub raise : List ℕ → Bool → List ℕ → List ℕ
raise ns conflict [] = ns
raise ns conflict (r ∷ p) = raise (raise_node ns conflict r) conflict p

-- a path of records of the pool, which every walk that meets no damage leaves
pub record OnPath (ns : List ℕ) (p : Path) : Type 0 where
  pub short : p.len ≤ longest_path
  pub within : (i : ℕ) → i < p.len → get_or p.nodes i 0 < records_in ns
