-- Due nodes and rising counters, sample by sample: the edges of each condition, the stop, and words that no store of ours leaves.
-- Assumes nothing.
use mathlib.Core.Bool.{true, false}
use mathlib.Core.List.{List, [], ◌∷◌, ◌++◌}
use mathlib.Core.Path.{◌≡◌, refl}
use Prim.Native.Nat.{ℕ, ◌-◌, ◌^◌}
use Rattle.counters.specs.Counters.{counter_stop, one_more, raised_if, is_due, due_node, due_in, raise_elements, raise_conflicts, raise_node, raise}

-- the record of a node with L slots and its three counters
abbrev node : ℕ → ℕ → ℕ → ℕ → List ℕ
node l elements built conflicts = 0 ∷ 2 ^ 48 ∷ l ∷ 0 ∷ elements ∷ built ∷ conflicts ∷ 0 ∷ []

-- the greatest word
abbrev top : ℕ
top = 2 ^ 64 - 1

-- the empty root is due from 64 elements on with 7 conflicts, this insert's included
empty-root :
    (due_node (node 64 63 0 6) true 0 ≡ true)
    × (due_node (node 64 63 0 7) false 0 ≡ true)
    × (due_node (node 64 62 0 6) true 0 ≡ false)
    × (due_node (node 64 63 0 5) true 0 ≡ false)
    × (due_node (node 64 63 0 6) false 0 ≡ false)
unfolding due_node is_due one_more raised_if
empty-root = (refl, refl, refl, refl, refl)

-- elements twice built, and ten conflicts for what came since
twice_built :
    (due_node (node 64 63 32 3) true 0 ≡ true)
    × (due_node (node 64 63 33 9) true 0 ≡ false)
    × (due_node (node 64 63 32 2) true 0 ≡ false)
    × (due_node (node 64 63 24 3) true 0 ≡ true)
    × (due_node (node 64 64 24 3) true 0 ≡ false)
unfolding due_node is_due one_more raised_if
twice_built = (refl, refl, refl, refl, refl)

-- a node of 4,096 slots is never due
most-slots : (due_node (node 4095 99 0 99) true 0 ≡ true) × (due_node (node 4096 99 0 99) true 0 ≡ false)
unfolding due_node is_due one_more raised_if
most-slots = (refl, refl)

-- built above elements is not due: no difference wraps
built-above : (due_node (node 64 99 101 99) true 0 ≡ false) × (due_node (node 64 99 top top) true 0 ≡ false)
unfolding due_node is_due one_more raised_if
built-above = (refl, refl)

-- a counter stops, and a word above the stop comes down to it
stops :
    (one_more 0 ≡ 1) × (one_more (counter_stop - 1) ≡ counter_stop) × (one_more counter_stop ≡ counter_stop) × (one_more top ≡ counter_stop)
unfolding one_more
stops = (refl, refl, refl, refl)

-- due is judged on the stopped values: 10 x 429,496,730 reaches the stop, and no product wraps
stopped_due :
    (due_node (node 64 counter_stop 0 429496729) true 0 ≡ true)
    × (due_node (node 64 counter_stop 0 429496729) false 0 ≡ false)
    × (due_node (node 64 top 0 top) false 0 ≡ true)
    × (due_node (node 64 top 2147483647 top) true 0 ≡ true)
    × (due_node (node 64 top 2147483648 top) true 0 ≡ false)
unfolding due_node is_due one_more raised_if
stopped_due = (refl, refl, refl, refl, refl)

-- what a raising stores
raised :
    (raise_node (node 64 63 0 6) true 0 ≡ node 64 64 0 7)
    × (raise_node (node 64 63 0 6) false 0 ≡ node 64 64 0 6)
    × (raise_node (node 64 counter_stop 5 top) true 0 ≡ node 64 counter_stop 5 counter_stop)
    × (raise_node (node 64 top top top) false 0 ≡ node 64 counter_stop top top)
unfolding raise_node raise_elements raise_conflicts one_more
raised = (refl, refl, refl, refl)

-- record 0 is not due, 1 and 2 are; a path need not follow the records' order
abbrev three : List ℕ
three = node 8 10 4 9 ++ (node 8 70 4 9 ++ node 64 99 0 99)

nearest_the_root :
    (due_in three true (0 ∷ 1 ∷ 2 ∷ []) ≡ 1)
    × (due_in three true (2 ∷ 0 ∷ 1 ∷ []) ≡ 0)
    × (due_in three true (0 ∷ []) ≡ 1)
    × (due_in three true [] ≡ 0)
unfolding due_in due_node is_due one_more raised_if
nearest_the_root = (refl, refl, refl, refl)

path-raised : raise three true (2 ∷ 0 ∷ []) ≡ node 8 11 4 10 ++ (node 8 70 4 9 ++ node 64 100 0 100)
unfolding raise raise_node raise_elements raise_conflicts one_more
path-raised = refl
