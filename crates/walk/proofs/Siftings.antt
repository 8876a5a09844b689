-- A reading under its rules: for each event the item that it makes of what was left, way by way. Assumes nothing.
use mathlib.Core.Bool.{Bool, true, false, not}
use mathlib.Core.List.{List}
use mathlib.Core.Path.{◌≡◌, ap, subst, ◌∙◌}
use Prim.Native.Nat.{ℕ, ◌+◌, ◌-◌, ◌<◌, ◌≤◌}
use native.Mathlib.Omega.{arith}
use borrow.Author.Tests.{lt-leb, le-leb, leb-true}
use lib.Dec.{leb, eqb}
use Rattle.laws.proofs.Tests.{and_both}
use Rattle.laws.specs.Keys.{key_bound}
use Rattle.marks.specs.Used.{full_run}
use Rattle.pool.proofs.Nodes.{good-node}
use Rattle.pool.specs.declared.Rule.{Rule}
use Rattle.pool.specs.Memory.{Mem, slot_place, slots_in}
use Rattle.pool.specs.declared.Node.{Node}
use Rattle.walk.specs.Cursors.{remains, told}
use Rattle.walk.specs.Items.{may_enter, may_hold, entered, holding, items}
use Rattle.walk.specs.Moves.{below, Standing, Stands, met, Finds}
use Rattle.walk.specs.declared.Cursor.{Cursor}
use Rattle.walk.specs.declared.Event.{Event}
use Rattle.walk.specs.declared.Event.TheVariants.{Enter, Element, Damage, End}
use Rattle.walk.specs.declared.Item.{Item}
use Rattle.walk.specs.declared.Item.TheVariants.{Held, Broken, End as ItemEnd}
use Rattle.walk.specs.declared.Next.{Next}
use Rattle.walk.specs.declared.Rules.{Rules}
use Rattle.walk.specs.declared.Span.{Span}

-- may a node be entered, test by test
module _ (m : Mem) (ru : Rules) (n : Node) where
  pub enters_none : ru.nodes < 1 → false ≡ may_enter m ru n
  unfolding may_enter
  enters_none h = rw (lt-leb 1 ru.nodes h)

  pub enters_plain : 1 ≤ ru.nodes → ru.rebuild ≡ false → true ≡ may_enter m ru n
  unfolding may_enter
  enters_plain h e = rw (le-leb 1 ru.nodes h, e)

  pub enters_marked : 1 ≤ ru.nodes → ru.rebuild ≡ true → (b : Bool) → b ≡ full_run m.used (slot_place m.nodes n.start) n.model.l → b ≡ may_enter m ru n
  unfolding may_enter
  enters_marked h e b f = rw (le-leb 1 ru.nodes h, e, f)

  pub enters_some : may_enter m ru n ≡ true → 1 ≤ ru.nodes
  unfolding may_enter
  enters_some e = leb-true _ _ (and_both (leb 1 ru.nodes) _ e).0

-- may a key be read, test by test
module _ (ru : Rules) (k : ℕ) where
  pub holds_falling : k < ru.least → false ≡ may_hold ru k
  unfolding may_hold
  holds_falling h = rw (lt-leb ru.least k h)

  pub holds_plain : ru.least ≤ k → ru.rebuild ≡ false → true ≡ may_hold ru k
  unfolding may_hold
  holds_plain h e = rw (le-leb ru.least k h, e)

  pub holds-none : ru.least ≤ k → ru.rebuild ≡ true → ru.keys < 1 → false ≡ may_hold ru k
  unfolding may_hold
  holds-none h e l = rw (le-leb ru.least k h, e, lt-leb 1 ru.keys l)

  pub holds-other : ru.least ≤ k → ru.rebuild ≡ true → 1 ≤ ru.keys → not (eqb k ru.fresh) ≡ may_hold ru k
  unfolding may_hold
  holds-other h e l = rw (le-leb ru.least k h, e, le-leb 1 ru.keys l)

  -- with no key left there are none after it either
  pub holding-none : ru.keys < 1 → record { nodes = ru.nodes; keys = ru.keys; least = k + 1; rebuild = ru.rebuild; fresh = ru.fresh } ≡ holding ru k
  holding-none h =
      let e : ru.keys ≡ ru.keys - 1 = omega arith in
      ap (λ (x : ℕ). record { nodes = ru.nodes; keys = x; least = k + 1; rebuild = ru.rebuild; fresh = ru.fresh }) e

abbrev next : Item → Rules → Cursor → Next
next i ru c = record { item = i; rules = ru; cursor = c }

-- an item of what is left here is one of what was left before
pub finds_from : {s : Span} {m : Mem} {over : ℕ} {ru ru' : Rules} {es es' : List Event} {to : Next} {rs js : List ℕ}
    → items m ru es ≡ items m ru' es' → Finds s m over ru es to rs js → Finds s m over ru' es' to rs js
finds_from e h = record { tells = h.tells ∙ e; stands = h.stands }

pub finds_of : {s : Span} {m : Mem} {over : ℕ} {ru : Rules} {es es' : List Event} {to : Next} {rs js : List ℕ}
    → es ≡ es' → Finds s m over ru es to rs js → Finds s m over ru es' to rs js
finds_of {m} {ru} e h = record { tells = h.tells ∙ ap (items m ru) e; stands = h.stands }

-- a node that may be entered: its event goes, and one node less may be entered
module _ (m : Mem) (ru ru' : Rules) (es es' : List Event) (x : Event) (r : ℕ) (n : Node) where
  pub enters : x ≡ Enter r n → may_enter m ru n ≡ true → ru' ≡ entered ru → es' ≡ es → items m ru' es' ≡ items m ru (told x es)
  unfolding told items
  enters e f g h = rw (e, f, g, h)

-- the node of an event that may be entered is the cursor's, a good one
module _ (s : Span) (m : Mem) (over : ℕ) (c : Cursor) (x : Event) (r : ℕ) (n : Node) (e : x ≡ Enter r n) (st : Stands s m over x c) where
  pub enter_stands : Standing s m over c
  enter_stands = (subst (λ (y : Event). Stands s m over y c) e st).0

  pub enter_fits : n.start + n.model.l ≤ slots_in m.slots
  enter_fits =
      let q : c.node ≡ n = (subst (λ (y : Event). Stands s m over y c) e st).1 in
      rw (← q) (good-node m c.record c.node enter_stands.reads).fits

-- an element's key is one
pub element_key : (s : Span) (m : Mem) (over : ℕ) (c : Cursor) (x : Event) (q k : ℕ) → x ≡ Element q k → Stands s m over x c → k < key_bound
element_key s m over c x q k e st = (subst (λ (y : Event). Stands s m over y c) e st).1.key

-- where the code stops
module _ (s : Span) (m : Mem) (over : ℕ) (ru : Rules) (c : Cursor) (rs js : List ℕ) (x : Event) where
  pub finds_unentered : (r : ℕ) (n : Node) → x ≡ Enter r n → may_enter m ru n ≡ false
      → Finds s m over ru (told x (remains s m (below over c) c rs js)) (next Broken ru c) rs js
  unfolding told items met
  finds_unentered r n e f = record { tells = rw (e, f); stands = tt }

  pub finds_unheld : (q k : ℕ) → x ≡ Element q k → may_hold ru k ≡ false
      → Finds s m over ru (told x (remains s m (below over c) c rs js)) (next Broken ru c) rs js
  unfolding told items met
  finds_unheld q k e f = record { tells = rw (e, f); stands = tt }

  pub finds_held : (q k : ℕ) → x ≡ Element q k → may_hold ru k ≡ true → Stands s m over x c → (ru' : Rules) → ru' ≡ holding ru k
      → Finds s m over ru (told x (remains s m (below over c) c rs js)) (next (Held q k) ru' c) rs js
  unfolding told items met
  finds_held q k e f st ru' g = record { tells = rw (e, f, g); stands = subst (λ (y : Event). Stands s m over y c) e st }

  pub finds_damage : (b : Rule) → x ≡ Damage b → Finds s m over ru (told x (remains s m (below over c) c rs js)) (next Broken ru c) rs js
  unfolding told items met
  finds_damage b e = record { tells = rw e; stands = tt }

  pub finds_end : x ≡ End → Finds s m over ru (told x (remains s m (below over c) c rs js)) (next ItemEnd ru c) rs js
  unfolding told items met
  finds_end e = record { tells = rw e; stands = tt }
