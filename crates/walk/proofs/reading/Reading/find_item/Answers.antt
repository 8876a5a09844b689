-- `walk::reading::Reading::find_item` meets its contract. The loop's invariant: the items of what is left from here are those of what was left
-- where it began (proofs/Siftings). The measure is how many nodes may still be entered. Assumes nothing.
use mathlib.Core.List.{[]}
use mathlib.Core.Path.{◌≡◌, refl, sym, ap, ◌∙◌}
use Prim.Native.Nat.{◌≤◌}
use native.Mathlib.Omega.{arith}
use Rattle.walk.specs.declared.Event.TheVariants.{End}
use Rattle.walk.specs.declared.Rules.{Rules}
use Rattle.walk.proofs.Siftings.{enters, enters_some, enter_stands, enter_fits, element_key, finds_from, finds_unentered, finds_unheld, finds_held, finds_damage, finds_end}
use Rattle.walk.proofs.reading.Reading.find_item.Goals as goal

pub loop-n-init : goal.loop-n-init
loop-n-init c = (c.requires.stands, ((refl, refl), refl))

pub may_enter-requires : goal.may_enter-requires
may_enter-requires c = enter_fits _ _ _ _ _ _ _ c.in-Enter.is c.loop-n.invariant.0

pub returns-then-not-may_enter : goal.returns-then-not-may_enter
returns-then-not-may_enter c =
    finds_from c.loop-n.invariant.1.1 (finds_unentered _ _ _ _ _ _ _ _ _ _ c.in-Enter.is (sym c.may_enter.ensures ∙ c.if-not-may_enter.true))

pub after_node-left-requires : goal.after_node-left-requires
after_node-left-requires c = enters_some _ _ _ (sym c.may_enter.ensures ∙ c.if-not-may_enter.false)

pub next-moved-requires : goal.next-moved-requires
next-moved-requires c =
    let p = c.requires in
    record { span_fits = p.span_fits; standing = enter_stands _ _ _ _ _ _ _ c.in-Enter.is c.loop-n.invariant.0; longest_path_in_bounds = (omega (arith, c.loop-n.invariant.1.0, p.longest_path_in_bounds), omega (arith, c.loop-n.invariant.1.0, p.longest_path_in_bounds)) }

pub loop-n-smaller : goal.loop-n-smaller
loop-n-smaller c =
    let s : 1 ≤ c.loop-n.left.nodes = enters_some _ _ _ (sym c.may_enter.ensures ∙ c.if-not-may_enter.false) in
    omega (arith, ap (λ (x : Rules). x.nodes) c.after_node-left.ensures)

pub loop-n-preserved : goal.loop-n-preserved
loop-n-preserved c =
    let k = c.next-moved.auto in (
      c.next-moved.ensures.stands,
      (
        (k.records ∙ c.loop-n.invariant.1.0.0, k.places ∙ c.loop-n.invariant.1.0.1),
        enters _ _ _ _ _ _ _ _ c.in-Enter.is (sym c.may_enter.ensures ∙ c.if-not-may_enter.false) c.after_node-left.ensures c.next-moved.ensures.tells ∙ c.loop-n.invariant.1.1,
      ),
    )

pub returns-then-not-may_hold : goal.returns-then-not-may_hold
returns-then-not-may_hold c =
    finds_from c.loop-n.invariant.1.1 (finds_unheld _ _ _ _ _ _ _ _ _ _ c.in-Element.is (sym c.may_hold.ensures ∙ c.if-not-may_hold.true))

pub after_key-after-requires : goal.after_key-after-requires
after_key-after-requires c = element_key _ _ _ _ _ _ _ c.in-Element.is c.loop-n.invariant.0

pub returns-in-Element : goal.returns-in-Element
returns-in-Element c =
    finds_from c.loop-n.invariant.1.1 (finds_held _ _ _ _ _ _ _ _ _ _ c.in-Element.is (sym c.may_hold.ensures ∙ c.if-not-may_hold.false) c.loop-n.invariant.0 _ c.after_key-after.ensures)

pub returns-in-Damage : goal.returns-in-Damage
returns-in-Damage c =
    finds_from c.loop-n.invariant.1.1 (finds_damage _ _ _ _ _ _ _ _ _ c.in-Damage.is)

pub returns-in-End : goal.returns-in-End
returns-in-End c =
    let e : c.loop-n.moved.event ≡ End = cc in
    finds_from c.loop-n.invariant.1.1 (finds_end _ _ _ _ _ _ _ _ e)
