-- `store::load_rising` meets its contract: the sums of the sizes decide (proofs/Loads). Assumes nothing.
use mathlib.Core.Path.{ap}
use native.Mathlib.Omega.{arith}
use Rattle.build.specs.Counting.{needs_of}
use Rattle.build.specs.declared.sizes.Needs.{Needs}
use Rattle.store.proofs.Loads.{load-roomless}
use Rattle.store.proofs.load_rising.Goals as goal

pub sizes-needs-requires : goal.sizes-needs-requires
sizes-needs-requires c =
    let l = c.requires in
    record { rising = l.rising; keys_len_bound = l.few; keys_bound = omega (arith, l.few) }

pub returns-then-nodes-needs : goal.returns-then-nodes-needs
unfolding needs_of
returns-then-nodes-needs c =
    let e = ap (λ (n : Needs). n.nodes) c.sizes-needs.ensures.needs in
    load-roomless _ _ _ _ c.requires (λ y. omega (arith, y.nodes, e, c.if-nodes-needs.true))

pub returns-then-slots-needs : goal.returns-then-slots-needs
unfolding needs_of
returns-then-slots-needs c =
    let e = ap (λ (n : Needs). n.slots) c.sizes-needs.ensures.needs in
    load-roomless _ _ _ _ c.requires (λ y. omega (arith, y.slots, e, c.if-slots-needs.true))

pub load_afresh-requires : goal.load_afresh-requires
unfolding needs_of
load_afresh-requires c =
    let e = ap (λ (n : Needs). n.nodes) c.sizes-needs.ensures.needs in
    let f = ap (λ (n : Needs). n.slots) c.sizes-needs.ensures.needs in
    record { loadable = c.requires; roomy = record { nodes = omega (arith, e, c.if-nodes-needs.false); slots = omega (arith, f, c.if-slots-needs.false) } }

pub returns : goal.returns
returns c = c.load_afresh.ensures
