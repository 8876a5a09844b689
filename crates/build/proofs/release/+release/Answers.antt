-- `build::release::release` meets its contract: each turn of its loop and each exit is a law of Releasing. Assumes nothing.
use Rattle.std.specs.Prelude.{Ok}
use Rattle.pool.specs.declared.Slot.TheVariants.{Child}
use mathlib.Core.Path.{◌≡◌, sym, ◌∙◌}
use Prim.Native.Nat.{◌-◌}
use native.Mathlib.Omega.{arith}
use Rattle.pool.specs.Memory.{mem}
use Rattle.pool.proofs.Nodes.{good-node}
use Rattle.build.proofs.Releasing.{left-start, left-sized, left-child, left_other, ends_no_fuel, ends-broken, ends_dropped}
use Rattle.build.proofs.release.+release.Goals as goal

pub returns-then-fuel-lt1 : goal.returns-then-fuel-lt1
returns-then-fuel-lt1 t c =
    ends_no_fuel c.args.fuel (mem c.args.nodes.now c.args.slots.now c.args.used.now) c.args.r c.if-fuel-lt1.true

pub returns-in_default : goal.returns-in_default
returns-in_default t c =
    ends-broken c.args.fuel (mem c.args.nodes.now c.args.slots.now c.args.used.now) c.args.r c.if-fuel-lt1.false _ c.node_at.ensures _ c.in_default.is

pub loop-j-init : goal.loop-j-init
loop-j-init t c =
    left-start (c.args.fuel - 1) _ (mem c.args.nodes.now c.args.slots.now c.args.used.now)

pub slot_at-requires : goal.slot_at-requires
slot_at-requires t c =
    let g = good-node (mem c.args.nodes.now c.args.slots.now c.args.used.now) c.args.r _ (sym c.node_at.ensures ∙ c.in-Ok.is) in
    record { j_in_bounds = omega (arith, g.fits, c.loop-j.invariant.slots); in_range = g.range }

pub release-requires : goal.release-requires
release-requires t c =
    (omega (arith, c.decreases, c.if-fuel-lt1.false), left-sized c.loop-j.invariant c.requires)

pub loop-j-preserved : goal.loop-j-preserved
loop-j-preserved t c =
    let g = c.release in
    let e : c.slot_at.result ≡ Ok (Child c.in-Child.child) = cc in
    left-child c.loop-j.invariant (omega arith) _ c.slot_at.ensures _ (mem g.new.nodes g.new.slots g.new.used) e g.ensures

pub loop-j-preserved-in_default-slot : goal.loop-j-preserved-in_default-slot
loop-j-preserved-in_default-slot t c =
    left_other c.loop-j.invariant (omega arith) _ c.slot_at.ensures
    (λ k e. let f : c.in-Ok-slot_at.slot ≡ Child k = cc in c.in_default-slot.not-Child k f)

pub loop-j-preserved-in_default-slot_at : goal.loop-j-preserved-in_default-slot_at
loop-j-preserved-in_default-slot_at t c =
    left_other c.loop-j.invariant (omega arith) _ c.slot_at.ensures (λ k e. c.in_default-slot_at.not-Ok _ e)

pub drop_node-requires : goal.drop_node-requires
drop_node-requires t c =
    let g = good-node (mem c.args.nodes.now c.args.slots.now c.args.used.now) c.args.r _ (sym c.node_at.ensures ∙ c.in-Ok.is) in
    let k = c.loop-j.invariant in
    record { sized = left-sized k c.requires; r_bound = omega (arith, g.inside, k.nodes); l_bound = omega (arith, g.fits, k.slots) }

pub returns : goal.returns
returns t c =
    let d = c.drop_node in
    ends_dropped c.args.fuel (mem c.args.nodes.now c.args.slots.now c.args.used.now) c.args.r c.if-fuel-lt1.false _ c.node_at.ensures _ _ _ (mem d.new.nodes d.new.slots d.new.used) c.in-Ok.is c.loop-j.invariant (omega arith) d.ensures
