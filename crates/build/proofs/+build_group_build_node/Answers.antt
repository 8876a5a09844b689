-- The cycle of `build::build_group` and `build::build_node`: each turn of the loop over the runs of keys and each exit is a law of
-- Turns. Assumes nothing.
use mathlib.Core.List.{List}
use mathlib.Core.Path.{◌≡◌}
use Prim.Native.Nat.{ℕ, ◌-◌, ◌<◌, ◌≤◌}
use native.Mathlib.Omega.{arith}
use lib.ListN.{length, get_or}
use Rattle.laws.specs.Keys.{Rising}
use Rattle.model.specs.Choice.{most_keys}
use Rattle.model.specs.Slots.{slot_of, value_of}
use Rattle.pool.specs.Memory.{Mem, mem}
use Rattle.pool.specs.declared.Node.{Node}
use Rattle.build.specs.Runs.{RunEnd}
use Rattle.build.specs.declared.Hint.{Hint}
use Rattle.build.proofs.Filter.{run_counted}
use Rattle.build.proofs.Turns.{Filling, filling_start, Turn, data_requires, turn_data, group_requires, turn_group, ends-full, ends_filled, ends_no_fuel, ends_nowhere, begun_fills, child_small, group_child, group_full}
use Rattle.build.proofs.+build_group_build_node.Goals as goal

-- a turn of the loop, from what its run and its slot are found to be
turn : {depth r : ℕ} {node : Node} {ks ps : List ℕ} {a : ℕ} {start m : Mem} {hint : Hint} {t b : ℕ} → Filling depth r node ks ps a start m hint
    → Rising ks
    → length ps ≡ length ks
    → length ks ≤ most_keys
    → a < length ks
    → (t ≡ slot_of node.model (value_of (get_or ks a 0))) × (t < node.model.l)
    → RunEnd node.model ks a b
    → Turn depth r node ks ps a start m hint t b
turn f rises same few here q e = record {
  filling = f;
  rises = rises;
  same = same;
  few = few;
  here = here;
  slot = q.0;
  under = q.1;
  end = run_counted _ f.range _ rises _ _ e;
  more = e.after;
  within = e.within;
}

pub build_group-build_node-g-requires : goal.build_group-build_node-g-requires
build_group-build_node-g-requires t c =
    let p = c.requires in
    (omega (arith, c.decreases), (p.rising, (p.payloads_len, (p.keys_len_bound, (p.sized, p.hinted)))))

pub build_group-put_child-requires-clause-child_lt_kind_unit :
    goal.build_group-put_child-requires-clause-child_lt_kind_unit
build_group-put_child-requires-clause-child_lt_kind_unit t c =
    child_small c.args.fuel c.args.q _ _ _ _ _ c.build_node-g.ensures _ c.in-Some.is c.requires.sized

pub build_group-returns-in-Some : goal.build_group-returns-in-Some
build_group-returns-in-Some t c =
    group_child c.args.fuel c.args.q _ _ _ _ _ c.build_node-g.ensures _ _ c.in-Some.is c.put_child.ensures

pub build_group-returns-in_default : goal.build_group-returns-in_default
build_group-returns-in_default t c =
    group_full c.args.fuel c.args.q _ _ _ _ _ c.build_node-g.ensures c.in_default.is

pub build_node-returns-then-fuel-lt1 : goal.build_node-returns-then-fuel-lt1
build_node-returns-then-fuel-lt1 t c =
    ends_no_fuel c.args.fuel _ _ (mem c.args.nodes.now c.args.slots.now c.args.used.now) _ c.if-fuel-lt1.true c.requires.hinted

pub build_node-returns-in_default : goal.build_node-returns-in_default
build_node-returns-in_default t c =
    ends_nowhere c.args.fuel _ _ (mem c.args.nodes.now c.args.slots.now c.args.used.now) c.if-fuel-lt1.false _ _ c.begin_node.ensures _ c.in_default.is c.requires.hinted

pub build_node-loop-a-init : goal.build_node-loop-a-init
build_node-loop-a-init t c =
    let p = c.requires in
    let before = mem c.args.nodes.now c.args.slots.now c.args.used.now in
    let b = c.begin_node in
    filling_start (c.args.fuel - 1) c.args.keys.now c.args.payloads.now before (mem b.new.nodes b.new.slots b.new.used) b.result c.in-Some.place p.rising p.payloads_len p.sized b.ensures c.in-Some.is

pub build_node-run_end-b-requires-clause-in_range :
    goal.build_node-run_end-b-requires-clause-in_range
build_node-run_end-b-requires-clause-in_range t c = c.loop-a.invariant.range

pub build_node-slot_of-requires : goal.build_node-slot_of-requires
build_node-slot_of-requires t c =
    record { in_range = c.loop-a.invariant.range; x_lt_value_bound = c.requires.rising.below c.loop-a.a c.loop-a-test.true }

pub build_node-put_data-requires-clause-q_in_bounds :
    goal.build_node-put_data-requires-clause-q_in_bounds
build_node-put_data-requires-clause-q_in_bounds t c =
    let p = c.requires in
    let w = turn c.loop-a.invariant p.rising p.payloads_len p.keys_len_bound c.loop-a-test.true c.slot_of.ensures c.run_end-b.ensures in
    (data_requires w).0

pub build_node-build_group-g-requires : goal.build_node-build_group-g-requires
build_node-build_group-g-requires t c =
    let p = c.requires in
    let w = turn c.loop-a.invariant p.rising p.payloads_len p.keys_len_bound c.loop-a-test.true c.slot_of.ensures c.run_end-b.ensures in
    (omega (arith, c.decreases, c.if-fuel-lt1.false), group_requires w)

pub build_node-returns-in_default-built : goal.build_node-returns-in_default-built
build_node-returns-in_default-built t c =
    let p = c.requires in
    let w = turn c.loop-a.invariant p.rising p.payloads_len p.keys_len_bound c.loop-a-test.true c.slot_of.ensures c.run_end-b.ensures in
    let before = mem c.args.nodes.now c.args.slots.now c.args.used.now in
    let whole = begun_fills c.args.fuel c.args.keys.now c.args.payloads.now before c.if-fuel-lt1.false (mem c.begin_node.new.nodes c.begin_node.new.slots c.begin_node.new.used) c.begin_node.result c.begin_node.ensures _ c.in-Some.is in
    let g = c.build_group-g in
    ends-full w c.if-b-a-eq1.false (mem g.new.nodes g.new.slots g.new.used) g.result g.ensures c.args.fuel before whole c.in_default-built.is

pub build_node-loop-a-preserved-then-b-a-eq1 : goal.build_node-loop-a-preserved-then-b-a-eq1
build_node-loop-a-preserved-then-b-a-eq1 t c =
    let p = c.requires in
    let w = turn c.loop-a.invariant p.rising p.payloads_len p.keys_len_bound c.loop-a-test.true c.slot_of.ensures c.run_end-b.ensures in
    turn_data w _ c.if-b-a-eq1.true c.put_data.ensures

pub build_node-loop-a-preserved : goal.build_node-loop-a-preserved
build_node-loop-a-preserved t c =
    let p = c.requires in
    let w = turn c.loop-a.invariant p.rising p.payloads_len p.keys_len_bound c.loop-a-test.true c.slot_of.ensures c.run_end-b.ensures in
    let g = c.build_group-g in
    turn_group w c.if-b-a-eq1.false (mem g.new.nodes g.new.slots g.new.used) g.result g.ensures _ c.in-Some-built.is g.auto.nodes g.auto.slots g.auto.used

pub build_node-returns : goal.build_node-returns
build_node-returns t c =
    let before = mem c.args.nodes.now c.args.slots.now c.args.used.now in
    let whole = begun_fills c.args.fuel c.args.keys.now c.args.payloads.now before c.if-fuel-lt1.false (mem c.begin_node.new.nodes c.begin_node.new.slots c.begin_node.new.used) c.begin_node.result c.begin_node.ensures _ c.in-Some.is in
    ends_filled c.loop-a.invariant c.requires.rising c.requires.payloads_len c.loop-a-test.false c.args.fuel before whole
