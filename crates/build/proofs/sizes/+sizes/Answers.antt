-- `build::sizes::sizes` meets its contract: each turn of its loop is a law of Counting, and the child's count fits since the
-- bounds that `Left` keeps leave room for it. Assumes nothing.
use native.Mathlib.Omega.{arith}
use Rattle.laws.proofs.Parts.{length_part}
use Rattle.laws.proofs.Risings.{rising_part}
use Rattle.build.proofs.Counting.{run-fewer, left_alone, left-child, left-done, left-slots_small, left-depth_small, counts_none, counts_nodes_small, counts_slots_small, chosen_model, chosen-range}
use Rattle.build.proofs.sizes.+sizes.Goals as goal

pub returns-then-fuel-lt1 : goal.returns-then-fuel-lt1
returns-then-fuel-lt1 t c =
    counts_none c.args.fuel c.args.keys.now c.args.at c.args.list.now c.if-fuel-lt1.true

pub run_end-b-requires-clause-in_range : goal.run_end-b-requires-clause-in_range
run_end-b-requires-clause-in_range t c = chosen-range c.args.keys.now c.requires.rising c.model_of.ensures

pub sizes-child-requires : goal.sizes-child-requires
sizes-child-requires t c =
    let ks = c.args.keys.now in
    let e = c.run_end-b in
    let n = length_part ks c.loop-a.a e.result e.ensures.within in
    let fewer = run-fewer (chosen_model ks c.model_of.ensures) c.requires.rising e.ensures c.if-b-a-gt1.true in (
      omega (arith, c.decreases, c.if-fuel-lt1.false),
      (
        rising_part ks c.loop-a.a e.result e.ensures.within c.requires.rising,
        (omega (arith, n, e.ensures.within, c.requires.keys_len_bound), omega (arith, n, fewer, c.loop-a.invariant.few, e.ensures.within, c.requires.keys_bound)),
      ),
    )

pub overflow_add-nodes : goal.overflow_add-nodes
overflow_add-nodes t c =
    let ks = c.args.keys.now in
    let e = c.run_end-b in
    let r = rising_part ks c.loop-a.a e.result e.ensures.within c.requires.rising in
    let n = length_part ks c.loop-a.a e.result e.ensures.within in
    omega (arith, c.loop-a.invariant.few, c.loop-a.invariant.within, c.requires.keys_len_bound, counts_nodes_small r (omega (arith, n, e.ensures.within, c.requires.keys_len_bound)) c.sizes-child.ensures)

pub overflow_add-slots : goal.overflow_add-slots
overflow_add-slots t c =
    let ks = c.args.keys.now in
    let e = c.run_end-b in
    let r = rising_part ks c.loop-a.a e.result e.ensures.within c.requires.rising in
    let n = length_part ks c.loop-a.a e.result e.ensures.within in
    omega (
      arith,
      left-slots_small {fuel = c.args.fuel} (omega (arith, c.if-fuel-lt1.false)) (chosen_model ks c.model_of.ensures) c.loop-a.invariant c.requires.rising c.requires.keys_len_bound,
      counts_slots_small r (omega (arith, n, e.ensures.within, c.requires.keys_len_bound)) c.sizes-child.ensures,
    )

pub loop-a-preserved-then-b-a-gt1 : goal.loop-a-preserved-then-b-a-gt1
loop-a-preserved-then-b-a-gt1 t c =
    left-child
    (chosen-range c.args.keys.now c.requires.rising c.model_of.ensures)
    c.requires.rising
    c.run_end-b.ensures
    c.loop-a.invariant
    c.if-b-a-gt1.true
    c.sizes-child.ensures
    c.max-below.ensures

pub loop-a-preserved : goal.loop-a-preserved
loop-a-preserved t c =
    left_alone
    (chosen-range c.args.keys.now c.requires.rising c.model_of.ensures)
    c.requires.rising
    c.run_end-b.ensures
    c.loop-a.invariant
    c.if-b-a-gt1.false

pub overflow_add-result : goal.overflow_add-result
overflow_add-result t c =
    let is = chosen_model c.args.keys.now c.model_of.ensures in
    omega (arith, left-depth_small {fuel = c.args.fuel} (omega (arith, c.if-fuel-lt1.false)) is c.loop-a.invariant c.requires.rising c.requires.keys_len_bound)

pub returns : goal.returns
returns t c =
    let is = chosen_model c.args.keys.now c.model_of.ensures in
    left-done (omega (arith, c.if-fuel-lt1.false)) is c.loop-a.invariant c.put.ensures c.loop-a-test.false
