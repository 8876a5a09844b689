-- `insert::tidy` meets its contract, way by way (proofs/Tidies). Assumes nothing.
use native.Mathlib.Omega.{arith}
use Rattle.counters.proofs.Traces.{on_path_stays}
use Rattle.insert.proofs.Tidies.{tidy-none, tidy-done, tidy-put_off, new-within, ready_rebuildable, node-sound}
use Rattle.insert.proofs.tidy.Goals as goal

pub stand-requires : goal.stand-requires
stand-requires c =
    let o = c.requires.stores in
    record { count_lt_capacity = c.requires.ready.space; key_lt_key_bound = c.requires.ready.is_key; stores = record { slot = o.slot; pair = o.pair; above-slot = λ e. absurd (omega arith); sized = o.sized; on = o.on; within = omega arith } }

pub returns-then-entry-at : goal.returns-then-entry-at
returns-then-entry-at c = tidy-none _ _ _ _ _ _ c.args.entry.path c.requires.stores.sized _ _ _ _ _ _ c.if-entry-at.true (c.stand.ensures _)

pub rebuild-requires : goal.rebuild-requires
rebuild-requires c =
    let lt = c.if-entry-at.false in
    let o = c.requires.stores in
    ready_rebuildable c.args.h _ _ _ _ _ c.requires.ready (omega (arith, lt, o.sized.short)) (node-sound _ _ _ o.sized _ _ (omega (arith, lt)) c.requires.used_value)

pub replace_at-requires : goal.replace_at-requires
replace_at-requires c =
    let o = c.requires.stores in
    let n = c.rebuild.auto.nodes in
    let w = c.rebuild.auto.slots in
    let u = c.rebuild.auto.used in record { count_lt_capacity = c.requires.ready.space; pooled = record { mapped = omega (arith, c.requires.ready.pools.mapped, n, w, u); records = omega (arith, c.requires.ready.pools.records, n); slots = omega (arith, c.requires.ready.pools.slots, w) }; stores = record { slot = omega (arith, o.slot, w); pair = o.pair; above-slot = λ e. omega (arith, o.above-slot e, w); sized = o.sized; on = on_path_stays _ _ _ (rw n) o.on; within = o.within }; r_bound = new-within c.args.h _ _ _ _ _ _ _ _ _ c.rebuild.ensures _ c.in-Some.is c.requires.ready.pools }

pub stand-requires-in-None : goal.stand-requires-in-None
stand-requires-in-None c =
    let o = c.requires.stores in
    let n = c.rebuild.auto.nodes in
    let w = c.rebuild.auto.slots in
    record { count_lt_capacity = c.requires.ready.space; key_lt_key_bound = c.requires.ready.is_key; stores = record { slot = omega (arith, o.slot, w); pair = o.pair; above-slot = λ e. absurd (omega arith); sized = o.sized; on = on_path_stays _ _ _ (rw n) o.on; within = omega arith } }

pub returns-in-Some : goal.returns-in-Some
returns-in-Some c = tidy-done _ _ _ _ _ _ c.args.entry.path c.requires.stores.sized _ _ _ _ _ _ c.if-entry-at.false _ _ _ c.rebuild.ensures _ c.in-Some.is (c.replace_at.ensures _)

pub returns-in-None : goal.returns-in-None
returns-in-None c =
    tidy-put_off _ _ _ _ _ _ c.args.entry.path c.requires.stores.sized _ _ _ _ _ _ c.if-entry-at.false _ _ _ c.rebuild.ensures c.in-None.is (c.stand-in-None.ensures _)
