-- `insert::settle` meets its contract, way by way (proofs/Tidies). Assumes nothing.
use Rattle.std.specs.Prelude.{None}
use mathlib.Core.Path.{◌≡◌, sym, ◌∙◌}
use native.Mathlib.Omega.{arith}
use Rattle.counters.proofs.Dues.{due_among}
use Rattle.counters.proofs.Traces.{on_path_stays}
use Rattle.insert.proofs.Leaves.{above_within}
use Rattle.insert.proofs.Tidies.{settle-damage, settle-roomless, still_sound, settle-tidy, pair_small}
use Rattle.insert.proofs.settle.Goals as goal

pub returns-then-not-sound_due : goal.returns-then-not-sound_due
returns-then-not-sound_due c = settle-damage _ _ _ _ _ _ _ _ _ _ (rw c.is_some.ensures at c.due_at-at.ensures) _ c.new.ensures (sym c.sound_due.ensures ∙ c.if-not-sound_due.true)

pub slot_above-above-requires : goal.slot_above-above-requires
slot_above-above-requires c =
    record { key_lt_key_bound = c.requires.ready.is_key; sized = (c.requires.ends.sized, rw c.due_at-at.ensures (due_among _ _ _ _)); good_path = c.requires.ends.good }

pub returns-in_default : goal.returns-in_default
returns-in_default c =
    let e : c.build_pair.result ≡ None = cc in
    settle-roomless _ _ _ _ _ _ _ _ _ _ (rw c.is_some.ensures at c.due_at-at.ensures) (sym c.sound_due.ensures ∙ c.if-not-sound_due.false) _ c.slot_above-above.ensures _ _ c.build_pair.ensures _ c.new-in_default.ensures c.requires.ends.pair e

pub tidy-requires : goal.tidy-requires
tidy-requires c =
    let y = c.requires.ready in
    let d = c.requires.ends in
    let n = c.build_pair.auto.nodes in
    let w = c.build_pair.auto.slots in
    let u = c.build_pair.auto.used in
    let a = c.due_at-at.ensures in record {
      ready = record {
        least = y.least;
        most = y.most;
        space = y.space;
        pools = record { mapped = omega (arith, y.pools.mapped, n, w, u); records = omega (arith, y.pools.records, n); slots = omega (arith, y.pools.slots, w) };
        keys = y.keys;
        payloads = y.payloads;
        places = y.places;
        is_key = y.is_key;
      };
      stores = record {
        slot = omega (arith, d.slot, w);
        pair = pair_small _ _ _ _ _ _ _ _ c.build_pair.ensures _ c.in-Some.is y.pools;
        above-slot = λ e. omega (arith, c.slot_above-above.ensures, above_within _ d.sized _ d.good c.args.entry.key c.due_at-at.result e (rw a (due_among _ _ _ _)), w);
        sized = d.sized;
        on = on_path_stays _ _ _ (rw n) d.on;
        within = rw a (due_among _ _ _ _);
      };
      used_value = still_sound _ _ _ _ _ (sym c.sound_due.ensures ∙ c.if-not-sound_due.false) _ _ _ _ _ _ _ c.build_pair.ensures;
    }

pub returns : goal.returns
returns c =
    settle-tidy _ _ _ _ _ _ _ _ _ _ (rw c.is_some.ensures at c.due_at-at.ensures) (sym c.sound_due.ensures ∙ c.if-not-sound_due.false) _ c.slot_above-above.ensures _ _ c.build_pair.ensures _ _ c.in-Some.is c.tidy.ensures
