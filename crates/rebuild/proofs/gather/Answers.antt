-- `rebuild::gather` meets its contract: what stands before the new key, the key, and what stands after it (proofs/Gathering). Assumes
-- nothing.
use Prim.Native.Nat.{◌<◌}
use native.Mathlib.Omega.{arith}
use lib.ListN.{length, length-set}
use Rattle.rebuild.proofs.Gathering.{first_fits, middle_fits, second_fits, gathered}
use Rattle.rebuild.proofs.gather.Goals as goal

pub write-lower-requires : goal.write-lower-requires
write-lower-requires c = record { span_fits = tt; above_lt_longest_path = c.requires.high; count_bound = omega (arith, c.requires.most); r_in_bounds = first_fits _ _ _ _ _ _ c.rules_of-rules.ensures _ _ c.requires; payloads_len = c.requires.same }

pub offset_bounds-keys-lower : goal.offset_bounds-keys-lower
offset_bounds-keys-lower c =
    let h : c.write-lower.result < length c.args.keys.now = middle_fits _ _ _ _ _ _ c.rules_of-rules.ensures _ _ c.requires _ c.write-lower.ensures.value in
    omega (arith, h, c.requires.same, c.write-lower.auto.keys, c.write-lower.auto.payloads)

pub bounds-keys-lower : goal.bounds-keys-lower
bounds-keys-lower c =
    let h : c.write-lower.result < length c.args.keys.now = middle_fits _ _ _ _ _ _ c.rules_of-rules.ensures _ _ c.requires _ c.write-lower.ensures.value in
    omega (arith, h, c.requires.same, c.write-lower.auto.keys, c.write-lower.auto.payloads)

pub offset_bounds-payloads-lower : goal.offset_bounds-payloads-lower
offset_bounds-payloads-lower c =
    let h : c.write-lower.result < length c.args.keys.now = middle_fits _ _ _ _ _ _ c.rules_of-rules.ensures _ _ c.requires _ c.write-lower.ensures.value in
    omega (arith, h, c.requires.same, c.write-lower.auto.keys, c.write-lower.auto.payloads)

pub bounds-payloads-lower : goal.bounds-payloads-lower
bounds-payloads-lower c =
    let h : c.write-lower.result < length c.args.keys.now = middle_fits _ _ _ _ _ _ c.rules_of-rules.ensures _ _ c.requires _ c.write-lower.ensures.value in
    omega (arith, h, c.requires.same, c.write-lower.auto.keys, c.write-lower.auto.payloads)

pub overflow_add-lower : goal.overflow_add-lower
overflow_add-lower c =
    let h : c.write-lower.result < length c.args.keys.now = middle_fits _ _ _ _ _ _ c.rules_of-rules.ensures _ _ c.requires _ c.write-lower.ensures.value in
    omega (arith, h)

pub write-requires : goal.write-requires
write-requires c =
    let r = c.rules_of-rules.ensures in
    let h : c.write-lower.result < length c.args.keys.now = middle_fits _ _ _ _ _ _ r _ _ c.requires _ c.write-lower.ensures.value in
    record { span_fits = tt; above_lt_longest_path = c.requires.high; count_bound = omega (arith, h, c.requires.most); r_in_bounds = simp length-set (omega (arith, second_fits _ _ _ _ _ _ r _ _ c.requires _ c.write-lower.ensures.value, c.write-lower.auto.keys)); payloads_len = simp length-set (omega (arith, c.requires.same, c.write-lower.auto.keys, c.write-lower.auto.payloads)) }

pub returns : goal.returns
returns c =
    gathered _ _ _ _ _ _ c.rules_of-rules.ensures _ _ c.requires _ c.write-lower.ensures.value _ c.write.ensures.value _ _ _ _ _ c.write-lower.ensures.keys_after c.write-lower.ensures.payloads_after c.write.ensures.keys_after c.write.ensures.payloads_after
