-- `listing::write` meets its contract. The loop's invariant: with what is left written from here the output is whole
-- (proofs/Writes). Assumes nothing.
use mathlib.Core.Path.{◌≡◌}
use Prim.Native.Nat.{◌<◌}
use native.Mathlib.Omega.{arith}
use lib.ListN.{length, length-set}
use Rattle.listing.proofs.Writes.{writing_within, writing_next, writing_broken, writing_end, writing_done, place-within, all_written}
use Rattle.walk.specs.declared.Item.TheVariants.{Broken, End}
use Rattle.listing.proofs.write.Goals as goal

pub bounds-keys-n : goal.bounds-keys-n
bounds-keys-n c =
    let h : c.loop-n.n < length c.args.keys.now =
    place-within _ _ _ _ _ _ _ _ c.first_listed-next.result _ _ c.first_listed-next.ensures _ _ c.requires.r_in_bounds
    (writing_within _ _ _ _ _ _ _ _ _ _ _ c.loop-n.next _ _ _ _ c.loop-n.invariant.0 _ _ c.in-Held.is c.loop-n-test.true)
    in
    omega (arith, h, c.loop-n.invariant.1.1)

pub bounds-payloads-n : goal.bounds-payloads-n
bounds-payloads-n c =
    let h : c.loop-n.n < length c.args.keys.now =
    place-within _ _ _ _ _ _ _ _ c.first_listed-next.result _ _ c.first_listed-next.ensures _ _ c.requires.r_in_bounds
    (writing_within _ _ _ _ _ _ _ _ _ _ _ c.loop-n.next _ _ _ _ c.loop-n.invariant.0 _ _ c.in-Held.is c.loop-n-test.true)
    in
    omega (arith, h, c.loop-n.invariant.1.1, c.requires.payloads_len)

pub loop-n-preserved : goal.loop-n-preserved
loop-n-preserved c = (
  writing_next _ _ _ _ _ _ _ _ _ _ _ c.loop-n.next _ _ _ _ c.loop-n.invariant.0 _ _ c.in-Held.is c.loop-n-test.true _ _ _ c.next_listed-next.ensures,
  ((omega arith, omega arith), (simp length-set c.loop-n.invariant.1.1.0, simp length-set c.loop-n.invariant.1.1.1)),
)

pub returns-in-Broken : goal.returns-in-Broken
returns-in-Broken c =
    let e : c.loop-n.next.item ≡ Broken = cc in
    let w = all_written _ _ _ _ _ _ _ _ c.first_listed-next.result _ _ _ _ _ _ _ c.first_listed-next.ensures (writing_broken _ _ _ _ _ _ _ _ _ _ _ c.loop-n.next _ _ _ _ c.loop-n.invariant.0 e) in
    record { value = w.place; keys_after = w.keys; payloads_after = w.payloads }

pub returns-in-End : goal.returns-in-End
returns-in-End c =
    let e : c.loop-n.next.item ≡ End = cc in
    let w = all_written _ _ _ _ _ _ _ _ c.first_listed-next.result _ _ _ _ _ _ _ c.first_listed-next.ensures (writing_end _ _ _ _ _ _ _ _ _ _ _ c.loop-n.next _ _ _ _ c.loop-n.invariant.0 e) in
    record { value = w.place; keys_after = w.keys; payloads_after = w.payloads }

pub returns : goal.returns
returns c =
    let w = all_written _ _ _ _ _ _ _ _ c.first_listed-next.result _ _ _ _ _ _ _ c.first_listed-next.ensures (writing_done _ _ _ _ _ _ _ _ _ _ _ c.loop-n.next _ _ _ _ c.loop-n.invariant.0 c.loop-n-test.false) in
    record { value = w.place; keys_after = w.keys; payloads_after = w.payloads }
