-- `sounding::unpack` meets its contract. A key's count of whole depths is far below 2^63, so it is a signed number as it is,
-- and 20,000 less is one too.
use mathlib.Core.Path.{sym}
use Prim.Native.Nat.{◌<◌, ◌≤◌}
use native.Mathlib.Nat.{lt_of_le_of_lt, div-le_self}
use native.Mathlib.Omega.{arith}
use lib.Dec.{lit<}
use Rattle.laws.specs.Keys.{key_bound}
use Rattle.sounding.specs.Studio.{sounding_of, unpacked}
use Rattle.sounding.proofs.Readings.{sum-reads}
use Rattle.sounding.proofs.Packing.{key-past_the_last, unpack-in_range}
use Rattle.sounding.proofs.unpack.Goals as goal

pub returns-then-key-ge-BOUND : goal.returns-then-key-ge-BOUND
unfolding unpacked
returns-then-key-ge-BOUND c =
    let h : key_bound ≤ c.args.key = omega arith in
    sym (key-past_the_last _ h)

pub returns : goal.returns
unfolding unpacked sounding_of
returns c =
    let h : c.args.key < key_bound = omega arith in
    rw (sum-reads _ _ (lt_of_le_of_lt (div-le_self c.args.key _) (omega arith)) (lit< tt)) (sym (unpack-in_range _ h))
