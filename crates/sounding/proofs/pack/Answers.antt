-- `sounding::pack` meets its contract. The three tests are document 01's ranges, and past them the depth plus 20,000 is a count
-- below 2^20, so that nothing wraps and no cast loses anything.
use mathlib.Core.Bool.{true, false}
use mathlib.Core.Path.{◌≡◌, sym}
use Rattle.std.specs.Range.{range_inclusive_start, range_inclusive_end}
use Prim.Native.Nat.{◌<◌, ◌≤◌}
use native.Mathlib.Omega.{arith}
use mir.Syntax.{w64}
use mir.ValLaws.{to_z-of_z}
use Rattle.sounding.specs.Studio.{least_depth, most_depth, most_number, key_of, depth_in_range, pack_of, packed}
use Rattle.sounding.proofs.Tests.{depths_contain, depth_between}
use Rattle.sounding.proofs.Readings.{difference_reads}
use Rattle.sounding.proofs.Packing.{number-above_the_most, pack-in_range}
use Rattle.sounding.proofs.pack.Goals as goal

-- The range's ends are document 01's: a wrong one fails at the fact that it breaks, and at no other.
pub returns-then-not-contains : goal.returns-then-not-contains
unfolding packed pack_of
returns-then-not-contains c =
    let s : range_inclusive_start c.new.result ≡ least_depth = c.new.ensures.start in
    let e : range_inclusive_end c.new.result ≡ most_depth = c.new.ensures.end in
    let d = depths_contain c.new.result c.args.depth s e c.new.ensures.exhausted in
    let h = rw (to_z-of_z w64 c.args.depth c.ranges.depth) at c.contains.ensures.value in
    let k : depth_in_range c.args.depth ≡ false = cc in
    rw k

pub returns-then-number-gt-MOST_NUMBER : goal.returns-then-number-gt-MOST_NUMBER
unfolding packed
returns-then-number-gt-MOST_NUMBER c =
    let h : most_number < c.args.number = omega arith in
    sym (number-above_the_most _ _ h)

pub returns : goal.returns
unfolding packed key_of
returns c =
    let h : c.args.number ≤ most_number = omega arith in
    let s : range_inclusive_start c.new.result ≡ least_depth = c.new.ensures.start in
    let e : range_inclusive_end c.new.result ≡ most_depth = c.new.ensures.end in
    let d = depths_contain c.new.result c.args.depth s e c.new.ensures.exhausted in
    let v = rw (to_z-of_z w64 c.args.depth c.ranges.depth) at c.contains.ensures.value in
    let k : depth_in_range c.args.depth ≡ true = cc in
    let b = (depth_between c.args.depth).0 k in
    rw (difference_reads c.args.depth c.ranges.depth b.0 b.1 20000 (omega arith) (omega arith)) (sym (pack-in_range _ _ b.0 b.1 h))
