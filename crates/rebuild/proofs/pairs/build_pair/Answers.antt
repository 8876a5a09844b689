-- `pairs::build_pair` meets its contract: no node, or the two keys in their order. Assumes nothing.
use Rattle.std.specs.Prelude.{true}
use mathlib.Core.Path.{refl}
use Rattle.rebuild.proofs.Conflicts.{pair-none, pair-first, pair-second, parted}
use Rattle.rebuild.specs.Pairs.{PairFits}
use Rattle.rebuild.proofs.pairs.build_pair.Goals as goal

pub returns-in_default : goal.returns-in_default
returns-in_default c = rw c.in_default.is (pair-none _ _ _ _ _ _ refl)

pub build_two-requires : goal.build_two-requires
build_two-requires c =
    let f : PairFits true c.args.a c.in-Some.b = rw c.in-Some.is at c.requires.pair_fits in
    record { pooled = c.requires.pooled; a_lt_b = (c.if-a-b.true, f.second refl) }

pub returns-then-a-b : goal.returns-then-a-b
returns-then-a-b c = rw c.in-Some.is (pair-first _ _ _ _ _ _ _ refl c.if-a-b.true c.build_two.ensures)

pub build_two-requires-2 : goal.build_two-requires-2
build_two-requires-2 c =
    let f : PairFits true c.args.a c.in-Some.b = rw c.in-Some.is at c.requires.pair_fits in
    record { pooled = c.requires.pooled; a_lt_b = (parted _ _ c.if-a-b.false (f.apart refl), f.first refl) }

pub returns : goal.returns
returns c = rw c.in-Some.is (pair-second _ _ _ _ _ _ _ refl c.if-a-b.false c.build_two-2.ensures)
