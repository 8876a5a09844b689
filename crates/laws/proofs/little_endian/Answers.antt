use Rattle.std.proofs.Common.{replicate, ◌≡◌, ◌∙◌, arith}
use Rattle.laws.proofs.Bytes.{one_put, padded_says}
use Rattle.laws.proofs.little_endian.Goals as goal

pub loop-i-preserved : goal.loop-i-preserved
loop-i-preserved g c =
    one_put c.args.p c.loop-i.i c.args.bytes.now (replicate 8 0) (omega arith) (omega arith) _ c.loop-i.invariant

pub returns : goal.returns
returns g c =
    let e : c.loop-i.i ≡ g.row.N = omega arith in
    c.from_le_bytes.ensures ∙ padded_says g.row.N c.args.p c.args.bytes.now c.requires.size c.requires.in_bounds _ (rw e at c.loop-i.invariant)
