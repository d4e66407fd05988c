use Rattle.std.proofs.Common.{arith}
use Rattle.regular_algebra.proofs.Bits.{through-first, through-passed}
use Rattle.regular_algebra.proofs.relation.BitRelation.row_through.Goals as goal

pub loop-point-preserved : goal.loop-point-preserved
loop-point-preserved c =
    let first = c.in-Some.ensures in
    let below = first.1 in
    record {
      low = omega (arith, below);
      each = through-first c.args.row c.args.self.now.rows c.loop-point.joined c.loop-point.from c.in-Some.point c.loop-point.invariant.each (first.0, first.2, first.3);
    }

pub returns : goal.returns
returns c =
    through-passed c.args.row c.args.self.now.rows c.loop-point.joined c.loop-point.from 66 c.loop-point.invariant.each c.in_default.ensures c.loop-point.invariant.low
