use Rattle.std.proofs.Common.{◌/◌, ◌^◌, ◌<◌, arith}
use Rattle.std.proofs.lemmas.Nat.{shr_le}
use Rattle.regular_algebra.proofs.Bits.{none-left, first-left}
use Rattle.regular_algebra.proofs.relation.next_point.Goals as goal

pub returns-then-left-eq0 : goal.returns-then-left-eq0
returns-then-left-eq0 c = λ d low below h. none-left c.args.row c.args.from c.if-left-eq0.true d low h

pub returns-then-point-lt-POINTS : goal.returns-then-point-lt-POINTS
returns-then-point-lt-POINTS c =
    let small : c.args.row / 2 ^ c.args.from < 2 ^ 128 = let l = shr_le c.args.row c.args.from in let f = c.ranges.row.fits in omega (arith, l, f) in
    let first = first-left c.args.row c.args.from small c.if-left-eq0.false in
    (first.0, c.if-point-lt-POINTS.true, first.1, first.2)

pub returns-else-point-lt-POINTS : goal.returns-else-point-lt-POINTS
returns-else-point-lt-POINTS c =
    let small : c.args.row / 2 ^ c.args.from < 2 ^ 128 = let l = shr_le c.args.row c.args.from in let f = c.ranges.row.fits in omega (arith, l, f) in
    let first = first-left c.args.row c.args.from small c.if-left-eq0.false in
    λ d low below h. let far = c.if-point-lt-POINTS.false in first.2 d low (omega (arith, far)) h
