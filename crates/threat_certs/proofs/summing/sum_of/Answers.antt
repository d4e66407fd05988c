use Rattle.std.proofs.Common.{◌^◌, ◌-◌, subst, arith}
use Rattle.threat_certs.specs.Adding.{total_in}
use Rattle.threat_certs.specs.Measuring.{on_sides, IsMeasured, IsShareOf}
use Rattle.threat_certs.proofs.Numbers.{within_more}
use Rattle.threat_certs.proofs.Summed.{sum_step, sum_small, sum_end, no_sum}
use Rattle.threat_certs.proofs.summing.sum_of.Goals as goal

pub plus-requires-clause-left : goal.plus-requires-clause-left
plus-requires-clause-left c =
    let h = subst (IsMeasured (2 ^ 117) (IsShareOf c.args.subject.now.places.now c.args.subject.now.pc (on_sides c.args.subject.now.literals.now c.args.sides.now) c.share_at-share.result)) c.in-Some.is c.in_ok-more.ensures in
    within_more (2 ^ 117) (2 ^ 125) (total_in c.in-Some.more) (omega arith) h.small

pub plus-requires-clause-right : goal.plus-requires-clause-right
plus-requires-clause-right c =
    sum_small c.args.subject.now.places.now c.args.subject.now.pc (on_sides c.args.subject.now.literals.now c.args.sides.now) c.args.shares.now c.loop-left.left (total_in c.loop-left.sum)
    c.requires.few c.loop-left.invariant

pub loop-left-preserved : goal.loop-left-preserved
loop-left-preserved c =
    let h = subst (IsMeasured (2 ^ 117) (IsShareOf c.args.subject.now.places.now c.args.subject.now.pc (on_sides c.args.subject.now.literals.now c.args.sides.now) c.share_at-share.result)) c.in-Some.is c.in_ok-more.ensures in
    sum_step c.args.subject.now.places.now c.args.subject.now.pc (on_sides c.args.subject.now.literals.now c.args.sides.now) c.args.shares.now c.loop-left.left c.share_at-share.result
    (total_in c.in-Some.more) (total_in c.loop-left.sum) (total_in c.in_ok-sum-in-Some.sum) c.loop-left-test.true c.share_at-share.ensures h c.in_ok-sum-in-Some.ensures c.loop-left.invariant

pub returns-in-None : goal.returns-in-None
returns-in-None c =
    let h = subst (IsMeasured (2 ^ 117) (IsShareOf c.args.subject.now.places.now c.args.subject.now.pc (on_sides c.args.subject.now.literals.now c.args.sides.now) c.share_at-share.result)) c.in-None.is c.in_ok-more.ensures in
    no_sum c.args.subject.now.places.now c.args.subject.now.pc (on_sides c.args.subject.now.literals.now c.args.sides.now) c.args.shares.now (c.loop-left.left - 1) c.share_at-share.result
    c.share_at-share.ensures h

pub returns : goal.returns
returns c =
    sum_end c.args.subject.now.places.now c.args.subject.now.pc (on_sides c.args.subject.now.literals.now c.args.sides.now) c.args.shares.now c.loop-left.left (total_in c.loop-left.sum)
    c.requires.few c.loop-left-test.false c.loop-left.invariant
