-- The first eight splits have the least solution, and the others are judged.
use Rattle.std.proofs.Common.{true, false, drop, inr, subst}
use Rattle.difference.specs.Answers.{IsFirst}
use Rattle.path_inputs.specs.Bounding.{AreJudged}
use Rattle.path_inputs.proofs.least.solve_all.Goals as goal

pub returns-then-branch : goal.returns-then-branch
returns-then-branch c =
    let solved : IsFirst c.args.ranges.now c.args.constraints.now c.first_and_others.result.0.now c.in-Least.values = rw c.in-Least.is at c.in_ok-values.ensures in
    let judged : AreJudged c.args.ranges.now c.args.constraints.now c.first_and_others.result.0.now c.first_and_others.result.1.now true = rw c.if-branch.true at c.in_ok-judge_all.ensures in (
      subst (λ ss. IsFirst c.args.ranges.now c.args.constraints.now ss c.in-Least.values) c.first_and_others.ensures.first solved,
      subst (λ ss. AreJudged c.args.ranges.now c.args.constraints.now ss (drop 8 c.args.splits.now) true) c.first_and_others.ensures.first
          (subst (λ ss. AreJudged c.args.ranges.now c.args.constraints.now c.first_and_others.result.0.now ss true) c.first_and_others.ensures.others judged),
    )

pub returns-else-branch : goal.returns-else-branch
returns-else-branch c =
    let judged : AreJudged c.args.ranges.now c.args.constraints.now c.first_and_others.result.0.now c.first_and_others.result.1.now false = rw c.if-branch.false at c.in_ok-judge_all.ensures in
    inr (subst (λ ss. AreJudged c.args.ranges.now c.args.constraints.now ss (drop 8 c.args.splits.now) false) c.first_and_others.ensures.first
    (subst (λ ss. AreJudged c.args.ranges.now c.args.constraints.now c.first_and_others.result.0.now ss false) c.first_and_others.ensures.others judged))
