use Rattle.std.proofs.Common.{◌∙◌, subst}
use Rattle.std.specs.Prelude.{IfOk}
use Rattle.path_inputs.specs.Bounding.{IsJudged}
use Rattle.path_inputs.proofs.Judged.{known-judged}
use Rattle.path_inputs.proofs.least.judge.Goals as goal

pub returns-then-is_either_met : goal.returns-then-is_either_met
returns-then-is_either_met c =
    known-judged c.args.ranges.now c.args.constraints.now c.args.splits.now c.args.values.now c.args.other c.requires.values (c.is_either_met.ensures.0 c.if-is_either_met.true)

pub returns : goal.returns
returns c =
    subst (λ ss. IfOk c.is_solvable.result (IsJudged c.args.ranges.now c.args.constraints.now ss)) (c.deref.ensures.value ∙ c.in_ok-all.ensures) c.is_solvable.ensures
