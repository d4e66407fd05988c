use Rattle.std.proofs.Common.{◌∙◌, ap, map}
use Rattle.regular_algebra.specs.Rule.{Table}
use Rattle.regular_algebra.proofs.Planned.{planned-lower, planned-below, planned-answers, planned-starless}
use Rattle.regular_algebra.proofs.planning.plan.Goals as goal

pub returns-clause-steps : goal.returns-clause-steps
returns-clause-steps c = c.from_vec.ensures ∙ c.into_steps.ensures ∙ ap (λ (t : Table). t.steps) c.in_ok-board.ensures.table

pub returns-clause-numbers : goal.returns-clause-numbers
returns-clause-numbers c =
    c.from_vec-2.ensures ∙ c.in_ok-answers.ensures ∙ ap (λ (t : Table). map (λ x. t.entry c.args.start x) c.args.targets.now) c.in_ok-board.ensures.table

pub returns-clause-lower : goal.returns-clause-lower
returns-clause-lower c =
    planned-lower _ _ _ _ _ c.requires _ (c.from_vec.ensures ∙ c.into_steps.ensures ∙ ap (λ (t : Table). t.steps) c.in_ok-board.ensures.table)

pub returns-clause-below : goal.returns-clause-below
returns-clause-below c =
    planned-below _ _ _ _ _ c.requires _ (c.from_vec.ensures ∙ c.into_steps.ensures ∙ ap (λ (t : Table). t.steps) c.in_ok-board.ensures.table) _
    (c.from_vec-2.ensures ∙ c.in_ok-answers.ensures ∙ ap (λ (t : Table). map (λ x. t.entry c.args.start x) c.args.targets.now) c.in_ok-board.ensures.table)

pub returns-clause-answers : goal.returns-clause-answers
returns-clause-answers c =
    planned-answers _ _ _ _ _ c.requires _ (c.from_vec.ensures ∙ c.into_steps.ensures ∙ ap (λ (t : Table). t.steps) c.in_ok-board.ensures.table) _
    (c.from_vec-2.ensures ∙ c.in_ok-answers.ensures ∙ ap (λ (t : Table). map (λ x. t.entry c.args.start x) c.args.targets.now) c.in_ok-board.ensures.table)

pub returns-clause-starless : goal.returns-clause-starless
returns-clause-starless c =
    planned-starless _ _ _ _ _ c.requires _ (c.from_vec.ensures ∙ c.into_steps.ensures ∙ ap (λ (t : Table). t.steps) c.in_ok-board.ensures.table)
