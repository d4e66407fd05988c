-- The system is one that the solver takes, and its answer decides.
use Rattle.std.proofs.Common.{◌∙◌}
use Rattle.path_inputs.proofs.Asked.{asked-ranges, asked-given, asked-splits, least-answered}
use Rattle.path_inputs.proofs.least.least_input.Goals as goal

pub solve_all-requires-clause-ranges : goal.solve_all-requires-clause-ranges
solve_all-requires-clause-ranges c =
    asked-ranges c.args.places.now c.requires.places c.deref.result.now (c.deref.ensures.value ∙ c.in_ok-system.ensures.ranges)

pub solve_all-requires-clause-given : goal.solve_all-requires-clause-given
solve_all-requires-clause-given c =
    asked-given c.args.places.now c.requires.places c.deref.result.now (c.deref.ensures.value ∙ c.in_ok-system.ensures.ranges) c.args.literals.now c.requires.below c.requires.kept
    c.args.pc c.deref-2.result.now (c.deref-2.ensures.value ∙ c.in_ok-system.ensures.constraints)

pub solve_all-requires-clause-splits : goal.solve_all-requires-clause-splits
solve_all-requires-clause-splits c =
    asked-splits c.args.places.now c.requires.places c.deref.result.now (c.deref.ensures.value ∙ c.in_ok-system.ensures.ranges) c.args.literals.now c.requires.below c.requires.kept
    c.deref-3.result.now (c.deref-3.ensures.value ∙ c.in_ok-system.ensures.splits)

pub returns : goal.returns
returns c =
    least-answered c.args.places.now c.args.pc c.args.literals.now c.deref.result.now c.deref-2.result.now c.deref-3.result.now c.solve_all.result c.requires.kept
    (c.deref.ensures.value ∙ c.in_ok-system.ensures.ranges) (c.deref-2.ensures.value ∙ c.in_ok-system.ensures.constraints) (c.deref-3.ensures.value ∙ c.in_ok-system.ensures.splits) c.solve_all.ensures
