-- A constraint with no right side is met, or refutes.
use Rattle.std.proofs.Common.{arith, ◌≡◌, ap, None}
use Rattle.std.proofs.lemmas.Int.{ints}
use Rattle.difference.specs.Constraints.{value_at}
use Rattle.difference.proofs.Chained.{chain-at, refuted-zero}
use Rattle.difference.proofs.solving.lift_by.Goals as goal

pub returns-in_ok-evidence-in-None : goal.returns-in_ok-evidence-in-None
returns-in_ok-evidence-in-None c =
    let there = c.constraint_at-constraint.ensures in
    let holds = chain-at c.args.ranges.now c.args.constraints.now c.args.board.now.values.items c.args.board.now.chains.items
    c.constraint_at-constraint.result.left c.chain_at-before.result.now c.requires.kept
    (rw c.deref-in-None.ensures.value at c.chain_at-before.ensures) in
    let reach = rw c.deref.ensures.value at c.reach_of-reach.ensures in
    let right = rw c.deref-2.ensures.value at c.value_of.ensures.value in
    let zero : value_at c.args.board.now.values.items c.constraint_at-constraint.result.right ≡ value_at c.args.board.now.values.items None
    = ap (value_at c.args.board.now.values.items) c.in-None.is in
    rw c.in_ok-evidence-in-None.ensures
    (refuted-zero c.args.ranges.now c.args.constraints.now c.args.board.now.values.items c.chain_at-before.result.now c.args.index
    c.constraint_at-constraint.result (value_at c.args.board.now.values.items c.constraint_at-constraint.result.left) holds.chain holds.proves there c.in-None.is
    (omega (arith, ints, c.if-reach-value_of.false)))
