use Rattle.regular_algebra.specs.Relation.{Joins}
use Rattle.data_use.proofs.Moves.{moves-more}
use Rattle.data_use.proofs.points.add_moves.Goals as goal

pub loop-step-preserved : goal.loop-step-preserved
loop-step-preserved c =
    record {
      each = moves-more (Joins c.args.relation.now) (Joins c.loop-step.relation) (Joins c.set.new.self) c.args.first c.args.moves.now c.loop-step.step-index _ _ _ c.loop-step-test.true
          c.loop-step.invariant.each c.number.ensures.value c.number-in-loop-step.ensures.value c.set.ensures;
    }
