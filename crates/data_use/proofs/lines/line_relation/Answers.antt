use Rattle.std.proofs.lemmas.Option.{slice_get-get_or}
use Rattle.regular_algebra.specs.Relation.{Joins}
use Rattle.flow_graph.proofs.Members.{IsIn-get_or}
use Rattle.data_use.proofs.Moves.{carries-more}
use Rattle.data_use.proofs.lines.line_relation.Goals as goal

pub effect_of-requires : goal.effect_of-requires
effect_of-requires c = c.requires.low _ (IsIn-get_or c.args.group.now c.loop-slot.slot 0 c.loop-slot-test.true)

pub loop-slot-preserved : goal.loop-slot-preserved
loop-slot-preserved c =
    record {
      each = carries-more (Joins c.loop-slot.relation) (Joins c.add_effect.new.relation) c.args.nodes.now c.args.group.now c.args.at c.loop-slot.slot 0 _ _ c.loop-slot-test.true
          (slice_get-get_or c.args.nodes.now c.args.at _ c.requires.line) c.effect_of.ensures c.loop-slot.invariant.each c.add_effect.ensures;
    }
