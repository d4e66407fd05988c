use Rattle.std.proofs.Common.{refl}
use Rattle.flow_graph.proofs.Members.{IsIn-get_or}
use Rattle.data_use.proofs.Collected.{ends-more, values-more}
use Rattle.data_use.proofs.lines.entries_of.Goals as goal

pub line_relation-requires-clause-line : goal.line_relation-requires-clause-line
line_relation-requires-clause-line c = c.requires.tails _ (IsIn-get_or c.args.arcs.now c.loop-arc.arc-index _ c.loop-arc-test.true)

pub loop-arc-preserved : goal.loop-arc-preserved
loop-arc-preserved c =
    record {
      ends = ends-more c.loop-arc.entries.items c.push.new.self.items _ c.args.arcs.now c.loop-arc.arc-index _ c.loop-arc-test.true c.loop-arc.invariant.ends refl refl
          c.in_ok-push.ensures.items;
      values = values-more c.args.nodes.now c.args.group.now c.loop-arc.entries.items c.push.new.self.items _ c.loop-arc.invariant.values c.line_relation.ensures
          c.in_ok-push.ensures.items;
    }
