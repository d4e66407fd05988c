use Rattle.il_core.specs.Checked.{procedure_of}
use Rattle.region_paths.proofs.Rounds.{raised_self, raised_on}
use Rattle.region_paths.proofs.counting.raise_nodes.Goals as goal

pub loop-id-init : goal.loop-id-init
loop-id-init c = record { few = c.requires.few; raised = raised_self (procedure_of c.args.proc.now) c.args.graph.now c.args.heads.now c.args.counts.now }

pub loop-id-preserved : goal.loop-id-preserved
loop-id-preserved c = record {
  few = c.raise_node.ensures.few;
  raised = raised_on (procedure_of c.args.proc.now) c.args.graph.now c.args.heads.now c.args.counts.now c.loop-id.counts c.raise_node.new.counts c.loop-id.invariant.raised c.raise_node.ensures.raised;
}
