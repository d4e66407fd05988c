use Rattle.il_core.specs.Checked.{procedure_of}
use Rattle.region_paths.proofs.Rounds.{raised_self, raised_on}
use Rattle.region_paths.proofs.counting.raise_lines.Goals as goal

pub loop-line-init : goal.loop-line-init
loop-line-init c = record { few = c.requires.few; raised = raised_self (procedure_of c.args.proc.now) c.args.graph.now c.args.heads.now c.args.counts.now }

pub loop-line-preserved : goal.loop-line-preserved
loop-line-preserved c =
    let once = raised_on (procedure_of c.args.proc.now) c.args.graph.now c.args.heads.now c.args.counts.now c.loop-line.counts c.raise_nodes.new.counts c.loop-line.invariant.raised c.raise_nodes.ensures.raised in
    record {
      few = c.raise_nodes-in-loop-line.ensures.few;
      raised = raised_on (procedure_of c.args.proc.now) c.args.graph.now c.args.heads.now c.args.counts.now c.raise_nodes.new.counts c.raise_nodes-in-loop-line.new.counts once c.raise_nodes-in-loop-line.ensures.raised;
    }
