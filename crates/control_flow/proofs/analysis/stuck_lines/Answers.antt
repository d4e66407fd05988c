use Rattle.control_flow.specs.Control.{IsStuck}
use Rattle.control_flow.proofs.Listing.{lists_same}
use Rattle.control_flow.proofs.Stuck.{stuck_marks}
use Rattle.control_flow.proofs.analysis.stuck_lines.Goals as goal

pub returns : goal.returns
returns c =
    lists_same _ (IsStuck c.args.graph.now) c.in_ok-lines.lines c.in_ok-lines.ensures
    (stuck_marks c.args.graph.now c.args.reached.now c.in_ok-ends.ends c.as_slice.result.now c.in_ok-marks.marks.items c.as_slice-2.result.now
    c.requires.formed.some_nodes c.requires.reached c.in_ok-ends.ensures.exact c.as_slice.ensures c.in_ok-marks.ensures.exact c.as_slice-2.ensures.value)
