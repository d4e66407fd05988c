use Rattle.std.proofs.Common.{ap, sym, ◌∙◌, length, subst}
use Rattle.il_core.specs.Checked.{procedure_of}
use Rattle.flow_graph.specs.declared.graph.FlowGraph.{FlowGraph}
use Rattle.flow_graph.specs.Graph.{graph_of}
use Rattle.flow_graph.proofs.Formed.{graph_formed}
use Rattle.flow_slice.specs.Slice.{IsOutline}
use Rattle.info_flow.specs.Growth.{is_relevant}
use Rattle.flow_slice.proofs.Slices.{count_told, heads_below, outline_of}
use Rattle.flow_slice.proofs.outlining.outline.Goals as goal

pub distances-requires-clause-formed : goal.distances-requires-clause-formed
distances-requires-clause-formed c = rw c.requires.graph (graph_formed (procedure_of c.args.proc.now) c.lines.ensures.checked)

pub fixed_tests-requires-clause-heads : goal.fixed_tests-requires-clause-heads
fixed_tests-requires-clause-heads c =
    let size = count_told (procedure_of c.args.proc.now) c.args.graph.now _ c.requires.graph (ap length c.as_slice.ensures.value ∙ c.in_ok-distances.ensures.size) in
    rw (c.as_slice-lines.ensures, c.lines.ensures.value) (heads_below (procedure_of c.args.proc.now) _ c.lines.ensures.checked size)

pub returns : goal.returns
returns c =
    rw c.requires.graph
    (outline_of (procedure_of c.args.proc.now) c.args.marks.now c.args.reached.now c.in_ok-distances.distances.items _ c.in_ok-keep.keep c.in_ok-fixed.fixed
    (rw c.requires.graph at c.in_ok-distances.ensures) (rw c.requires.graph at c.requires.reached.exact) c.in_ok-keep.ensures
    (rw (c.as_slice-lines.ensures, c.lines.ensures.value, c.as_slice.ensures.value) at c.in_ok-fixed.ensures))
