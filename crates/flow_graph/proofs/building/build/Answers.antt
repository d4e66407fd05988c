use Rattle.std.proofs.Common.{◌≡◌, sym, subst, ◌∙◌, refl, List, map, ap}
use Rattle.il_core.specs.Procedure.{instruction_of}
use Rattle.il_core.specs.Checked.{procedure_of}
use Rattle.il_core.specs.declared.line.Line.{Line}
use Rattle.flow_graph.specs.declared.graph.FlowGraph.{FlowGraph}
use Rattle.flow_graph.specs.Graph.{arcs_from, graph_of, returned_from, IsWellFormed, HasPlaces, ReadsExactly}
use Rattle.flow_graph.proofs.Formed.{graph_formed, graph_placed, graph_reads, node_lists}
use Rattle.flow_graph.proofs.building.build.Goals as goal

pub returns-clause-graph : goal.returns-clause-graph
returns-clause-graph c =
    let lines : c.as_slice-lines.result.now ≡ c.args.proc.now.lines = c.as_slice-lines.ensures ∙ c.lines.ensures.value in
    let places : c.as_slice.result.now ≡ c.args.proc.now.places = c.as_slice.ensures ∙ c.places.ensures.value in
    let returned : c.returned_mask-returned.result ≡ returned_from 0 c.args.proc.now.places = c.returned_mask-returned.ensures ∙ ap (returned_from 0) places in
    let nodes : c.from_vec.result ≡ (graph_of (procedure_of c.args.proc.now)).nodes =
    c.from_vec.ensures ∙ c.in_ok-nodes.ensures ∙ node_lists c.returned_mask-returned.result (returned_from 0 c.args.proc.now.places) _ _ returned lines in
    let arcs : c.in_ok-arcs.arcs ≡ (graph_of (procedure_of c.args.proc.now)).arcs =
    c.in_ok-arcs.ensures ∙ ap (λ (xs : List Line). arcs_from 0 (map instruction_of xs)) lines in
    rw (nodes, arcs) refl

pub returns-clause-formed : goal.returns-clause-formed
returns-clause-formed c = subst IsWellFormed (sym (returns-clause-graph c)) (graph_formed (procedure_of c.args.proc.now) c.lines.ensures.checked)

pub returns-clause-placed : goal.returns-clause-placed
returns-clause-placed c =
    subst (λ (g : FlowGraph). HasPlaces g c.args.proc.now.places) (sym (returns-clause-graph c)) (graph_placed (procedure_of c.args.proc.now) c.lines.ensures.checked)

pub returns-clause-reads : goal.returns-clause-reads
returns-clause-reads c =
    subst (λ (g : FlowGraph). ReadsExactly (map instruction_of c.args.proc.now.lines) g.nodes) (sym (returns-clause-graph c)) (graph_reads (procedure_of c.args.proc.now) c.lines.ensures.checked)
