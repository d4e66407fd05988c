use Rattle.std.proofs.Common.{◌∙◌, arith}
use Rattle.std.proofs.lemmas.List.{length-map}
use Rattle.il_core.specs.Procedure.{instruction_of}
use Rattle.il_core.specs.Checked.{procedure_of}
use Rattle.test_graph.specs.Decision.{decision_at}
use Rattle.region_paths.proofs.Sized.{begins, first_inside}
use Rattle.region_paths.proofs.Counts.{there, node_inside}
use Rattle.region_paths.proofs.counting.path_count.Goals as goal

pub first_node-requires-clause-line : goal.first_node-requires-clause-line
first_node-requires-clause-line c =
    let b = begins (procedure_of c.args.proc.now) c.args.control.now c.args.pc c.requires.checked c.requires.control c.requires.shape c.requires.first in
    omega (arith, first_inside (procedure_of c.args.proc.now) c.args.control.now.loops c.args.pc b, length-map c.args.proc.now.lines instruction_of)

pub returns : goal.returns
returns c =
    let u = c.first_node.ensures.unfolds in
    let inside = node_inside (procedure_of c.args.proc.now) c.args.graph.now c.first_node.result (decision_at (procedure_of c.args.proc.now) c.args.pc) c.requires.lowered u in
    let a = there c.args.counts.now c.first_node.result (omega (arith, inside, c.requires.counts.nodes)) in
    c.count_of.ensures.exact a.0 a.1 ∙ c.requires.counts.each c.args.pc c.first_node.result a.0 c.requires.first u a.1
