use Rattle.std.proofs.Common.{◌≡◌, sym, subst, length, List}
use Rattle.il_core.specs.Checked.{procedure_of}
use Rattle.test_graph.specs.Standing.{AreLowered}
use Rattle.test_graph.specs.declared.graph.TestNode.{TestNode}
use Rattle.test_graph.proofs.StandingProcedure.{none_lowered, fits_there, line_more, graph_lowered}
use Rattle.test_graph.proofs.lines.lower.Goals as goal

pub loop-pc-init : goal.loop-pc-init
loop-pc-init c =
    subst (λ (ns : List TestNode). AreLowered (procedure_of c.args.proc.now) (length c.as_slice-lines.result.now) 0 ns) (sym c.in_ok-nodes.ensures)
    (none_lowered (procedure_of c.args.proc.now) (length c.as_slice-lines.result.now))

pub lower_line-requires-clause-fits : goal.lower_line-requires-clause-fits
lower_line-requires-clause-fits c =
    let places : c.as_slice-places.result.now ≡ c.args.proc.now.places = cc in
    let lines : c.as_slice-lines.result.now ≡ c.args.proc.now.lines = cc in
    fits_there c.args.proc.now c.as_slice-places.result.now c.as_slice-lines.result.now c.loop-pc.pc c.line_at-line.result.now c.lines.ensures.checked places lines
    c.line_at-line.ensures

pub loop-pc-preserved : goal.loop-pc-preserved
loop-pc-preserved c =
    let places : c.as_slice-places.result.now ≡ c.args.proc.now.places = cc in
    let lines : c.as_slice-lines.result.now ≡ c.args.proc.now.lines = cc in
    line_more c.args.proc.now c.as_slice-places.result.now c.as_slice-lines.result.now c.line_at-line.result.now c.loop-pc.pc c.in_ok-first.first
    c.loop-pc.nodes.items c.lower_line.new.nodes.items c.set_first.new.nodes.items places lines c.line_at-line.ensures c.loop-pc-test.true c.loop-pc.invariant
    c.in_ok-first.ensures.grows c.in_ok-first.ensures.falls c.in_ok-first.ensures.stands c.set_first.ensures

pub returns : goal.returns
returns c =
    let lines : c.as_slice-lines.result.now ≡ c.args.proc.now.lines = cc in
    graph_lowered c.args.proc.now c.as_slice-lines.result.now c.loop-pc.pc c.loop-pc.nodes.items c.from_vec.result c.in_ok-entries.entries.items
    c.from_vec-2.result lines c.loop-pc-test.false c.loop-pc.auto.pc-end c.loop-pc.invariant c.from_vec.ensures c.from_vec-2.ensures c.in_ok-entries.ensures
