use Rattle.std.proofs.Common.{ap, ◌∙◌, length}
use Rattle.il_core.specs.Checked.{procedure_of}
use Rattle.flow_graph.proofs.Formed.{graph_formed}
use Rattle.info_flow.specs.Growth.{is_relevant, is_needed}
use Rattle.flow_slice.proofs.Slices.{count_told, heads_below, slice_by, sliced_of}
use Rattle.flow_slice.proofs.SliceRuns.{slice_checked, ends_alike}
use Rattle.flow_slice.proofs.slicing.slice.Goals as goal

pub distances-requires-clause-formed : goal.distances-requires-clause-formed
distances-requires-clause-formed c = rw c.requires.graph (graph_formed (procedure_of c.args.proc.now) c.lines.ensures.checked)

pub predecessors-requires : goal.predecessors-requires
predecessors-requires c = rw c.requires.graph (graph_formed (procedure_of c.args.proc.now) c.lines.ensures.checked)

pub distances-requires-clause-before : goal.distances-requires-clause-before
distances-requires-clause-before c = rw c.as_slice-before.ensures (record { size = c.in_ok-rows.ensures.size; each = c.in_ok-rows.ensures.rows })

pub reachable-requires : goal.reachable-requires
reachable-requires c = rw c.requires.graph (graph_formed (procedure_of c.args.proc.now) c.lines.ensures.checked)

pub fixed_tests-requires-clause-heads : goal.fixed_tests-requires-clause-heads
fixed_tests-requires-clause-heads c =
    let size = count_told (procedure_of c.args.proc.now) c.args.graph.now _ c.requires.graph (ap length c.as_slice-3.ensures.value ∙ c.in_ok-distances.ensures.size) in
    rw (c.as_slice-lines.ensures, c.lines.ensures.value) (heads_below (procedure_of c.args.proc.now) _ c.lines.ensures.checked size)

pub sliced_lines-requires-clause-heads : goal.sliced_lines-requires-clause-heads
sliced_lines-requires-clause-heads c =
    let size = count_told (procedure_of c.args.proc.now) c.args.graph.now _ c.requires.graph (ap length c.as_slice-4.ensures.value ∙ c.in_ok-distances.ensures.size) in
    rw (c.as_slice-lines.ensures, c.lines.ensures.value) (heads_below (procedure_of c.args.proc.now) _ c.lines.ensures.checked size)

pub new-requires : goal.new-requires
new-requires c =
    let made = slice_by c.args.proc.now c.args.graph.now c.name.result c.in_ok-places.places c.in_ok-sliced.sliced c.args.relevant.now.lines c.in_ok-distances.distances.items _
    c.requires.graph (c.in_ok-places.ensures ∙ c.as_slice-5.ensures ∙ c.places.ensures.value)
    (rw (c.as_slice-marks.ensures, c.as_slice-4.ensures.value, c.as_slice-lines.ensures, c.lines.ensures.value) at c.in_ok-sliced.ensures)
    (rw c.as_slice-marks.ensures at c.in_ok-distances.ensures) in
    slice_checked (procedure_of c.args.proc.now) _ (is_relevant c.args.relevant.now.lines) c.lines.ensures.checked made

pub returns-clause-slice : goal.returns-clause-slice
returns-clause-slice c =
    let distances = rw c.as_slice-marks.ensures at c.in_ok-distances.ensures in
    let made = slice_by c.args.proc.now c.args.graph.now c.name.result c.in_ok-places.places c.in_ok-sliced.sliced c.args.relevant.now.lines c.in_ok-distances.distances.items _
    c.requires.graph (c.in_ok-places.ensures ∙ c.as_slice-5.ensures ∙ c.places.ensures.value)
    (rw (c.as_slice-marks.ensures, c.as_slice-4.ensures.value, c.as_slice-lines.ensures, c.lines.ensures.value) at c.in_ok-sliced.ensures) distances in
    rw c.new.ensures
    (sliced_of c.args.proc.now _ c.args.relevant.now.lines c.in_ok-reached.reached c.in_ok-distances.distances.items _ c.in_ok-keep.keep c.in_ok-fixed.fixed c.name.ensures.value
    made (rw c.requires.graph at distances) (rw c.requires.graph at c.in_ok-reached.ensures.exact) (rw (c.as_slice.ensures, c.as_slice-marks.ensures) at c.in_ok-keep.ensures)
    (rw (c.as_slice-lines.ensures, c.lines.ensures.value, c.as_slice-2.ensures, c.as_slice-marks.ensures, c.as_slice-3.ensures.value) at c.in_ok-fixed.ensures))

pub returns-clause-ends : goal.returns-clause-ends
returns-clause-ends c = λ v least.
    let made = slice_by c.args.proc.now c.args.graph.now c.name.result c.in_ok-places.places c.in_ok-sliced.sliced c.args.relevant.now.lines c.in_ok-distances.distances.items _
    c.requires.graph (c.in_ok-places.ensures ∙ c.as_slice-5.ensures ∙ c.places.ensures.value)
    (rw (c.as_slice-marks.ensures, c.as_slice-4.ensures.value, c.as_slice-lines.ensures, c.lines.ensures.value) at c.in_ok-sliced.ensures)
    (rw c.as_slice-marks.ensures at c.in_ok-distances.ensures) in
    rw c.new.ensures
    (ends_alike (procedure_of c.args.proc.now) _ c.lines.ensures.checked v (is_relevant c.args.relevant.now.lines) (is_needed c.args.relevant.now.needs)
    (rw c.requires.graph at least.least.closed) made)
