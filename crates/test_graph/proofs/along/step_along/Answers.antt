use Rattle.std.proofs.Common.{◌≡◌, Some, slice_get}
use Rattle.line_machine.proofs.LineFitting.{there-fits}
use Rattle.test_graph.proofs.StepsAlong.{there_narrow, told_of_line, in_range_of_line}
use Rattle.test_graph.proofs.along.step_along.Goals as goal

pub line_along-requires-clause-fits : goal.line_along-requires-clause-fits
line_along-requires-clause-fits c =
    let there : slice_get c.args.proc.now.lines c.args.pc ≡ Some c.line_at-line.result.now = cc in
    there-fits c.args.proc.now c.args.pc c.args.vals.now c.line_at-line.result.now c.lines-lines.ensures.checked c.requires.range there

pub line_along-requires-clause-narrow : goal.line_along-requires-clause-narrow
line_along-requires-clause-narrow c =
    let there : slice_get c.args.proc.now.lines c.args.pc ≡ Some c.line_at-line.result.now = cc in
    let places : c.as_slice-2.result.now ≡ c.args.proc.now.places = cc in
    there_narrow c.args.proc.now c.as_slice-2.result.now c.args.pc c.line_at-line.result.now c.lines-lines.ensures.checked places there

pub returns-clause-taken : goal.returns-clause-taken
returns-clause-taken c =
    let there : slice_get c.args.proc.now.lines c.args.pc ≡ Some c.line_at-line.result.now = cc in
    let places : c.as_slice-2.result.now ≡ c.args.proc.now.places = cc in
    told_of_line c.args.proc.now c.as_slice-2.result.now c.args.pc c.line_at-line.result.now c.args.vals.now c.args.path.now c.line_along.result
    c.line_along.new.vals c.lines-lines.ensures.checked c.requires.range places there c.line_along.ensures

pub returns-clause-range : goal.returns-clause-range
returns-clause-range c =
    let there : slice_get c.args.proc.now.lines c.args.pc ≡ Some c.line_at-line.result.now = cc in
    let places : c.as_slice-2.result.now ≡ c.args.proc.now.places = cc in
    in_range_of_line c.args.proc.now c.args.pc c.args.vals.now c.args.path.now c.line_along.result c.line_along.new.vals c.lines-lines.ensures.checked
    c.requires.range
    (told_of_line c.args.proc.now c.as_slice-2.result.now c.args.pc c.line_at-line.result.now c.args.vals.now c.args.path.now c.line_along.result
    c.line_along.new.vals c.lines-lines.ensures.checked c.requires.range places there c.line_along.ensures)
