use Rattle.malpas_suite.proofs.SliceRows.{row_of}
use Rattle.malpas_suite.proofs.slices.slice_row.Goals as goal

pub outline-requires-clause-size : goal.outline-requires-clause-size
outline-requires-clause-size c = rw c.as_slice-marks.ensures c.requires.least.lines_size

pub returns-clause-row : goal.returns-clause-row
returns-clause-row c =
    row_of c.args.graph.now c.args.found.now.place c.args.found.now.sets.lines c.args.found.now.sets.needs c.in_ok-outline.outline c.requires.least
    (rw c.as_slice-marks.ensures at c.in_ok-outline.ensures)
