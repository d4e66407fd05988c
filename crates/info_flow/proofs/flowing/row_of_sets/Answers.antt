use Rattle.std.proofs.Common.{◌<◌, length, arith}
use Rattle.info_flow.proofs.Rows.{sources_of}
use Rattle.info_flow.proofs.flowing.row_of_sets.Goals as goal

pub mask_at-requires : goal.mask_at-requires
mask_at-requires c =
    let inside : 0 < length c.args.found.now.sets.needs = omega (arith, c.requires.least.masks_size, c.requires.formed.some_nodes) in
    rw c.as_slice-needs.ensures inside

pub returns-clause-sources : goal.returns-clause-sources
returns-clause-sources c =
    sources_of c.args.graph.now c.args.found.now.place c.args.found.now.sets.lines c.args.reached.now c.args.found.now.sets.needs c.in_ok-sources.sources c.in_ok-tests.tests
    c.mask_at.result c.requires.least (rw c.as_slice-needs.ensures at c.mask_at.ensures) c.in_ok-sources.ensures c.requires.reached
    (rw c.as_slice-lines.ensures at c.in_ok-tests.ensures)
