use Rattle.std.proofs.Common.{◌≡◌, ◌<◌, ap, ◌∙◌, length, get_or, arith}
use Rattle.std.proofs.lemmas.List.{get_or_read}
use Rattle.info_flow.proofs.Growing.{row_below, writes_low, wanted_of}
use Rattle.info_flow.proofs.sets.Sets.wanted.Goals as goal

pub needed_in-behind-requires : goal.needed_in-behind-requires
needed_in-behind-requires c =
    row_below c.args.graph.now c.args.line (length c.as_slice.result.now) c.args.row.now c.requires.formed c.requires.row (ap length c.as_slice.ensures.value ∙ c.requires.needs_size)

pub is_relevant-relevant-requires-clause-low : goal.is_relevant-relevant-requires-clause-low
is_relevant-relevant-requires-clause-low c = writes_low c.args.graph.now c.args.line c.node_at-node.result c.requires.formed c.node_at-node.ensures

pub unassigned-kept-requires : goal.unassigned-kept-requires
unassigned-kept-requires c = writes_low c.args.graph.now c.args.line c.node_at-node.result c.requires.formed c.node_at-node.ensures

pub returns-clause-wanted : goal.returns-clause-wanted
returns-clause-wanted c =
    let inside : c.args.line < length c.args.self.now.needs.items = omega (arith, c.requires.line, c.requires.needs_size) in
    let mask : c.index.result.now ≡ get_or c.args.self.now.needs.items c.args.line 0 = get_or_read c.args.self.now.needs.items _ _ inside c.index.ensures 0 in
    rw (c.united-places.ensures.places, mask) (wanted_of c.args.graph.now c.args.self.now.lines.items c.args.self.now.needs.items c.args.line c.node_at-node.result c.args.row.now
    c.needed_in-behind.result c.unassigned-kept.result c.read_where-read.result c.is_relevant-relevant.result c.node_at-node.ensures c.requires.row
    (rw c.as_slice.ensures.value at c.needed_in-behind.ensures) c.is_relevant-relevant.ensures c.unassigned-kept.ensures c.read_where-read.ensures)
