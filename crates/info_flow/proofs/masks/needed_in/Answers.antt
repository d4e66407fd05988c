use Rattle.flow_graph.proofs.Members.{IsIn-get_or}
use Rattle.info_flow.proofs.PlaceMasks.{needed_more}
use Rattle.info_flow.proofs.masks.needed_in.Goals as goal

pub mask_at-places-requires : goal.mask_at-places-requires
mask_at-places-requires c = c.requires _ (IsIn-get_or c.args.row.now c.loop-line.line-index 0 c.loop-line-test.true)

pub loop-line-preserved : goal.loop-line-preserved
loop-line-preserved c = rw c.mask_at-places.ensures (needed_more c.args.row.now c.args.masks.now c.loop-line.line-index 0 c.loop-line.places c.loop-line-test.true c.loop-line.invariant)
