use Rattle.flow_graph.proofs.Members.{IsIn-get_or}
use Rattle.info_flow.proofs.labels.label_by.Goals as goal

pub label_at-other-requires : goal.label_at-other-requires
label_at-other-requires c = c.requires _ (IsIn-get_or c.args.row.now c.loop-next.next-index 0 c.loop-next-test.true)
