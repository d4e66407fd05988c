use Rattle.flow_graph.proofs.Members.{IsIn-get_or}
use Rattle.info_flow.proofs.Labelled.{agree_none, agree_more, agree_all}
use Rattle.info_flow.proofs.labels.agree.Goals as goal

pub label_at-requires : goal.label_at-requires
label_at-requires c = c.requires _ (IsIn-get_or c.args.row.now c.loop-line.line-index 0 c.loop-line-test.true)

pub loop-line-init : goal.loop-line-init
loop-line-init c = agree_none c.args.row.now c.args.labels.now c.args.label

pub loop-line-preserved : goal.loop-line-preserved
loop-line-preserved c =
    agree_more c.args.row.now c.loop-line.line-index 0 c.args.labels.now c.args.label _ _ c.loop-line-test.true c.label_at.ensures c.is_other.ensures c.if-is_other.false c.loop-line.invariant

pub returns : goal.returns
returns c = agree_all c.args.row.now c.loop-line.line-index c.args.labels.now c.args.label c.loop-line-test.false c.loop-line.invariant
