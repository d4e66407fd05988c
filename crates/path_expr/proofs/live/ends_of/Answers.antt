use Rattle.flow_graph.proofs.Members.{IsIn-get_or}
use Rattle.path_expr.proofs.live.ends_of.Goals as goal

pub end_at-requires : goal.end_at-requires
end_at-requires c = c.requires _ (IsIn-get_or c.args.live.now c.loop-k.k-index 0 c.loop-k-test.true)
