use Rattle.std.proofs.Common.{inl, inr}
use Rattle.flow_graph.proofs.Members.{IsIn-more_cases}
use Rattle.control_flow.proofs.ascending.all_low.Goals as goal

pub loop-at-preserved : goal.loop-at-preserved
loop-at-preserved c = λ u h. elim (IsIn-more_cases c.args.row.now c.loop-at.at-index 0 u c.loop-at-test.true h) [
  | inl old ↦ c.loop-at.invariant u old
  | inr new ↦ rw new at (c.is_low.ensures.0 c.if-not-is_low.false)
]
