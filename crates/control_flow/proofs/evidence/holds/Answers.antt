use Rattle.std.proofs.Common.{refl}
use Rattle.flow_graph.proofs.Members.{IsIn-get_or, IsIn-more_cases}
use Rattle.std.proofs.Common.{inl, inr}
use Rattle.control_flow.proofs.evidence.holds.Goals as goal

pub returns-then-at-line : goal.returns-then-at-line
returns-then-at-line c = (λ t. rw c.if-at-line.true at (IsIn-get_or c.args.row.now c.loop-at.at-index 0 c.loop-at-test.true), λ i. refl)

pub loop-at-preserved : goal.loop-at-preserved
loop-at-preserved c = λ h. elim (IsIn-more_cases c.args.row.now c.loop-at.at-index 0 c.args.line c.loop-at-test.true h) [
  | inl old ↦ c.loop-at.invariant old
  | inr new ↦ c.if-at-line.false new
]
