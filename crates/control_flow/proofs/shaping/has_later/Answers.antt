use Rattle.std.proofs.Common.{inl, inr, get_or, arith}
use Rattle.flow_graph.proofs.Members.{IsIn-get_or, IsIn-more_cases}
use Rattle.control_flow.proofs.shaping.has_later.Goals as goal

pub returns-then-at-line : goal.returns-then-at-line
returns-then-at-line c = (get_or c.args.row.now c.loop-at.at-index 0, IsIn-get_or c.args.row.now c.loop-at.at-index 0 c.loop-at-test.true, c.if-at-line.true)

pub loop-at-preserved : goal.loop-at-preserved
loop-at-preserved c = λ u h. elim (IsIn-more_cases c.args.row.now c.loop-at.at-index 0 u c.loop-at-test.true h) [
  | inl old ↦ c.loop-at.invariant u old
  | inr new ↦ let l = c.if-at-line.false in omega (arith, new, l)
]
