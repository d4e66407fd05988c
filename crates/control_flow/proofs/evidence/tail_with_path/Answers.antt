use Rattle.std.proofs.Common.{inl, inr, refl, get_or}
use Rattle.flow_graph.proofs.Members.{IsIn-get_or, IsIn-more_cases}
use Rattle.control_flow.proofs.evidence.tail_with_path.Goals as goal

pub has_path-requires : goal.has_path-requires
has_path-requires c = c.requires (get_or c.args.row.now c.loop-tail.tail-index 0) (IsIn-get_or c.args.row.now c.loop-tail.tail-index 0 c.loop-tail-test.true)

pub returns-then-has_path : goal.returns-then-has_path
returns-then-has_path c = (IsIn-get_or c.args.row.now c.loop-tail.tail-index 0 c.loop-tail-test.true, c.if-has_path.ensures.0 refl)

pub loop-tail-preserved : goal.loop-tail-preserved
loop-tail-preserved c = λ u h n. elim (IsIn-more_cases c.args.row.now c.loop-tail.tail-index 0 u c.loop-tail-test.true h) [
  | inl old ↦ c.loop-tail.invariant u old n
  | inr new ↦ let t = c.has_path.ensures.1 (rw (← new) at n) in let f = c.if-has_path.false in absurd (cc)
]
