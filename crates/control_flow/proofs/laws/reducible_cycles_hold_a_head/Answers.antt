use Rattle.control_flow.proofs.OneEntry.{head_on_cycle}
use Rattle.control_flow.proofs.laws.reducible_cycles_hold_a_head.Goals as goal

pub returns : goal.returns
returns c = head_on_cycle
