use Rattle.control_flow.specs.Forward.{InRow, IsForward}
use Rattle.control_flow.proofs.Showing.{cycle_along}
use Rattle.control_flow.proofs.evidence.entries_at.Goals as goal

pub entries_of-requires-clause-cycle : goal.entries_of-requires-clause-cycle
entries_of-requires-clause-cycle c =
    cycle_along (InRow c.args.forward.now) (IsForward c.args.graph.now.arcs) (λ a b. (c.requires.forward.exact a b).0) c.in_ok-cycle.cycle c.in_ok-cycle.ensures
