use Rattle.info_flow.proofs.Deciding.{Choosing}
use Rattle.info_flow.proofs.sets.Sets.ask.Given as goal

abbrev pub invariant-loop-line : goal.invariant-loop-line
invariant-loop-line g l = Choosing l.graph g.place l.asked l.fn.self l.changed l.self l.line
