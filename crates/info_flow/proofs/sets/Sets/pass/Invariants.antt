use Rattle.info_flow.specs.Growth.{room_of}
use Rattle.info_flow.proofs.Passing.{Passing}
use Rattle.info_flow.proofs.sets.Sets.pass.Given as goal

abbrev pub ghost-settle : goal.ghost-settle
ghost-settle g a = g.place

abbrev pub invariant-loop-line : goal.invariant-loop-line
invariant-loop-line g l = Passing l.graph g.place (room_of l.fn.self.lines.items l.fn.self.needs.items) l.changed l.self.lines.items l.self.needs.items l.line
