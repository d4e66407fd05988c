use Rattle.info_flow.specs.Growth.{IsGrown, AreSettled, room_of}
use Rattle.info_flow.proofs.sets.Sets.least.Given as goal

abbrev pub ghost-spread : goal.ghost-spread
ghost-spread g a = g.variable

abbrev pub ghost-decide : goal.ghost-decide
ghost-decide g a = g.variable

abbrev pub invariant-loop-sets : goal.invariant-loop-sets
invariant-loop-sets g l = record {
  grown : IsGrown l.graph g.variable l.sets.lines.items l.sets.needs.items;
  settled : AreSettled l.graph l.sets.lines.items l.sets.needs.items;
}

abbrev pub decreases-loop-sets : goal.decreases-loop-sets
decreases-loop-sets g l = room_of l.sets.lines.items l.sets.needs.items
