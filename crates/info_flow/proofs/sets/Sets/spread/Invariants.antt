use Rattle.std.proofs.Common.{◌≤◌}
use Rattle.info_flow.specs.Growth.{IsGrown, room_of}
use Rattle.info_flow.proofs.sets.Sets.spread.Given as goal

abbrev pub ghost-pass : goal.ghost-pass
ghost-pass g a = g.place

abbrev pub invariant-loop : goal.invariant-loop
invariant-loop g l = record {
  grown : IsGrown l.graph g.place l.self.lines.items l.self.needs.items;
  no_more : room_of l.self.lines.items l.self.needs.items ≤ room_of l.fn.self.lines.items l.fn.self.needs.items;
}

abbrev pub decreases-loop : goal.decreases-loop
decreases-loop g l = room_of l.self.lines.items l.self.needs.items
