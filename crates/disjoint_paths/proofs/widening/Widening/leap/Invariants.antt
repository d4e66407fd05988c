use Rattle.std.proofs.Common.{length}
use Rattle.disjoint_paths.specs.Widening.{IsWidening, IsGrown}
use Rattle.disjoint_paths.specs.Asked.{arcs_of, targets_of}
use Rattle.disjoint_paths.proofs.widening.Widening.leap.Given as goal

abbrev pub invariant-loop-place : goal.invariant-loop-place
invariant-loop-place l = record {
  state : IsWidening (arcs_of l.asked) (targets_of l.asked) l.asked.tail l.asked.path.now (length l.asked.rows.now) l.self.roles.items l.self.opened.items l.place l.to;
  grown : IsGrown (targets_of l.asked) l.asked.path.now l.initial.self.roles.items l.initial.self.opened.items l.initial.self.start l.self.roles.items l.self.opened.items l.place;
}
