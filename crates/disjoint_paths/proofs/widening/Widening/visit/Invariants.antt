use Rattle.std.proofs.Common.{ℕ, take}
use Rattle.il_core.specs.LineGraph.{IsIn}
use Rattle.disjoint_paths.specs.Widening.{IsKept}
use Rattle.disjoint_paths.specs.Asked.{IsState, IsLater, targets_of}
use Rattle.disjoint_paths.proofs.widening.Widening.visit.Given as goal

abbrev pub invariant-loop-line : goal.invariant-loop-line
invariant-loop-line l = record {
  state : IsState l.asked l.self;
  grown : IsLater l.asked l.initial.self l.self;
  kept : (v : ℕ) → IsIn (take l.line-index l.row) v → IsKept (targets_of l.asked) l.asked.path.now l.self.opened.items l.self.start v;
}
