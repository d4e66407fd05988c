use Rattle.std.proofs.Common.{ℕ, ◌<◌, ◌≤◌}
use Rattle.flow_graph.specs.Reached.{Lists}
use Rattle.control_flow.specs.Loop.{IsAssertion}
use Rattle.control_flow.proofs.loops.assertions_from.Given as goal

abbrev pub invariant-loop-at : goal.invariant-loop-at
invariant-loop-at l = record {
  listed : Lists (λ k. (l.start ≤ k) × (k < l.at)) l.lines;
  all : (j : ℕ) → l.start ≤ j → j < l.at → IsAssertion l.nodes j;
}
