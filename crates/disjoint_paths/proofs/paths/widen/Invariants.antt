use Rattle.std.proofs.Common.{ℕ, ◌+◌, ◌-◌, ◌<◌, ◌≤◌, length}
use Rattle.std.specs.List.{count_by}
use Rattle.disjoint_paths.specs.Widening.{IsKept, opened_at, is_far}
use Rattle.disjoint_paths.specs.Asked.{IsState, arcs_of, targets_of}
use Rattle.disjoint_paths.proofs.paths.widen.Given as goal

abbrev pub invariant-loop-next : goal.invariant-loop-next
invariant-loop-next l = record {
  state : IsState l.asked l.state;
  within : l.next ≤ length l.state.opened.items;
  closed : (k : ℕ) → k < l.next → (v : ℕ) → arcs_of l.asked (opened_at l.state.opened.items k).line v → IsKept (targets_of l.asked) l.asked.path.now l.state.opened.items l.state.start v;
}

abbrev pub decreases-loop-next : goal.decreases-loop-next
decreases-loop-next l = (count_by is_far l.state.roles.items + length l.state.opened.items + length l.asked.path.now) - (l.state.start + l.next)
