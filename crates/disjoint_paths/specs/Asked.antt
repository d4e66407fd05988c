-- What is asked of a search, its states, and when one state comes later than another.
use Rattle.std.specs.Prelude.{◌≡◌, ℕ, ◌<◌, length}
use Rattle.flow_graph.specs.Search.{IsMarked, StayBelow, AreBelow}
use Rattle.disjoint_paths.specs.FirstPath.{IsNext, IsFirstPath}
use Rattle.disjoint_paths.specs.Widening.{IsWidening, IsGrown}
use Rattle.disjoint_paths.specs.declared.widening.Question.{Question}
use Rattle.disjoint_paths.specs.declared.widening.Widening.{Widening}

-- the arcs and the targets that a question speaks of
abbrev pub arcs_of : Question → ℕ → ℕ → Type 0
arcs_of q = IsNext q.rows.now

abbrev pub targets_of : Question → ℕ → Type 0
targets_of q = IsMarked q.targets.now

-- rows, targets and path speak of as many lines as there are rows, and the path is a first path
pub record IsAsked (q : Question) : Type 0 where
  pub targets : length q.targets.now ≡ length q.rows.now
  pub rows : StayBelow (length q.rows.now) q.rows.now
  pub tail : q.tail < length q.rows.now
  pub path : AreBelow (length q.rows.now) q.path.now
  pub simple : arcs_of q q.tail q.tail → ⊥
  pub first : IsFirstPath (arcs_of q) (targets_of q) q.tail q.path.now

abbrev pub IsState : Question → Widening → Type 0
IsState q w = IsWidening (arcs_of q) (targets_of q) q.tail q.path.now (length q.rows.now) w.roles.items w.opened.items w.start w.start

abbrev pub IsLater : Question → Widening → Widening → Type 0
IsLater q was now = IsGrown (targets_of q) q.path.now was.roles.items was.opened.items was.start now.roles.items now.opened.items now.start
