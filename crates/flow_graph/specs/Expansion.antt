-- What the lines of one row do to the marks and the work of a search: those that are neither blocked nor marked are marked and become work.
use Rattle.std.specs.Prelude.{◌≡◌, ◌⊎◌, ℕ, ◌+◌, Bool, not, List, length}
use Rattle.std.specs.List.{count_by}
use Rattle.il_core.specs.LineGraph.{IsIn}
use Rattle.flow_graph.specs.Search.{IsMarked, IsUnmarked}

pub record Expansion (row : List ℕ) (blocked was : List Bool) (before : List ℕ) (now : List Bool) (work : List ℕ) : Type 0 where
  pub size : length now ≡ length was
  pub grown : (k : ℕ) → IsMarked was k → IsMarked now k
  pub every : (k : ℕ) → IsIn row k → IsUnmarked blocked k → IsMarked now k
  pub from : (k : ℕ) → IsMarked now k → IsMarked was k ⊎ (IsIn row k × IsUnmarked blocked k)
  pub queued : (k : ℕ) → IsMarked now k → IsMarked was k ⊎ IsIn work k
  pub kept : (k : ℕ) → IsIn before k → IsIn work k
  pub added : (k : ℕ) → IsIn work k → IsIn before k ⊎ IsMarked now k
  pub left : count_by not now + length work ≡ count_by not was + length before
