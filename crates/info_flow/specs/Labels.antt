-- Labels that show that each test is relevant from which two paths to relevant lines share it alone: a relevant line is labelled by itself, and each
-- other line as every line behind it that has a label. So all paths from it come first to one relevant line, that of its label.
use Rattle.std.specs.Prelude.{◌≡◌, ℕ, Bool, true, false, not, nat_eq, Option, Some, None, List, slice_index_or}
use Rattle.il_core.specs.LineGraph.{IsIn}
use Rattle.flow_graph.specs.Search.{IsMarked, IsUnmarked}

-- the label of line k
abbrev pub label_at : List (Option ℕ) → ℕ → Option ℕ
label_at labels k = slice_index_or labels k None

-- the first label is there, and is not the second
abbrev pub is_other : Option ℕ → Option ℕ → Bool
is_other None label = false
is_other (Some x) None = true
is_other (Some x) (Some y) = not (nat_eq x y)

-- no line of the row has another label than this one
abbrev pub Agree : List ℕ → List (Option ℕ) → Option ℕ → Type 0
Agree row labels label = (h : ℕ) → IsIn row h → is_other (label_at labels h) label ≡ false

-- the label of line k, whose row has the lines behind it, is as it should be
pub record IsConsistent (row : List ℕ) (marks : List Bool) (labels : List (Option ℕ)) (k : ℕ) : Type 0 where
  pub own : IsMarked marks k → label_at labels k ≡ Some k
  pub kept : IsUnmarked marks k → Agree row labels (label_at labels k)
