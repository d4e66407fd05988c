-- What a search finds: a first path where there was none yet, and else two paths that share line t at most.
use Rattle.std.specs.Prelude.{◌≡◌, ℕ, ◌<◌, List, ◌∷◌, length}
use Rattle.disjoint_paths.specs.declared.pair.Pair.{Pair}
use Rattle.disjoint_paths.specs.Pair.{ArePaths}
use Rattle.disjoint_paths.specs.FirstPath.{IsFirstPath}

pub record IsWidened (E : ℕ → ℕ → Type 0) (P : ℕ → Type 0) (t : ℕ) (path left right : List ℕ) : Type 0 where
  pub some : 0 < length left
  pub first : IsFirstPath E P t left
  pub pair : 0 < length path → ArePaths E P t left right

-- the same as the lists of all lines, line t among them
abbrev pub HasWidened : (ℕ → ℕ → Type 0) → (ℕ → Type 0) → ℕ → List ℕ → Pair → Type 0
HasWidened E P t path pair = (left : List ℕ) × (right : List ℕ) × (pair.left ≡ t ∷ left) × (pair.right ≡ t ∷ right) × IsWidened E P t path left right
