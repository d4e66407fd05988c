-- A LABEL belongs to its procedure: it may not repeat an earlier one there, and a GOTO may name it from there alone.
use Rattle.std.specs.Prelude.{◌≡◌, ◌⊎◌, ◌<◌, ◌+◌, ◌&&◌, not, nat_eq, bytes_eq, is_none, ℕ, Bool, true, false, List, [], ◌∷◌, ◌++◌, take, slice_get, Option, Some, None, MatchOption, if◌then◌else◌}
use Rattle.std.specs.Map.{lookup}
use Rattle.il_core.specs.Statement.{Statement, Placed, procedure, label, goto}

abbrev pub begins : Statement → ℕ
begins (procedure _) = 1
begins _ = 0

-- the number of procedures that begin among statements
abbrev pub procedures : List Placed → ℕ
procedures [] = 0
procedures (s ∷ ss) = begins s.says + procedures ss

-- the procedure in which the statement numbered i stands: how many begin before it
abbrev pub owner : List Placed → ℕ → ℕ
owner stmts i = procedures (take i stmts)

abbrev pub label_of : Statement → Option (List ℕ)
label_of (label name) = Some name
label_of _ = None

abbrev pub target_of : Statement → Option (List ℕ)
target_of (goto name) = Some name
target_of _ = None

-- the statement numbered j is the LABEL with this name in this procedure
pub record IsLabel (stmts : List Placed) (inside : ℕ) (name : List ℕ) (j : ℕ) : Type 0 where
  pub stmt : Placed
  pub at : slice_get stmts j ≡ Some stmt
  pub says : label_of stmt.says ≡ Some name
  pub same : owner stmts j ≡ inside

-- the statement numbered i is a LABEL that repeats an earlier one of its procedure
pub record IsRepeated (stmts : List Placed) (i : ℕ) : Type 0 where
  pub stmt : Placed
  pub at : slice_get stmts i ≡ Some stmt
  pub name : List ℕ
  pub says : label_of stmt.says ≡ Some name
  pub first : ℕ
  pub before : first < i
  pub earlier : IsLabel stmts (owner stmts i) name first

-- the statement numbered i is a GOTO that names no LABEL of its procedure
pub record IsLost (stmts : List Placed) (i : ℕ) : Type 0 where
  pub stmt : Placed
  pub at : slice_get stmts i ≡ Some stmt
  pub name : List ℕ
  pub says : target_of stmt.says ≡ Some name
  pub nowhere : (j : ℕ) → IsLabel stmts (owner stmts i) name j → ⊥

abbrev pub IsMislabelled : List Placed → ℕ → Type 0
IsMislabelled stmts i = IsRepeated stmts i ⊎ IsLost stmts i

-- labels by procedure and name, with the numbers of their statements
abbrev pub Entries : Type 0
Entries = List ((ℕ × List ℕ) × ℕ)

abbrev pub same_key : ℕ → List ℕ → (ℕ × List ℕ) → Bool
same_key inside name k = nat_eq inside k.0 && bytes_eq name k.1

-- the number of a label's statement
abbrev pub found : ℕ → List ℕ → Entries → Option ℕ
found inside name es = lookup (same_key inside name) es

-- the table holds the first of the labels with each name in each procedure, among the first n statements
abbrev pub IsTable : List Placed → ℕ → Entries → Type 0
IsTable stmts n es = (inside : ℕ) (name : List ℕ) → MatchOption (found inside name es) ((j : ℕ) → j < n → IsLabel stmts inside name j → ⊥)
    (λ j. (j < n) × IsLabel stmts inside name j × ((k : ℕ) → k < j → IsLabel stmts inside name k → ⊥))

-- the table with one more label, if its name is new in its procedure
abbrev pub enlisted : Option (List ℕ) → ℕ → ℕ → Entries → Entries
enlisted None inside i es = es
enlisted (Some name) inside i es = if is_none (found inside name es) then es ++ ((inside, name), i) ∷ [] else es

abbrev pub is_other : ℕ → Option ℕ → Bool
is_other i None = true
is_other i (Some j) = not (nat_eq j i)

abbrev pub is_repeat : Option (List ℕ) → ℕ → ℕ → Entries → Bool
is_repeat None inside i es = false
is_repeat (Some name) inside i es = is_other i (found inside name es)

abbrev pub is_lost : Option (List ℕ) → ℕ → Entries → Bool
is_lost None inside es = false
is_lost (Some name) inside es = is_none (found inside name es)
