-- The names that a statement uses, in the order in which it is written.
use Rattle.std.specs.Prelude.{◌≡◌, ℕ, ◌<◌, List, [], ◌∷◌, ◌++◌, Some, slice_get}
use Rattle.il_core.specs.Statement.{Statement, Placed, range_type, wrap_type, variable, pre, post, assign, if_true, exit_when, assert}
use Rattle.il_core.specs.Tree.{Tree, word, former, minus, opposite, two}
use Rattle.il_core.specs.declared.statement.Bound.{Bound}
use Rattle.il_core.specs.declared.statement.Bound.TheVariants as bound
use Rattle.il_core.specs.declared.statement.TypeUse.{TypeUse}
use Rattle.il_core.specs.declared.statement.TypeUse.TheVariants as use_
use Rattle.typing_laws.specs.Declared.{IsKnown}

abbrev pub names_in : Tree → List (List ℕ)
names_in (word name) = name ∷ []
names_in (former name) = name ∷ []
names_in (minus e) = names_in e
names_in (opposite e) = names_in e
names_in (two _ a b) = names_in a ++ names_in b
names_in _ = []

abbrev pub names_in_end : Bound → List (List ℕ)
names_in_end (bound.Number _) = []
names_in_end (bound.Constant name) = name ∷ []

abbrev pub names_in_type : TypeUse → List (List ℕ)
names_in_type use_.Bool = []
names_in_type (use_.Named name) = name ∷ []
names_in_type (use_.Range least greatest) = names_in_end least ++ names_in_end greatest
names_in_type (use_.Wrap least greatest) = names_in_end least ++ names_in_end greatest

abbrev pub used_names : Statement → List (List ℕ)
used_names (range_type _ least greatest) = names_in_end least ++ names_in_end greatest
used_names (wrap_type _ least greatest) = names_in_end least ++ names_in_end greatest
used_names (variable _ _ type) = names_in_type type
used_names (pre e) = names_in e
used_names (post e) = names_in e
used_names (assign name e) = name ∷ names_in e
used_names (if_true e) = names_in e
used_names (exit_when e) = names_in e
used_names (assert e) = names_in e
used_names _ = []

-- the first of these names without a declaration in force
pub record IsFirstUnknown (stmts : List Placed) (i : ℕ) (names : List (List ℕ)) (name : List ℕ) : Type 0 where
  pub index : ℕ
  pub there : slice_get names index ≡ Some name
  pub unknown : IsKnown stmts i name → ⊥
  pub first : (k : ℕ) (other : List ℕ) → k < index → slice_get names k ≡ Some other → IsKnown stmts i other

-- all of them have one
abbrev pub AreKnown : List Placed → ℕ → List (List ℕ) → Type 0
AreKnown stmts i names = (k : ℕ) (name : List ℕ) → slice_get names k ≡ Some name → IsKnown stmts i name
