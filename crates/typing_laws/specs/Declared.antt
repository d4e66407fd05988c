-- Which statement declares a name, when a name is declared twice, and which declaration of it is in force at a statement. Statements are
-- numbered from 0, and so are the names that one of them declares: an enumeration is its own name 0, and its values follow.
use Rattle.std.specs.Prelude.{◌≡◌, ℕ, suc, ◌<◌, ◌⊎◌, ℤ, List, Some, slice_get}
use Rattle.std.specs.Option.{option_map}
use Rattle.il_core.specs.Statement.{Statement, Placed, constant_is, range_type, wrap_type, enum_type, procedure, variable}
use Rattle.il_core.specs.declared.statement.Bound.{Bound}
use Rattle.il_core.specs.declared.statement.Mode.{Mode}
use Rattle.il_core.specs.declared.statement.TypeUse.{TypeUse}

-- statement i of a text
abbrev pub Says : List Placed → ℕ → Statement → Type 0
Says stmts i x = option_map (λ (s : Placed). s.says) (slice_get stmts i) ≡ Some x

-- a statement gives a constant, a type, a value of an enumeration or a procedure this name, as its k-th
pub data Names : Statement → ℕ → List ℕ → Type 0 where
  a_constant : (name : List ℕ) (value : ℤ) → Names (constant_is name value) 0 name
  a_range : (name : List ℕ) (least greatest : Bound) → Names (range_type name least greatest) 0 name
  a_wrapping : (name : List ℕ) (least greatest : Bound) → Names (wrap_type name least greatest) 0 name
  an_enumeration : (name : List ℕ) (values : List (List ℕ)) → Names (enum_type name values) 0 name
  a_value : (called name : List ℕ) (values : List (List ℕ)) (k : ℕ) → slice_get values k ≡ Some name → Names (enum_type called values) (suc k) name
  a_procedure : (name : List ℕ) → Names (procedure name) 0 name

-- statement j does so
pub record IsShared (stmts : List Placed) (j k : ℕ) (name : List ℕ) : Type 0 where
  pub stmt : Statement
  pub says : Says stmts j stmt
  pub names : Names stmt k name

-- a procedure begins with statement p
pub record Begins (stmts : List Placed) (p : ℕ) : Type 0 where
  pub name : List ℕ
  pub says : Says stmts p (procedure name)

-- statement i stands in the procedure that begins with statement p, the latest in front of it that begins one
pub record StandsIn (stmts : List Placed) (p i : ℕ) : Type 0 where
  pub begins : Begins stmts p
  pub before : p < i
  pub latest : (q : ℕ) → p < q → q < i → Begins stmts q → ⊥

-- statement j declares a variable of this name, of the procedure that begins with statement p
pub record IsVariable (stmts : List Placed) (p j : ℕ) (name : List ℕ) : Type 0 where
  pub mode : Mode
  pub type : TypeUse
  pub says : Says stmts j (variable mode name type)
  pub stands : StandsIn stmts p j

-- the k-th name of statement i has a declaration before: a constant, type, enumeration value or procedure has a name that an earlier one
-- has, or a variable the name of an earlier one of these or of an earlier variable of its procedure
pub data DeclaredTwice (stmts : List Placed) (i : ℕ) : ℕ → List ℕ → Type 0 where
  shared : (j k l : ℕ) (name : List ℕ) → IsShared stmts i k name → IsShared stmts j l name → (j < i) ⊎ ((j ≡ i) × (l < k)) → DeclaredTwice stmts i k name
  beside_shared : (p j l : ℕ) (name : List ℕ) → IsVariable stmts p i name → IsShared stmts j l name → j < i → DeclaredTwice stmts i 0 name
  beside_variable : (p j : ℕ) (name : List ℕ) → IsVariable stmts p i name → IsVariable stmts p j name → j < i → DeclaredTwice stmts i 0 name

-- no name of a text is declared twice
abbrev pub DeclaredOnce : List Placed → Type 0
DeclaredOnce stmts = (i k : ℕ) (name : List ℕ) → DeclaredTwice stmts i k name → ⊥

-- the declaration of a name by statement j, as its k-th, is in force at statement i: that of a constant, type, enumeration value or procedure
-- where j is earlier, that of a variable in all of its procedure
pub data InForce (stmts : List Placed) (i : ℕ) (name : List ℕ) : ℕ → ℕ → Type 0 where
  earlier_is : (j k : ℕ) → IsShared stmts j k name → j < i → InForce stmts i name j k
  own_is : (p j : ℕ) → StandsIn stmts p i → IsVariable stmts p j name → InForce stmts i name j 0

-- a name has a declaration in force
pub record IsKnown (stmts : List Placed) (i : ℕ) (name : List ℕ) : Type 0 where
  pub at : ℕ
  pub index : ℕ
  pub force : InForce stmts i name at index
