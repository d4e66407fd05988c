-- The names that the statements of a text declare, each in its scope, and which declaration of a name is in force at a statement:
-- that of a variable of the procedure in which the statement stands, or that of a constant, type, enumeration value or
-- procedure in an earlier statement.
use Rattle.std.specs.Prelude.{◌≡◌, ℕ, suc, Bool, ◌&&◌, ◌||◌, List, [], ◌∷◌, ◌++◌, take, fold, Option, Some, None, is_some, if◌then◌else◌, nat_eq, nat_lt, slice_get}
use Rattle.std.specs.Option.{option_and_then, option_map, option_or}
use Rattle.std.specs.Map.{lookup}
use Rattle.std.specs.Cmp.Lexicographic.{pointwise}
use Rattle.il_core.specs.Statement.{Statement, Placed, constant_is, range_type, wrap_type, enum_type, procedure, variable}
use Rattle.il_types.specs.declared.counts.Counts.{Counts}
use Rattle.il_types.specs.Counts.{no_counts, counts_behind}

-- a scope and a name: scope 0 is the whole text, scope k the k-th procedure
abbrev pub Key : Type 0
Key = ℕ × List ℕ

-- the number of a statement, and which of the names it declares: that of an enumeration is its number 0, its values follow
abbrev pub Spot : Type 0
Spot = ℕ × ℕ

abbrev pub Table : Type 0
Table = List (Key × Spot)

abbrev pub same_key : Key → Key → Bool
same_key a b = nat_eq a.0 b.0 && pointwise nat_eq a.1 b.1

-- the names that a statement declares, in their order
abbrev pub declared_names : Statement → List (List ℕ)
declared_names (constant_is name _) = name ∷ []
declared_names (range_type name _ _) = name ∷ []
declared_names (wrap_type name _ _) = name ∷ []
declared_names (enum_type name values) = name ∷ values
declared_names (procedure name) = name ∷ []
declared_names (variable _ name _) = name ∷ []
declared_names _ = []

-- a variable belongs to its procedure, all else to the whole text
abbrev pub scope_of : ℕ → Statement → ℕ
scope_of owner (variable _ _ _) = owner
scope_of owner _ = 0

abbrev pub entries_from : ℕ → ℕ → ℕ → List (List ℕ) → Table
entries_from scope at index [] = []
entries_from scope at index (name ∷ names) = ((scope, name), (at, index)) ∷ entries_from scope at (suc index) names

-- what statement `at` declares behind so many procedures
abbrev pub entries : ℕ → ℕ → Statement → Table
entries owner at x = entries_from (scope_of owner x) at 0 (declared_names x)

-- a front of a text: its counts and its declarations in order
pub record Front : Type 0 where
  pub counts : Counts
  pub table : Table

abbrev pub one_more : Front → Placed → Front
one_more f x = record { counts = counts_behind f.counts x.says; table = f.table ++ entries f.counts.procedures f.counts.statements x.says }

abbrev pub front_of : List Placed → Front
front_of stmts = fold one_more (record { counts = no_counts; table = [] }) stmts

-- the counts in front of statement i
abbrev pub counts_at : List Placed → ℕ → Counts
counts_at stmts i = (front_of (take i stmts)).counts

-- a name may not repeat one of its scope or of the whole text
abbrev pub is_taken : Table → Key → Bool
is_taken table key = is_some (lookup (same_key (0, key.1)) table) || is_some (lookup (same_key key) table)

-- the first name that is taken by a declaration before it
abbrev pub first_taken : Table → Table → Option (List ℕ)
first_taken table [] = None
first_taken table (e ∷ es) = if is_taken table e.0 then Some e.0.1 else first_taken (table ++ e ∷ []) es

-- what the declarations of these entries behind a table answer: the first name that is taken, or none and the longer table
abbrev pub IsDeclared : Table → Table → Table → Option (List ℕ) → Type 0
IsDeclared before after es answer = (answer ≡ first_taken before es) × (answer ≡ None → after ≡ before ++ es)

-- where a name is used: among these statements and declarations, in a procedure (0: before all of them), at a statement
pub record Setting : Type 0 where
  pub table : Table
  pub stmts : List Placed
  pub owner : ℕ
  pub at : ℕ

abbrev pub setting : Table → List Placed → ℕ → ℕ → Setting
setting table stmts owner at = record { table = table; stmts = stmts; owner = owner; at = at }

abbrev pub earlier : ℕ → Option Spot → Option Spot
earlier at None = None
earlier at (Some spot) = if nat_lt spot.0 at then Some spot else None

abbrev pub of_procedure : Table → ℕ → List ℕ → Option Spot
of_procedure table owner name = if nat_eq owner 0 then None else lookup (same_key (owner, name)) table

abbrev pub in_force : Setting → List ℕ → Option Spot
in_force s name = option_or (of_procedure s.table s.owner name) (earlier s.at (lookup (same_key (0, name)) s.table))

abbrev pub said : List Placed → Spot → Option (Spot × Statement)
said stmts spot = option_map (λ x. (spot, x.says)) (slice_get stmts spot.0)

-- the declaration of a name that is in force, with the statement that makes it
abbrev pub declaration : Setting → List ℕ → Option (Spot × Statement)
declaration s name = option_and_then (said s.stmts) (in_force s name)

-- two tables in which each name is found alike
abbrev pub FindAlike : Table → Table → Type 0
FindAlike a b = (k : Key) → lookup (same_key k) a ≡ lookup (same_key k) b

-- a table of first declarations with those of these entries: it finds each name as any table does that finds alike, with the entries behind it
abbrev pub GoesOn : Table → Table → Table → Type 0
GoesOn before after es = (table : Table) → FindAlike before table → FindAlike after (table ++ es)
