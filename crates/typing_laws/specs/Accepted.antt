-- A text keeps the rules of names, types, modes, ranges, bounds and limits.
use Rattle.std.specs.Prelude.{ℕ, ◌+◌, ◌≤◌, List}
use Rattle.il_core.specs.Statement.{Statement, Placed}
use Rattle.il_core.specs.Tree.{Tree}
use Rattle.il_types.specs.declared.modes.Part.{Part}
use Rattle.il_types.specs.declared.counts.Counts.{Counts}
use Rattle.il_types.specs.Counts.{counts_behind}
use Rattle.il_types.specs.Names.{counts_at}
use Rattle.typing_laws.specs.Allowed.{BreaksModes, IsEmptyRange}
use Rattle.typing_laws.specs.Bounded.{HasSmallParts, AllWellTyped}
use Rattle.typing_laws.specs.Declared.{Says, DeclaredOnce}
use Rattle.typing_laws.specs.Parts.{HasExpression}
use Rattle.typing_laws.specs.Used.{used_names, AreKnown}

-- at most 64 procedures, 1000 lines of the latest one and 64 places of it
pub record IsWithinLimits (c : Counts) : Type 0 where
  pub procedures : c.procedures ≤ 64
  pub lines : c.lines ≤ 1000
  pub places : c.variables + c.copies ≤ 64

-- no name is declared twice, each name that is used has a declaration in force, the types fit, no statement breaks a rule on modes, no range is
-- empty, no part of an expression has static bounds that are too wide, and there are not too many procedures, lines and places behind any statement
pub record KeepsRules (stmts : List Placed) : Type 0 where
  pub once : DeclaredOnce stmts
  pub known : (i : ℕ) (x : Statement) → Says stmts i x → AreKnown stmts i (used_names x)
  pub typed : AllWellTyped stmts
  pub modes : (i : ℕ) (x : Statement) → Says stmts i x → BreaksModes stmts i x → ⊥
  pub ranges : (i : ℕ) (x : Statement) → Says stmts i x → IsEmptyRange stmts i x → ⊥
  pub narrow : (i : ℕ) (x : Statement) (part : Part) (e : Tree) → Says stmts i x → HasExpression x part e → HasSmallParts stmts i e
  pub limits : (i : ℕ) (x : Statement) → Says stmts i x → IsWithinLimits (counts_behind (counts_at stmts i) x)
