-- Each procedure of the checked text of statements in order, without a fault and with their links, is a checked procedure.
use Rattle.std.specs.Prelude.{◌≡◌, ℕ, suc, List, None, Some, slice_get}
use Rattle.il_core.specs.Checked.{IsChecked}
use Rattle.il_core.specs.Statement.{Placed}
use Rattle.il_core.specs.declared.statement.Link.{Link}
use Rattle.il_syntax.specs.Order.{IsInOrder}
use Rattle.il_blocks.specs.BlockLink.{AreLinks}
use Rattle.il_types.specs.Rules.{Answers}
use Rattle.il_built.specs.CheckedText.{procedure_of, procedure_names}

-- each procedure of the checked text keeps the invariant of a checked procedure
pub record AreCheckedProcedures (stmts : List Placed) (links : List Link) : Type 0 where
  pub each : (k : ℕ) (name : List ℕ) → slice_get (procedure_names stmts) k ≡ Some name → IsChecked (procedure_of stmts links (suc k))

abbrev pub ProceduresAreChecked : Type 0
ProceduresAreChecked = (stmts : List Placed) (links : List Link) → IsInOrder stmts → AreLinks stmts links → Answers stmts None → AreCheckedProcedures stmts links
