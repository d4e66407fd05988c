-- The statements of a procedure are those in front of which as many PROCs stand as its number says: those behind its PROC, up to the
-- next PROC, with that one, or up to the end of the text.
use Rattle.std.specs.Prelude.{◌≡◌, ◌≢◌, ℕ, ◌+◌, ◌<◌, ◌≤◌, List, length, Some, slice_get}
use Rattle.il_core.specs.Statement.{Placed, procedure}
use Rattle.il_types.specs.Names.{counts_at}

-- statement `at` is the PROC of the procedure numbered owner
pub record IsOpening (stmts : List Placed) (owner at : ℕ) : Type 0 where
  pub stmt : Placed
  pub there : slice_get stmts at ≡ Some stmt
  pub name : List ℕ
  pub says : stmt.says ≡ procedure name
  pub number : owner ≡ (counts_at stmts at).procedures + 1

-- they are those numbered from `from` on, up to `to` without that one
pub record AreStatementsOf (stmts : List Placed) (owner from to : ℕ) : Type 0 where
  pub ordered : from ≤ to
  pub within : to ≤ length stmts
  pub inside : (i : ℕ) → from ≤ i → i < to → (counts_at stmts i).procedures ≡ owner
  pub before : (i : ℕ) → i < from → (counts_at stmts i).procedures ≢ owner
  pub behind : (i : ℕ) → to ≤ i → i < length stmts → (counts_at stmts i).procedures ≢ owner
