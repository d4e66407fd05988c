-- A list of the counts in front of each statement of a text.
use Rattle.std.specs.Prelude.{◌≡◌, ℕ, ◌<◌, List, length, slice_get, Some}
use Rattle.il_core.specs.Statement.{Placed}
use Rattle.il_types.specs.declared.counts.Counts.{Counts}
use Rattle.il_types.specs.Names.{counts_at}

pub record AreCounted (stmts : List Placed) (counts : List Counts) : Type 0 where
  pub size : length counts ≡ length stmts
  pub each : (i : ℕ) → i < length stmts → slice_get counts i ≡ Some (counts_at stmts i)
