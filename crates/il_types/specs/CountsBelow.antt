-- Counts of n statements: each count is at most n.
use Rattle.std.specs.Prelude.{◌≡◌, ℕ, ◌≤◌}
use Rattle.il_types.specs.declared.counts.Counts.{Counts}

pub record IsBehind (c : Counts) (n : ℕ) : Type 0 where
  pub statements : c.statements ≡ n
  pub procedures : c.procedures ≤ n
  pub variables : c.variables ≤ n
  pub copies : c.copies ≤ n
  pub lines : c.lines ≤ n
