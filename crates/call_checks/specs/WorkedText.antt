-- The worked text is well formed: `inc`, which adds 1 to a variable, and `p`, which calls it with its own variable. A caller that gives `inc` an
-- IN variable is not, nor is one that names no earlier procedure.
use Rattle.std.specs.Prelude.{ℕ, pos, true, false, [], ◌∷◌, codes}
use Rattle.il_core.specs.Expression.{truth}
use Rattle.il_core.specs.Procedure.{pre, end_procedure}
use Rattle.il_core.specs.declared.statement.Mode.TheVariants.{Input}
use Rattle.il_called.specs.Called.{variable_of, own, call, WrittenProcedure}
use Rattle.il_called.specs.Expansion.{callees_of}
use Rattle.il_called.specs.WorkedExpansion.{counter, inc, caller}
use Rattle.call_checks.specs.WellFormed.{IsWellFormed, AreWellFormed}

-- a procedure with an IN variable that calls the procedure of a number with it
abbrev pub reader : ℕ → WrittenProcedure
reader c = record {
  name = codes "r";
  places = counter (codes "x") Input false (pos 5) ∷ [];
  lines = own (pre (truth true)) ∷ call c (variable_of 0 ∷ []) ∷ own (end_procedure (truth true)) ∷ [];
}

pub record WorkedText : Type 0 where
  pub formed : AreWellFormed (inc ∷ caller ∷ [])
  pub reads_only : IsWellFormed (callees_of (inc ∷ [])) (reader 0) → ⊥
  pub no_such : IsWellFormed (callees_of (inc ∷ [])) (reader 1) → ⊥
