-- A procedure `inc` that adds 1 to a variable of the range 0 to 9 that is at most 8, and a procedure `p` that calls it with a variable of the
-- range 0 to 5: the call becomes two assignments, the precondition, the body, the postcondition, and one assignment back.
use Rattle.std.specs.Prelude.{◌≡◌, ℕ, pos, ℤ, false, List, [], ◌∷◌, codes, slice_get, Some}
use Rattle.il_core.specs.Expression.{Expression, number, variable, truth, two}
use Rattle.il_core.specs.Procedure.{pre, assign, assert, end_procedure}
use Rattle.il_core.specs.declared.line.Place.{Place}
use Rattle.il_core.specs.declared.operator.BinOp.TheVariants.{Add, Compare}
use Rattle.il_core.specs.declared.operator.Relation.TheVariants.{Eq, Le}
use Rattle.il_core.specs.declared.statement.Mode.{Mode}
use Rattle.il_core.specs.declared.statement.Mode.TheVariants.{InOut, Local}
use Rattle.std.specs.Prelude.{Bool, true}
use Rattle.il_called.specs.Called.{variable_of, own, call, WrittenProcedure}
use Rattle.il_called.specs.Expansion.{Expansion, Callee, origin_at, callees_of}

abbrev pub counter : List ℕ → Mode → Bool → ℤ → Place
counter name mode old greatest = record { name = name; mode = mode; old = old; flag = false; wrap = false; least = pos 0; greatest = greatest }

abbrev pub inc : WrittenProcedure
inc = record {
  name = codes "inc";
  places = counter (codes "v") InOut false (pos 9) ∷ counter (codes "v") InOut true (pos 9) ∷ [];
  lines = own (pre (two (Compare Le) (variable 0) (number (pos 8)))) ∷ own (assign 0 (two Add (variable 0) (number (pos 1))))
      ∷ own (end_procedure (two (Compare Eq) (variable 0) (two Add (variable 1) (number (pos 1))))) ∷ [];
}

abbrev pub caller : WrittenProcedure
caller = record {
  name = codes "p";
  places = counter (codes "x") InOut false (pos 5) ∷ counter (codes "x") InOut true (pos 5) ∷ [];
  lines = own (pre (truth true)) ∷ call 0 (variable_of 0 ∷ []) ∷ own (end_procedure (truth true)) ∷ [];
}

abbrev pub expanded_caller : Expansion
expanded_caller = record {
  places = counter (codes "x") InOut false (pos 5) ∷ counter (codes "c1_v") Local false (pos 9) ∷ counter (codes "o1_v") Local false (pos 9)
      ∷ counter (codes "x") InOut true (pos 5) ∷ [];
  lines = pre (truth true) ∷ assign 1 (variable 0) ∷ assign 2 (variable 1) ∷ assert (two (Compare Le) (variable 1) (number (pos 8)))
      ∷ assign 1 (two Add (variable 1) (number (pos 1))) ∷ assert (two (Compare Eq) (variable 1) (two Add (variable 2) (number (pos 1)))) ∷ assign 0 (variable 1)
      ∷ end_procedure (truth true) ∷ [];
  origins = origin_at 1 0 ∷ origin_at 1 1 ∷ origin_at 1 1 ∷ origin_at 0 0 ∷ origin_at 0 1 ∷ origin_at 0 2 ∷ origin_at 1 1 ∷ origin_at 1 2 ∷ [];
  spans = record { first = 1; last = 6; callee = 0 } ∷ [];
}

pub record WorkedExpansion : Type 0 where
  pub second : (callee : Callee) → slice_get (callees_of (inc ∷ caller ∷ [])) 1 ≡ Some callee → callee.expanded ≡ expanded_caller
