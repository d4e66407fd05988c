use Rattle.std.proofs.Common.{◌≡◌, ◌++◌, drop}
use Rattle.std.specs.Prelude.{map, find}
use Rattle.call_names.specs.Search.{is_among}
use Rattle.call_names.specs.declared.outline.Variable.{Variable}
use Rattle.call_names.proofs.search.first_variable.Given as goal

abbrev pub invariant-loop-variable : goal.invariant-loop-variable
invariant-loop-variable l = find (is_among l.sought) (map (λ (v : Variable). l.stem ++ v.name) (drop l.variable-index l.variables)) ≡ find (is_among l.sought) (map (λ (v : Variable). l.stem ++ v.name) l.variables)
