use Rattle.std.proofs.Common.{◌≡◌, [], ◌∷◌, ◌++◌, length}
use Rattle.std.specs.Prelude.{map}
use Rattle.il_core.specs.Statement.{placed}
use Rattle.il_types.specs.Names.{counts_at}
use Rattle.il_built.specs.Holding.{setting_at}
use Rattle.call_names.specs.Gathered.{declared_variable, called_in}
use Rattle.call_names.specs.declared.outline.Outline.{Outline}
use Rattle.call_names.proofs.Lists.{AreLists}
use Rattle.call_names.proofs.gathering.outlines_of.Given as goal

abbrev pub invariant-loop-i : goal.invariant-loop-i
invariant-loop-i l = record {
  size : length l.outlines.items ≡ (counts_at (map placed l.stmts) l.i).procedures;
  variables : AreLists (λ i x. declared_variable x) (map placed l.stmts) l.i (map (λ (o : Outline). o.variables) l.outlines.items ++ l.variables ∷ []);
  calls : AreLists (λ i x. called_in (setting_at (map placed l.stmts) i) x) (map placed l.stmts) l.i (map (λ (o : Outline). o.calls) l.outlines.items ++ l.calls ∷ []);
}
