-- What counts of the expansion of a procedure: of a whole one, where it is called, and of the latest one, as far as its statements have been
-- gone through.
use Rattle.std.specs.Prelude.{◌≡◌, ℕ, ◌+◌, ◌-◌, ◌≤◌, List, [], ◌∷◌, ◌++◌, map, length, nat_eq, Option, Some, None, slice_get, if◌then◌else◌}
use Rattle.std.specs.Option.{option_and_then, option_map}
use Rattle.il_core.specs.Statement.{Statement, procedure, variable, call}
use Rattle.il_core.specs.declared.refusal.Code.TheVariants as code
use Rattle.il_types.specs.declared.counts.Counts.{Counts}
use Rattle.il_types.specs.declared.rules.Found.{Found}
use Rattle.il_types.specs.Counts.{is_line, one_if, too_many}
use Rattle.il_types.specs.Names.{Setting}
use Rattle.il_types.specs.Rules.{unnamed}
use Rattle.il_called.specs.Expansion.{Callee, is_returned}
use Rattle.call_rules.specs.Callee.{procedure_named}
use Rattle.call_rules.specs.Limits.{widths_of}
use Rattle.call_limits.specs.declared.extent.Extent.{Extent}
use Rattle.call_limits.specs.declared.measures.Measures.{Measures}

-- the measures of procedures that may be called
pub record AreMeasures (callees : List Callee) (table : List Measures) : Type 0 where
  pub widths : map (λ (m : Measures). m.width) table ≡ widths_of callees
  pub places : map (λ (m : Measures). m.places) table ≡ map (λ (c : Callee). length c.expanded.places) callees

-- what measures come to where no limit is passed
pub record IsSmall (m : Measures) : Type 0 where
  pub width : m.width ≤ 1128
  pub places : m.places ≤ 64

-- an extent within the limits, behind so many variables and OLD copies
pub record IsWithin (c : Counts) (x : Extent) : Type 0 where
  pub lines : x.lines ≤ 1000
  pub returned : x.returned ≤ 64
  pub places : c.variables + c.copies + x.brought ≤ 64

-- the measures of the earlier procedure that a name stands for
abbrev pub called : List Measures → Setting → List ℕ → Option Measures
called table s name = option_and_then (λ c. slice_get table (c - 1)) (procedure_named s name)

abbrev pub no_extent : Extent
no_extent = record { lines = 0; returned = 0; brought = 0 }

-- one call more, of a procedure with these measures; a call of one that is not there counts as one line
abbrev pub with_call : Extent → Option Measures → Extent
with_call x None = record x { lines = x.lines + 1 }
with_call x (Some m) = record x { lines = x.lines + m.width; brought = x.brought + m.places }

-- one statement more
abbrev pub extent_behind : List Measures → Setting → Extent → Statement → Extent
extent_behind table s x (procedure _) = no_extent
extent_behind table s x (variable m _ _) = record x { returned = x.returned + one_if (is_returned m) }
extent_behind table s x (call name _) = with_call x (called table s name)
extent_behind table s x y = record x { lines = x.lines + one_if (is_line y) }

-- the measures of the latest procedure, behind its last statement
abbrev pub measured : Counts → Extent → Measures
measured c x = record { width = c.variables + c.copies + x.lines + x.returned; places = c.variables + x.brought + c.copies }

-- the measures of the procedures in front of the latest one, behind one statement more; none ends where the first procedure begins
abbrev pub table_behind : List Measures → Counts → Extent → Statement → List Measures
table_behind table c x (procedure _) = if nat_eq c.procedures 0 then table else table ++ measured c x ∷ []
table_behind table c x _ = table

-- counts with those of an extent
abbrev pub expanded : Counts → Extent → Counts
expanded c x = record c { lines = x.lines; copies = c.copies + x.brought }

abbrev pub excess : Counts → Extent → Option Found
excess c x = option_map (λ m. unnamed (code.TooMany m)) (too_many (expanded c x))
