-- The outline of a procedure: its variables in their order, and the procedures that it calls, call by call.
use Rattle.std.specs.Prelude.{◌≡◌, ℕ, List, [], ◌∷◌, length, map, filter, drop, Some, slice_get}
use Rattle.std.specs.List.{flat_map}
use Rattle.il_core.specs.Checked.{old_copy, is_copied}
use Rattle.il_core.specs.declared.line.Place.{Place}
use Rattle.il_called.specs.Called.{WrittenLine, own, call, WrittenProcedure}
use Rattle.il_called.specs.Expansion.{variables_in}
use Rattle.call_names.specs.declared.outline.Outline.{Outline}
use Rattle.call_names.specs.declared.outline.Variable.{Variable}

abbrev pub summary : Place → Variable
summary v = record { name = v.name; copied = is_copied v }

abbrev pub callee_in : WrittenLine → List ℕ
callee_in (own i) = []
callee_in (call n arguments) = n ∷ []

-- an outline of a procedure whose OLD copies stand behind its variables
pub record IsOutlined (p : WrittenProcedure) (o : Outline) : Type 0 where
  pub variables : o.variables ≡ map summary (variables_in p.places)
  pub copies : drop (length (variables_in p.places)) p.places ≡ map old_copy (filter is_copied (variables_in p.places))
  pub calls : o.calls ≡ flat_map callee_in p.lines

-- the outlines of procedures, in their order
pub record AreOutlined (procs : List WrittenProcedure) (outlines : List Outline) : Type 0 where
  pub size : length outlines ≡ length procs
  pub each : (n : ℕ) (p : WrittenProcedure) (o : Outline) → slice_get procs n ≡ Some p → slice_get outlines n ≡ Some o → IsOutlined p o
