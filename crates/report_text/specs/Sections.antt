-- The sections of a procedure's report, each with its heading.
use Rattle.std.specs.Prelude.{ℕ, Bool, List, ◌++◌, codes, decimal, if◌then◌else◌}
use Rattle.std.specs.List.{flat_map}
use Rattle.control_flow.specs.declared.control.Control.{Control}
use Rattle.control_flow.specs.declared.control.LoopInfo.{LoopInfo}
use Rattle.control_flow.specs.declared.control.Shape.{Shape}
use Rattle.control_flow.specs.declared.control.Shape.TheVariants.{Reducible, TwoEntries}
use Rattle.data_use.specs.declared.row.UseRow.{UseRow}
use Rattle.flow_graph.specs.declared.graph.Arc.{Arc}
use Rattle.il_core.specs.declared.line.Place.{Place}
use Rattle.info_flow.specs.declared.row.FlowRow.{FlowRow}
use Rattle.interval_reduce.specs.declared.interval.Interval.{Interval}
use Rattle.interval_reduce.specs.declared.interval.Derivation.{Derivation}
use Rattle.path_expr.specs.declared.report.PathReport.{PathReport}
use Rattle.path_expr.specs.declared.report.Ref.{Ref}
use Rattle.path_expr.specs.declared.report.Ref.TheVariants as ref
use Rattle.path_expr.specs.declared.report.Def.{Def}
use Rattle.path_expr.specs.declared.report.Def.TheVariants.{Sum, Product, Star}
use Rattle.form_text.specs.Lists.{numbered, line_text, lines_text, place_at, names_text}

-- a loop by its head, with its members and its leading assertions
unfoldable pub loop_text : LoopInfo → List ℕ
loop_text l = codes "LOOP " ++ line_text l.head ++ codes ": " ++ lines_text l.members ++ codes " LEADING " ++ lines_text l.leading ++ codes "\n"

unfoldable pub interval_text : Interval → List ℕ
interval_text i = codes "INTERVAL " ++ line_text i.head ++ codes ": " ++ lines_text i.members ++ codes "\n"

-- level k: its intervals
unfoldable pub level_text : ℕ → List Interval → List ℕ
level_text k level = codes "LEVEL " ++ decimal k ++ codes "\n" ++ flat_map interval_text level

unfoldable pub shape_text : Shape → List ℕ
shape_text Reducible = codes "SHAPE REDUCIBLE\n"
shape_text (TwoEntries e) = codes "SHAPE TWO ENTRIES\nCYCLE " ++ lines_text e.cycle ++ codes "\nFIRST " ++ lines_text e.first_path
    ++ codes "\nSECOND " ++ lines_text e.second_path ++ codes "\n"

unfoldable pub control_text : Control → Derivation → List ℕ
control_text c d = codes "CONTROL\nUNREACHABLE " ++ lines_text c.unreachable ++ codes "\nSTUCK " ++ lines_text c.stuck ++ codes "\n"
    ++ flat_map loop_text c.loops ++ numbered level_text 0 d.levels ++ shape_text c.shape

-- a fact holds or not
abbrev pub yes : Bool → List ℕ
yes fact = if fact then codes "Y" else codes "N"

-- the six facts of a variable
unfoldable pub use_text : List Place → UseRow → List ℕ
use_text places row = codes "VAR " ++ place_at places row.place ++ codes " RF=" ++ yes row.read_first ++ codes " OW=" ++ yes row.overwritten ++ codes " LW=" ++ yes row.last_write
    ++ codes " NR=" ++ yes row.never_read ++ codes " NW=" ++ yes row.never_written ++ codes " EU=" ++ yes row.end_unwritten ++ codes "\n"

unfoldable pub usage_text : List Place → List UseRow → List ℕ
usage_text places rows = codes "USE\n" ++ flat_map (use_text places) rows

-- the sources and the deciding tests of a variable
unfoldable pub flow_text : List Place → FlowRow → List ℕ
flow_text places row = codes "VAR " ++ place_at places row.place ++ codes " FROM " ++ names_text places row.sources ++ codes " TESTS " ++ lines_text row.tests ++ codes "\n"

unfoldable pub flows_text : List Place → List FlowRow → List ℕ
flows_text places rows = codes "FLOW\n" ++ flat_map (flow_text places) rows

-- arc n
unfoldable pub arc_text : ℕ → Arc → List ℕ
arc_text n a = codes "ARC a" ++ decimal n ++ codes " " ++ line_text a.tail ++ codes " " ++ line_text a.head ++ codes "\n"

unfoldable pub ref_text : Ref → List ℕ
ref_text ref.Zero = codes "0"
ref_text ref.One = codes "1"
ref_text (ref.Arc n) = codes "a" ++ decimal n
ref_text (ref.Def n) = codes "E" ++ decimal n

abbrev pub meaning_text : Def → List ℕ
meaning_text (Sum a b) = ref_text a ++ codes " + " ++ ref_text b
meaning_text (Product a b) = ref_text a ++ codes " . " ++ ref_text b
meaning_text (Star a) = ref_text a ++ codes " *"

-- definition n
unfoldable pub def_text : ℕ → Def → List ℕ
def_text n d = codes "E" ++ decimal n ++ codes " = " ++ meaning_text d ++ codes "\n"

unfoldable pub paths_text : List Arc → PathReport → List ℕ
paths_text arcs p = codes "PATHS\n" ++ numbered arc_text 1 arcs ++ numbered def_text 1 p.defs ++ codes "ALL = " ++ ref_text p.whole ++ codes "\n"
