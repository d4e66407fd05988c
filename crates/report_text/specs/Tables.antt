-- The section on tables: for each region its line, and behind it its rows, numbered from 1 in each region. A row has its path, a line for each
-- literal that does not always hold, its stop, and a line for each place whose value is not that place itself.
use Rattle.std.specs.Prelude.{ℕ, Bool, true, false, List, [], ◌++◌, codes, if◌then◌else◌}
use Rattle.std.specs.List.{flat_map}
use Rattle.il_core.specs.declared.line.Place.{Place}
use Rattle.sym_simplify.specs.declared.normal.LitForm.{LitForm}
use Rattle.sym_simplify.specs.declared.normal.LitForm.TheVariants.{Always, Never, Keep}
use Rattle.sym_simplify.specs.declared.normal.Normal.{Normal}
use Rattle.sym_simplify.specs.FormText.{form_text, literal_form_text}
use Rattle.sym_simplify.specs.Held.{form_of}
use Rattle.sym_simplify.specs.Literal.{literal_form_of}
use Rattle.region_paths.specs.declared.limit.Limit.{Limit}
use Rattle.region_paths.specs.declared.limit.Limit.TheVariants.{Rows, Nodes, Weight, Depth}
use Rattle.semantic_tables.specs.declared.row.Row.{Row}
use Rattle.semantic_tables.specs.declared.row.TableOr.{TableOr}
use Rattle.semantic_tables.specs.declared.row.TableOr.TheVariants.{Table, Past}
use Rattle.report.specs.declared.report.RegionTable.{RegionTable}
use Rattle.form_text.specs.Lists.{numbered, line_text, place_at}
use Rattle.form_text.specs.Parts.{is_place}
use Rattle.report_text.specs.Path.{numbered_path, stop_line}

abbrev pub limit_text : Limit → List ℕ
limit_text Rows = codes "ROWS"
limit_text Nodes = codes "NODES"
limit_text Weight = codes "WEIGHT"
limit_text Depth = codes "DEPTH"

-- the first limit that a region passes
abbrev pub past_text : TableOr → List ℕ
past_text (Table rows) = []
past_text (Past limit) = codes " PAST " ++ limit_text limit

-- the line of a region
unfoldable pub region_text : RegionTable → List ℕ
region_text t = codes "REGION " ++ line_text t.pc ++ past_text t.body ++ codes "\n"

abbrev pub holds_always : LitForm → Bool
holds_always Always = true
holds_always Never = false
holds_always (Keep k) = false

-- the line of a literal
unfoldable pub literal_line : List Place → LitForm → List ℕ
literal_line places l = if holds_always l then [] else (codes "IF " ++ literal_form_text (place_at places) (literal_form_of l) ++ codes "\n")

-- the line of the value of a place
unfoldable pub value_line : List Place → ℕ → Normal → List ℕ
value_line places at n = if is_place at (form_of n) then [] else (place_at places at ++ codes " := " ++ form_text (place_at places) (form_of n) ++ codes "\n")

unfoldable pub row_text : List Place → ℕ → Row → List ℕ
row_text places n r = numbered_path (codes "ROW ") n r.path ++ codes "\n" ++ flat_map (literal_line places) r.literals
    ++ stop_line r.stop ++ numbered (value_line places) 0 r.values

abbrev pub rows_text : List Place → TableOr → List ℕ
rows_text places (Table rows) = numbered (row_text places) 1 rows
rows_text places (Past limit) = []

abbrev pub table_text : List Place → RegionTable → List ℕ
table_text places t = region_text t ++ rows_text places t.body

unfoldable pub tables_text : List Place → List RegionTable → List ℕ
tables_text places tables = codes "SEMANTIC\n" ++ flat_map (table_text places) tables
