-- The section on test inputs: for each region its line, and behind it the test input of each row of its table, numbered from 1 in each region, or a
-- dash where the row has none. They are the inputs that stand next, where these are of that region.
use Rattle.std.specs.Prelude.{ℕ, ◌==◌, ℤ, List, [], ◌∷◌, ◌++◌, codes, decimal, Option, None, Some, if◌then◌else◌}
use Rattle.il_core.specs.declared.line.Place.{Place}
use Rattle.report.specs.declared.report.RegionInputs.{RegionInputs}
use Rattle.report.specs.declared.report.RegionTable.{RegionTable}
use Rattle.form_text.specs.Lists.{numbered}
use Rattle.report_text.specs.Tables.{region_text}
use Rattle.report_text.specs.Threats.{input_text}

-- the value of each place, or a dash where there is no input
abbrev pub tried_text : List Place → Option (List ℤ) → List ℕ
tried_text places None = codes "-"
tried_text places (Some s) = input_text places s

-- the line of row n
unfoldable pub row_input_text : List Place → ℕ → Option (List ℤ) → List ℕ
row_input_text places n o = codes "ROW " ++ decimal n ++ codes " INPUT " ++ tried_text places o ++ codes "\n"

-- the inputs that stand next, where they are of the region of line pc
abbrev pub rows_next : ℕ → List RegionInputs → List (Option (List ℤ))
rows_next pc [] = []
rows_next pc (i ∷ is) = if i.pc == pc then i.rows else []

-- what stands behind them
abbrev pub behind_next : ℕ → List RegionInputs → List RegionInputs
behind_next pc [] = []
behind_next pc (i ∷ is) = if i.pc == pc then is else (i ∷ is)

abbrev pub region_inputs_text : List Place → RegionTable → List (Option (List ℤ)) → List ℕ
region_inputs_text places t rows = region_text t ++ numbered (row_input_text places) 1 rows

-- the regions with their inputs
abbrev pub tried_regions_text : List Place → List RegionTable → List RegionInputs → List ℕ
tried_regions_text places [] is = []
tried_regions_text places (t ∷ ts) is = region_inputs_text places t (rows_next t.pc is) ++ tried_regions_text places ts (behind_next t.pc is)

unfoldable pub inputs_text : List Place → List RegionTable → List RegionInputs → List ℕ
inputs_text places ts is = codes "INPUTS\n" ++ tried_regions_text places ts is
