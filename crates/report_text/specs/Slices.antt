-- The section on slices: for each variable the lines that are kept, and the tests that are fixed, each with T or F.
use Rattle.std.specs.Prelude.{ℕ, Bool, List, ◌++◌, codes, if◌then◌else◌}
use Rattle.std.specs.List.{flat_map}
use Rattle.flow_slice.specs.declared.sliced.Fixed.{Fixed}
use Rattle.il_core.specs.declared.line.Place.{Place}
use Rattle.report.specs.declared.report.SliceRow.{SliceRow}
use Rattle.form_text.specs.Lists.{line_text, lines_text, place_at, spaced}

abbrev pub side_text : Bool → List ℕ
side_text taken = if taken then codes "=T" else codes "=F"

-- a test with the truth value to which it is fixed
abbrev pub fixed_text : Fixed → List ℕ
fixed_text f = line_text f.line ++ side_text f.taken

unfoldable pub fixes_text : List Fixed → List ℕ
fixes_text fixed = spaced fixed_text fixed

-- the lines that are kept for a variable, and the tests that are fixed
unfoldable pub slice_text : List Place → SliceRow → List ℕ
slice_text places row = codes "VAR " ++ place_at places row.place ++ codes " KEEP " ++ lines_text row.keep ++ codes " FIXED " ++ fixes_text row.fixed ++ codes "\n"

unfoldable pub slices_text : List Place → List SliceRow → List ℕ
slices_text places rows = codes "SLICE\n" ++ flat_map (slice_text places) rows
