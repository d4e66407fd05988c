-- The normal row of a path: its decisions, the forms of its literals, its stop, and the normal term of each place's value.
use Rattle.std.specs.Prelude.{Bool, List, map}
use Rattle.il_core.specs.declared.line.Stop.{Stop}
use Rattle.sym_terms.specs.Comparison.{Comparison}
use Rattle.sym_simplify.specs.Form.{Form}
use Rattle.sym_simplify.specs.Norm.{norm}
use Rattle.sym_simplify.specs.Held.{form_of}
use Rattle.sym_simplify.specs.Literal.{LiteralForm, literal_form_of, compared, difference}
use Rattle.region_paths.specs.Listing.{RegionPath}
use Rattle.semantic_tables.specs.declared.row.Row.{Row}

pub record NormalRow : Type 0 where
  pub path : List Bool
  pub literals : List LiteralForm
  pub stop : Stop
  pub values : List Form

-- the normal row that a `Row` holds
abbrev pub row_of : Row → NormalRow
row_of r = record { path = r.path; literals = map literal_form_of r.literals; stop = r.stop; values = map form_of r.values }

abbrev pub comparison_form : Comparison → LiteralForm
comparison_form c = compared c.relation (difference c.left c.right)

-- the forms of a path's literals, in order
abbrev pub forms_of : RegionPath → List LiteralForm
forms_of r = map comparison_form r.row.literals

abbrev pub normal_row : RegionPath → NormalRow
normal_row r = record { path = r.row.path; literals = forms_of r; stop = r.stop; values = map norm r.row.values }
