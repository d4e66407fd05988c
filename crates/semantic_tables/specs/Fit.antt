-- The literals of a row are such as a least input is looked for: each is over the places there are, and has the form of a literal of a region
-- within its size.
use Rattle.std.specs.Prelude.{ℕ, All}
use Rattle.sym_simplify.specs.Literal.{literal_form_of}
use Rattle.sym_simplify.specs.Easy.{IsKept}
use Rattle.sym_simplify.specs.Places.{HasLiteralPlacesBelow}
use Rattle.sym_simplify.specs.declared.normal.LitForm.{LitForm}
use Rattle.semantic_tables.specs.declared.row.Row.{Row}
use Rattle.semantic_tables.specs.declared.row.TableOr.{TableOr}
use Rattle.semantic_tables.specs.declared.row.TableOr.TheVariants.{Table, Past}

-- the literals are over the first n places, and kept
pub record HasSoundLiterals (n : ℕ) (r : Row) : Type 0 where
  pub below : All (λ (l : LitForm). HasLiteralPlacesBelow n (literal_form_of l)) r.literals
  pub kept : All (λ (l : LitForm). IsKept (literal_form_of l)) r.literals

abbrev pub HaveSoundLiterals : ℕ → TableOr → Type 0
HaveSoundLiterals n (Table rows) = All (HasSoundLiterals n) rows
HaveSoundLiterals n (Past limit) = Unit {0}
