-- The text of a normal term: its parts in their order, each a coefficient with its atom, then the constant where it is not 0 or there is no
-- part. A coefficient of absolute value 1 is not written. The text of a literal's form is that of its parts, its relation and its number.
use Rattle.std.specs.Prelude.{ℕ, ℤ, pos, unsigned_abs, ◌==◌, ◌&&◌, Bool, false, List, [], ◌++◌, codes, decimal, if◌then◌else◌, int_lt, int_le}
use Rattle.std.specs.Fmt.{signed_decimal}
use Rattle.std.specs.Ordering.{int_eq}
use Rattle.il_core.specs.declared.operator.Relation.{Relation}
use Rattle.il_core.specs.declared.operator.Relation.TheVariants.{Eq, Ne, Lt, Le, Gt, Ge}
use Rattle.sym_simplify.specs.Form.{Kind, times, over, rest, Form, Factor, constant, part, place, pair}
use Rattle.sym_simplify.specs.Literal.{LiteralForm, always, never, keep}

-- the sign of a first part; the sign of what stands behind a part
abbrev pub first_sign : ℤ → List ℕ
first_sign c = if int_lt c (pos 0) then codes "-" else []

abbrev pub later_sign : ℤ → List ℕ
later_sign c = if int_lt c (pos 0) then codes " - " else codes " + "

-- a coefficient in front of its atom, without its sign
abbrev pub coefficient_text : ℤ → List ℕ
coefficient_text c = if unsigned_abs c == 1 then [] else decimal (unsigned_abs c) ++ codes "*"

-- a side of an atom stands bare where it is one place or a constant of at least 0, else in parentheses
abbrev pub is_bare : Form → Bool
is_bare (constant c) = int_le (pos 0) c
is_bare (part c (place p) (constant d)) = int_eq c (pos 1) && int_eq d (pos 0)
is_bare (part c a n) = false

abbrev pub enclosed : Bool → List ℕ → List ℕ
enclosed bare text = if bare then text else codes "(" ++ text ++ codes ")"

-- an atom of two sides
abbrev pub pair_text : Kind → List ℕ → List ℕ → List ℕ
pair_text times left right = left ++ codes "*" ++ right
pair_text over left right = codes "(" ++ left ++ codes " DIV " ++ right ++ codes ")"
pair_text rest left right = codes "(" ++ left ++ codes " MOD " ++ right ++ codes ")"

-- with the texts of the places
abbrev mutual
  pub form_text : (ℕ → List ℕ) → Form → List ℕ
  form_text name (constant c) = signed_decimal c
  form_text name (part c a n) = first_sign c ++ coefficient_text c ++ factor_text name a ++ later_text name n

  -- what stands behind a part
  pub later_text : (ℕ → List ℕ) → Form → List ℕ
  later_text name (constant c) = if int_eq c (pos 0) then [] else later_sign c ++ decimal (unsigned_abs c)
  later_text name (part c a n) = later_sign c ++ coefficient_text c ++ factor_text name a ++ later_text name n

  pub factor_text : (ℕ → List ℕ) → Factor → List ℕ
  factor_text name (place p) = name p
  factor_text name (pair k m n) = pair_text k (enclosed (is_bare m) (form_text name m)) (enclosed (is_bare n) (form_text name n))

abbrev pub relation_text : Relation → List ℕ
relation_text Eq = codes "="
relation_text Ne = codes "/="
relation_text Lt = codes "<"
relation_text Le = codes "<="
relation_text Gt = codes ">"
relation_text Ge = codes ">="

-- a literal that always or never holds has no text
abbrev pub literal_form_text : (ℕ → List ℕ) → LiteralForm → List ℕ
literal_form_text name always = []
literal_form_text name never = []
literal_form_text name (keep n r bound) = form_text name n ++ codes " " ++ relation_text r ++ codes " " ++ signed_decimal bound
