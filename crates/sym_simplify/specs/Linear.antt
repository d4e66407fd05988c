-- A normal term all of whose atoms are places: the constant, and each place with its coefficient.
use Rattle.std.specs.Prelude.{ℤ, Option, Some, None, List, [], ◌∷◌, ◌++◌}
use Rattle.std.specs.Option.{option_map}
use Rattle.sym_simplify.specs.declared.normal.LinearTerm.{LinearTerm}
use Rattle.sym_simplify.specs.declared.normal.LinearPart.{LinearPart}
use Rattle.sym_simplify.specs.Form.{Form, constant, part, place, pair}

pub record Linear : Type 0 where
  pub number : ℤ
  pub places : List LinearPart

-- with these parts before its own
abbrev pub with_places : List LinearPart → Linear → Linear
with_places ps l = record { number = l.number; places = ps ++ l.places }

-- none where an atom is no place
abbrev pub linear_of : Form → Option Linear
linear_of (constant c) = Some (record { number = c; places = [] })
linear_of (part c (place p) n) = option_map (with_places (record { coefficient = c; place = p } ∷ [])) (linear_of n)
linear_of (part c (pair k l m) n) = None

-- what a `LinearTerm` holds
abbrev pub linear_in : LinearTerm → Linear
linear_in t = record { number = t.constant; places = t.parts }
