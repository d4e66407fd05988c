-- The normal term that a `Normal` holds.
use Rattle.std.specs.Prelude.{ℤ, List, [], ◌∷◌}
use Rattle.sym_simplify.specs.declared.normal.Normal.{Normal, Normal', Row_of-Part, end_of-Part, more_of-Part}
use Rattle.sym_simplify.specs.declared.normal.Part.{Part}
use Rattle.sym_simplify.specs.declared.normal.Atom.{Atom, Mul', Div', Mod'}
use Rattle.sym_simplify.specs.declared.normal.Atom.TheVariants.{Var}
use Rattle.sym_simplify.specs.Form.{times, over, rest, Form, constant, part, Factor, place, pair}

abbrev mutual
  pub factor_of : Atom → Factor
  factor_of (Var p) = place p
  factor_of (Mul' p m q n) = pair times (form_of m) (form_of n)
  factor_of (Div' p m q n) = pair over (form_of m) (form_of n)
  factor_of (Mod' p m q n) = pair rest (form_of m) (form_of n)

  pub form_of : Normal → Form
  form_of (Normal' c shape parts) = parts_in c parts

  pub parts_in : {m : _} → ℤ → Row_of-Part m → Form
  parts_in c end_of-Part = constant c
  parts_in c (more_of-Part k a more) = part k (factor_of a) (parts_in c more)

-- parts before a normal term
abbrev pub parts_before : List Part → Form → Form
parts_before [] n = n
parts_before (p ∷ ps) n = part p.coefficient (factor_of p.atom) (parts_before ps n)
