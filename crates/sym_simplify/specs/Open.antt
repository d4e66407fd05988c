-- A normal term with its parts at hand: the parts before the constant.
use Rattle.std.specs.Prelude.{ℤ, List}
use Rattle.sym_simplify.specs.declared.node.FormNode.{FormNode}
use Rattle.sym_simplify.specs.declared.node.FormPart.{FormPart}
use Rattle.sym_simplify.specs.declared.opening.OpenForm.{OpenForm}
use Rattle.sym_simplify.specs.Form.{Form, constant}
use Rattle.sym_simplify.specs.Table.{on_top}

abbrev pub open_form : List FormNode → OpenForm → Form
open_form nodes f = on_top nodes f.parts.items (constant f.constant)

-- the part with another coefficient
abbrev pub with_coefficient : ℤ → FormPart → FormPart
with_coefficient c p = record { coefficient = c; atom = p.atom }
