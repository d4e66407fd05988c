-- A table of normal terms: each cell names only earlier positions, and no two are equal; the normal term of a position is found by
-- following them.
use Rattle.std.specs.Prelude.{◌≡◌, ℕ, pos, ◌<◌, Some, List, [], ◌∷◌, length, slice_get, slice_index_or}
use Rattle.sym_simplify.specs.declared.node.FormId.{FormId}
use Rattle.sym_simplify.specs.declared.node.FormAtom.{FormAtom}
use Rattle.sym_simplify.specs.declared.node.FormAtom.TheVariants.{Var, Mul, Div, Mod}
use Rattle.sym_simplify.specs.declared.node.FormPart.{FormPart}
use Rattle.sym_simplify.specs.declared.node.FormNode.{FormNode}
use Rattle.sym_simplify.specs.declared.node.FormNode.TheVariants.{Constant, More}
use Rattle.sym_simplify.specs.Form.{times, over, rest, Form, constant, part, Factor, place, pair}
use Rattle.sym_terms.specs.Grown.{grown}

-- each position that the atom names is below k
abbrev pub HasSidesBelow : ℕ → FormAtom → Type 0
HasSidesBelow k (Var p) = Unit {0}
HasSidesBelow k (Mul a b) = (a.index < k) × (b.index < k)
HasSidesBelow k (Div a b) = (a.index < k) × (b.index < k)
HasSidesBelow k (Mod a b) = (a.index < k) × (b.index < k)

-- each position that the cell names is below k
abbrev pub NamesBelow : ℕ → FormNode → Type 0
NamesBelow k (Constant c) = Unit {0}
NamesBelow k (More p next) = HasSidesBelow k p.atom × (next.index < k)

pub record IsTable (nodes : List FormNode) : Type 0 where
  pub lower : (k : ℕ) (n : FormNode) → slice_get nodes k ≡ Some n → NamesBelow k n
  pub differ : (j k : ℕ) (n : FormNode) → slice_get nodes j ≡ Some n → slice_get nodes k ≡ Some n → j ≡ k

-- the normal term at a position of a list
abbrev pub form_in : List Form → ℕ → Form
form_in forms i = slice_index_or forms i (constant (pos 0))

-- the atom over the normal terms of earlier positions
abbrev pub factor_over : List Form → FormAtom → Factor
factor_over done (Var p) = place p
factor_over done (Mul a b) = pair times (form_in done a.index) (form_in done b.index)
factor_over done (Div a b) = pair over (form_in done a.index) (form_in done b.index)
factor_over done (Mod a b) = pair rest (form_in done a.index) (form_in done b.index)

-- the normal term of a cell over those of earlier positions
abbrev pub form_over : List Form → FormNode → Form
form_over done (Constant c) = constant c
form_over done (More p next) = part p.coefficient (factor_over done p.atom) (form_in done next.index)

-- the normal terms of all positions
unfoldable pub forms_of : List FormNode → List Form
forms_of nodes = grown form_over [] nodes

-- the normal term of a position
unfoldable pub form_at : List FormNode → FormId → Form
form_at nodes id = form_in (forms_of nodes) id.index

-- the atom over a table
abbrev pub factor_at : List FormNode → FormAtom → Factor
factor_at nodes (Var p) = place p
factor_at nodes (Mul a b) = pair times (form_at nodes a) (form_at nodes b)
factor_at nodes (Div a b) = pair over (form_at nodes a) (form_at nodes b)
factor_at nodes (Mod a b) = pair rest (form_at nodes a) (form_at nodes b)

-- the normal term of a cell over a table
abbrev pub node_form : List FormNode → FormNode → Form
node_form nodes (Constant c) = constant c
node_form nodes (More p next) = part p.coefficient (factor_at nodes p.atom) (form_at nodes next)

-- parts before a normal term
abbrev pub on_top : List FormNode → List FormPart → Form → Form
on_top nodes [] n = n
on_top nodes (p ∷ ps) n = part p.coefficient (factor_at nodes p.atom) (on_top nodes ps n)

-- the sides of each part's atom are positions of the table
pub record ArePartsWithin (nodes : List FormNode) (parts : List FormPart) : Type 0 where
  pub each : (k : ℕ) (p : FormPart) → slice_get parts k ≡ Some p → HasSidesBelow (length nodes) p.atom
