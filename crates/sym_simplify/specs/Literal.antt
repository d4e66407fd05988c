-- The form of a literal: the normal term of left minus right, compared to 0; the first coefficient is made positive, and the constant is
-- brought to the other side.
use Rattle.std.specs.Prelude.{◌≡◌, ℕ, ◌+◌, ◌<◌, ℤ, ◌<ℤ◌, unsigned_abs, pos, negsuc, neg_ℤ, Bool, true, false, ◌++◌, map, if◌then◌else◌}
use Rattle.std.specs.Prelude.{int_lt}
use Rattle.il_core.specs.declared.operator.Relation.{Relation}
use Rattle.il_core.specs.declared.operator.Relation.TheVariants.{Eq, Ne, Lt, Le, Gt, Ge}
use Rattle.il_core.specs.Evaluation.{State, compares}
use Rattle.sym_terms.specs.declared.term.Literal.{Literal}
use Rattle.sym_terms.specs.Tree.{Tree, tree_of}
use Rattle.sym_simplify.specs.declared.normal.LitForm.{LitForm}
use Rattle.sym_simplify.specs.declared.normal.LitForm.TheVariants.{Always, Never, Keep}
use Rattle.sym_simplify.specs.Form.{Form, constant, part, form_value}
use Rattle.sym_simplify.specs.Norm.{scaled, normal_of, summands, heft}
use Rattle.sym_simplify.specs.Normal.{IsNormal, constant_of}
use Rattle.sym_simplify.specs.Merge.{scale_parts}
use Rattle.sym_simplify.specs.Held.{form_of}

pub data LiteralForm : Type 0 where
  always : LiteralForm
  never : LiteralForm
  keep : Form → Relation → ℤ → LiteralForm

-- the form that a `LitForm` holds
abbrev pub literal_form_of : LitForm → LiteralForm
literal_form_of Always = always
literal_form_of Never = never
literal_form_of (Keep k) = keep (form_of k.sum) k.relation k.bound

-- the normal term of one term minus another
unfoldable pub difference : Tree → Tree → Form
difference x y = normal_of (summands x ++ map (scaled (negsuc 0)) (summands y))

-- the relation of the negated sides
abbrev pub mirrored : Relation → Relation
mirrored Eq = Eq
mirrored Ne = Ne
mirrored Lt = Gt
mirrored Le = Ge
mirrored Gt = Lt
mirrored Ge = Le

abbrev pub without_constant : Form → Form
without_constant (constant c) = constant (pos 0)
without_constant (part c a n) = part c a (without_constant n)

-- the parts compared to the negated constant
abbrev pub kept : Relation → Form → LiteralForm
kept r n = keep (without_constant n) r (neg_ℤ (constant_of n))

-- the form of a normal term compared to 0
abbrev pub compared : Relation → Form → LiteralForm
compared r (constant c) = if compares r c (pos 0) then always else never
compared r (part c a n) = if int_lt c (pos 0) then kept (mirrored r) (scale_parts (negsuc 0) (part c a n)) else kept r (part c a n)

abbrev pub form_of_literal : Literal → LiteralForm
form_of_literal l = compared l.relation (difference (tree_of l.left) (tree_of l.right))

-- whether a form holds in a state
abbrev pub form_holds : LiteralForm → State → Bool
form_holds always s = true
form_holds never s = false
form_holds (keep n r bound) s = compares r (form_value n s) bound

abbrev pub BeginsAboveZero : Form → Type 0
BeginsAboveZero (constant c) = ⊥
BeginsAboveZero (part c a n) = pos 0 <ℤ c

-- what each literal's form has: a normal term with the constant 0 and a first coefficient above 0, and numbers that are together below k
abbrev pub IsKeptBelow : ℕ → LiteralForm → Type 0
IsKeptBelow k always = Unit {0}
IsKeptBelow k never = Unit {0}
IsKeptBelow k (keep n r bound) = IsNormal n × (constant_of n ≡ pos 0) × BeginsAboveZero n × (heft n + unsigned_abs bound < k)
