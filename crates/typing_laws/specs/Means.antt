-- What a written expression stands for over the places of the procedure in which its statement stands: a constant and a value of an enumeration
-- are their numbers, a variable is the place that has its name, and behind OLD it is the OLD copy of that name.
use Rattle.std.specs.Prelude.{◌≡◌, ℕ, suc, ℤ, pos, Bool, true, false, List, Some, slice_get}
use Rattle.il_core.specs.Expression.{Expression}
use Rattle.il_core.specs.Expression as e
use Rattle.il_core.specs.Statement.{Placed, constant_is, enum_type, variable}
use Rattle.il_core.specs.Tree.{Tree}
use Rattle.il_core.specs.Tree as tree
use Rattle.il_core.specs.declared.line.Place.{Place}
use Rattle.il_core.specs.declared.operator.BinOp.{BinOp}
use Rattle.il_core.specs.declared.statement.Mode.{Mode}
use Rattle.il_core.specs.declared.statement.TypeUse.{TypeUse}
use Rattle.il_types.specs.Built.{read}
use Rattle.il_types.specs.Names.{counts_at}
use Rattle.il_built.specs.CheckedText.{places_of}
use Rattle.typing_laws.specs.Typed.{StandsFor}

-- the places of the procedure in which statement i stands
abbrev pub own_places : List Placed → ℕ → List Place
own_places stmts i = places_of stmts (counts_at stmts i).procedures

-- a name stands for a variable, and place p has that name; it is an OLD copy, or none
pub record IsPlaceOf (stmts : List Placed) (i : ℕ) (name : List ℕ) (old : Bool) (p : ℕ) (place : Place) : Type 0 where
  pub at : ℕ
  pub mode : Mode
  pub called : List ℕ
  pub type : TypeUse
  pub stands : StandsFor stmts i name at 0 (variable mode called type)
  pub there : slice_get (own_places stmts i) p ≡ Some place
  pub named : place.name ≡ name
  pub copied : place.old ≡ old

pub data Means (stmts : List Placed) (i : ℕ) : Tree → Expression → Type 0 where
  number : (n : ℕ) → Means stmts i (tree.number n) (e.number (pos n))
  truth : (b : Bool) → Means stmts i (tree.constant b) (e.truth b)
  constant : (name called : List ℕ) (j : ℕ) (v : ℤ) → StandsFor stmts i name j 0 (constant_is called v) → Means stmts i (tree.word name) (e.number v)
  value : (name called : List ℕ) (j k : ℕ) (values : List (List ℕ)) → StandsFor stmts i name j (suc k) (enum_type called values)
      → Means stmts i (tree.word name) (e.number (pos k))
  variable_now : (name : List ℕ) (p : ℕ) (place : Place) → IsPlaceOf stmts i name false p place → Means stmts i (tree.word name) (read place.flag p)
  variable_old : (name : List ℕ) (p : ℕ) (place : Place) → IsPlaceOf stmts i name true p place → Means stmts i (tree.former name) (read place.flag p)
  minus : (a : Tree) (x : Expression) → Means stmts i a x → Means stmts i (tree.minus a) (e.minus x)
  opposite : (a : Tree) (x : Expression) → Means stmts i a x → Means stmts i (tree.opposite a) (e.opposite x)
  two : (o : BinOp) (a b : Tree) (x y : Expression) → Means stmts i a x → Means stmts i b y → Means stmts i (tree.two o a b) (e.two o x y)
