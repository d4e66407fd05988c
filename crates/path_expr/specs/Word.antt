-- The words of a reference are lists of arcs by their numbers from 1: zero has none, one the empty word, an arc itself, a sum the words
-- of either side, a product a word of the left and then one of the right, a star any number of words of its side one after the other.
use Rattle.std.specs.Prelude.{◌≡◌, ℕ, suc, Some, List, [], ◌∷◌, ◌++◌, slice_get}
use Rattle.path_expr.specs.declared.report.Ref.{Ref}
use Rattle.path_expr.specs.declared.report.Ref.TheVariants as ref
use Rattle.path_expr.specs.declared.report.Def.{Def}
use Rattle.path_expr.specs.declared.report.Def.TheVariants.{Sum, Product, Star}

-- definition number k + 1
abbrev pub IsDef : List Def → ℕ → Def → Type 0
IsDef defs k d = slice_get defs k ≡ Some d

pub data Word (defs : List Def) : Ref → List ℕ → Type 0 where
  of_one : Word defs ref.One []
  of_arc : (k : ℕ) → Word defs (ref.Arc k) (k ∷ [])
  of_left : (k : ℕ) (a b : Ref) (w : List ℕ) → IsDef defs k (Sum a b) → Word defs a w → Word defs (ref.Def (suc k)) w
  of_right : (k : ℕ) (a b : Ref) (w : List ℕ) → IsDef defs k (Sum a b) → Word defs b w → Word defs (ref.Def (suc k)) w
  of_both : (k : ℕ) (a b : Ref) (x y : List ℕ) → IsDef defs k (Product a b) → Word defs a x → Word defs b y → Word defs (ref.Def (suc k)) (x ++ y)
  of_none : (k : ℕ) (a : Ref) → IsDef defs k (Star a) → Word defs (ref.Def (suc k)) []
  of_more : (k : ℕ) (a : Ref) (x y : List ℕ) → IsDef defs k (Star a) → Word defs a x → Word defs (ref.Def (suc k)) y → Word defs (ref.Def (suc k)) (x ++ y)
