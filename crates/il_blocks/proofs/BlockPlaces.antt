-- The statement at a number, as the definitions see it.
use Rattle.std.proofs.Common.{◌≡◌, ◌<◌, ◌++◌, ◌∷◌, [], ℕ, zero, suc, List, length, get_or, take, slice_get, ◌∙◌, ap}
use Rattle.std.specs.Prelude.{map, Option, Some, None}
use Rattle.std.specs.Option.{option_map}
use Rattle.std.proofs.lemmas.Option.{slice_get-map, slice_get-get_or}
use Rattle.il_core.specs.Statement.{Placed, placed}
use Rattle.il_core.specs.declared.statement.Stmt.{Stmt}

pub placed_at : (stmts : List Stmt) (i : ℕ) (stmt : Stmt) → i < length stmts → get_or stmts i stmt ≡ stmt → slice_get (map placed stmts) i ≡ Some (placed stmt)
placed_at stmts i stmt h e =
    slice_get-map placed stmts i ∙ ap (option_map placed) (slice_get-get_or stmts i stmt h) ∙ ap (λ (x : Stmt). Some (placed x)) e

not_some : {A : Type 0} (x : A) → ◌≡◌ {A = Option A} None (Some x) → ⊥
not_some x e = cc

-- the front of a list with the element behind it
pub take_next : (ss : List Placed) (i : ℕ) (s : Placed) → slice_get ss i ≡ Some s → take (suc i) ss ≡ take i ss ++ s ∷ []
take_next [] i s e = absurd (not_some s e)
take_next (x ∷ xs) zero s e = let f : x ≡ s = cc in ap (λ (y : Placed). y ∷ []) f
take_next (x ∷ xs) (suc i) s e = ap (λ (ys : List Placed). x ∷ ys) (take_next xs i s e)
