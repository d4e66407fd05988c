-- The profile of a text is 1 or 2, and is read from its statements.
use Rattle.std.proofs.Common.{◌≡◌, ◌≤◌, ap, refl, Bool, true, false, ◌||◌, List, [], ◌∷◌, arith, if◌then◌else◌}
use Rattle.std.specs.Prelude.{map}
use Rattle.std.specs.List.{list_any}
use Rattle.il_core.specs.Statement.{Placed}
use Rattle.il_built.specs.CheckedText.{wraps, profile_of}

-- a test of a list by what its elements are seen as
pub seen_any : {A B : Type 0} (p : B → Bool) (f : A → B) (xs : List A) → list_any (λ x. p (f x)) xs ≡ list_any p (map f xs)
seen_any p f [] = refl
seen_any p f (x ∷ xs) = ap (λ b. p (f x) || b) (seen_any p f xs)

-- a profile is 1 or 2
pub profile_is : (stmts : List Placed) → (1 ≤ profile_of stmts) × (profile_of stmts ≤ 2)
profile_is stmts = by_test (list_any (λ x. wraps x.says) stmts)
  where
    by_test : (b : Bool) → (1 ≤ (if b then 2 else 1)) × ((if b then 2 else 1) ≤ 2)
    by_test true = (omega arith, omega arith)
    by_test false = (omega arith, omega arith)
