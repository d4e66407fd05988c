-- The variables of a procedure, and its places.
use Rattle.std.proofs.Common.{◌≡◌, ℕ, zero, suc, ◌≤◌, ◌∙◌, sym, ap, subst, refl, inl, inr, cond, Bool, true, false, ◌&&◌, List, [], ◌∷◌, ◌++◌, length, drop, arith, append-nil}
use Rattle.std.specs.Prelude.{map, filter}
use Rattle.std.proofs.lemmas.Bool.{cases_eq}
use Rattle.std.proofs.lemmas.List.Elements.{filter-append}
use Rattle.il_core.specs.Checked.{old_copy, is_copied}
use Rattle.il_core.specs.Run.{is_variable, inout_from}
use Rattle.il_core.specs.Statement.{Statement, Placed, variable}
use Rattle.il_core.specs.declared.line.Place.{Place}
use Rattle.il_types.specs.Names.{Setting, counts_at}
use Rattle.il_built.specs.CheckedText.{of_procedure, declared_place, variables_of, with_copies, places_of}
use Rattle.il_built.specs.Holding.{setting_at}
use Rattle.il_built.proofs.Given.{stands, given_by, given_next, given_here, not_given}
use Rattle.il_called.specs.Expansion.{variables_in}

-- what each statement gives keeps, all that is given to a procedure keeps
pub each_given : {A : Type 0} (P : List A → Type 0) (give : ℕ → Statement → List A) (stmts : List Placed) (owner n : ℕ) → n ≤ length stmts → P []
    → ((xs ys : List A) → P xs → P ys → P (xs ++ ys)) → ((i : ℕ) (x : Statement) → P (give i x)) → P (given_by give stmts owner n)
each_given P give stmts owner zero h none join one = none
each_given P give stmts owner (suc i) h none join one =
    let x = stands stmts i (omega arith) in
    let here : P (of_procedure give stmts owner i) = elim (cases_eq (counts_at stmts i).procedures owner) [
      | inl own ↦ subst P (sym (given_here give stmts owner i x.0 x.1 own)) (one i x.0.says)
      | inr other ↦ subst P (sym (not_given give stmts owner i x.0 x.1 other)) none
    ] in
    subst P (sym (given_next give stmts owner i)) (join _ _ (each_given P give stmts owner i (omega arith) none join one) here)

abbrev pub ArePlain : List Place → Type 0
ArePlain vs = filter is_variable vs ≡ vs

plain : (s : Setting) (x : Statement) → ArePlain (declared_place s x)
plain s (variable m name used) = refl
plain s _ = refl

pub are_plain : (stmts : List Placed) (owner : ℕ) → ArePlain (variables_of stmts owner)
are_plain stmts owner = each_given ArePlain (λ i x. declared_place (setting_at stmts i) x) stmts owner (length stmts) (omega arith) refl
    (λ xs ys h g. filter-append is_variable xs ys ∙ ap (λ zs. zs ++ filter is_variable ys) h ∙ ap (λ zs. xs ++ zs) g)
    (λ i x. plain (setting_at stmts i) x)

pub no_variables : (vs : List Place) → filter is_variable (map old_copy vs) ≡ []
no_variables [] = refl
no_variables (v ∷ vs) = no_variables vs

-- the variables are the places that are no OLD copies
pub variables_are : (stmts : List Placed) (owner : ℕ) → variables_in (places_of stmts owner) ≡ variables_of stmts owner
variables_are stmts owner =
    let vs = variables_of stmts owner in
    let copies = filter is_copied vs in
    filter-append is_variable vs (map old_copy copies) ∙ ap (λ ps. ps ++ filter is_variable (map old_copy copies)) (are_plain stmts owner)
    ∙ ap (λ ps. vs ++ ps) (no_variables copies) ∙ append-nil vs

pub inout_length : (k : ℕ) (ps : List Place) → length (inout_from k ps) ≡ length (filter is_copied (filter is_variable ps))
inout_length k [] = refl
inout_length k (p ∷ ps) = by_test (is_variable p) (is_copied p) refl (inout_length (suc k) ps)
  where
    by_test : (a b : Bool) → is_copied p ≡ b → length (inout_from (suc k) ps) ≡ length (filter is_copied (filter is_variable ps))
        → length (cond (a && b) (k ∷ inout_from (suc k) ps) (inout_from (suc k) ps)) ≡ length (filter is_copied (cond a (p ∷ filter is_variable ps) (filter is_variable ps)))
    by_test true true e h = ap suc h ∙ ap (λ c. length (cond c (p ∷ filter is_copied (filter is_variable ps)) (filter is_copied (filter is_variable ps)))) (sym e)
    by_test true false e h = h ∙ ap (λ c. length (cond c (p ∷ filter is_copied (filter is_variable ps)) (filter is_copied (filter is_variable ps)))) (sym e)
    by_test false b e h = h

pub copies_are : (stmts : List Placed) (owner : ℕ) → length (inout_from 0 (places_of stmts owner)) ≡ length (filter is_copied (variables_of stmts owner))
copies_are stmts owner = inout_length 0 (places_of stmts owner) ∙ ap (λ vs. length (filter is_copied vs)) (variables_are stmts owner)

pub drop_front : {A : Type 0} (xs ys : List A) → drop (length xs) (xs ++ ys) ≡ ys
drop_front [] ys = refl
drop_front (x ∷ xs) ys = drop_front xs ys

-- the places behind the variables are the OLD copies
pub copies_behind : (stmts : List Placed) (owner : ℕ)
    → drop (length (variables_in (places_of stmts owner))) (places_of stmts owner) ≡ map old_copy (filter is_copied (variables_of stmts owner))
copies_behind stmts owner =
    let vs = variables_of stmts owner in
    ap (λ ws. drop (length ws) (with_copies vs)) (variables_are stmts owner) ∙ drop_front vs (map old_copy (filter is_copied vs))
