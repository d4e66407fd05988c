-- What a CALL gives suits the parameters of the procedure that it names.
use Rattle.std.proofs.Common.{◌≡◌, ℕ, zero, suc, ◌<◌, ◌≤◌, ◌∙◌, sym, ap, subst, refl, inl, inr, nat_eq, not, Bool, true, false, ◌||◌, List, [], ◌∷◌, ◌++◌, length, if◌then◌else◌, arith}
use Rattle.std.specs.Prelude.{Option, Some, None, is_some, map, filter, filter_map}
use Rattle.std.specs.List.{list_all, cons_option}
use Rattle.std.proofs.lemmas.List.{map-append}
use Rattle.std.proofs.lemmas.List.Elements.{filter-append}
use Rattle.il_core.specs.Expression.{Expression}
use Rattle.il_core.specs.Statement.{Statement, Placed, variable}
use Rattle.il_core.specs.Tree.{Tree}
use Rattle.il_core.specs.declared.line.Place.{Place}
use Rattle.il_core.specs.declared.statement.Mode.{Mode}
use Rattle.il_core.specs.declared.statement.Mode.TheVariants as mode
use Rattle.il_types.specs.Built.{built, assigned_place}
use Rattle.il_types.specs.Names.{Setting, counts_at}
use Rattle.il_types.specs.Typing.{is_truth}
use Rattle.il_built.specs.CheckedText.{of_procedure, declared_place, variables_of}
use Rattle.il_built.specs.Holding.{setting_at}
use Rattle.il_built.proofs.BuiltSorts.{both_true}
use Rattle.il_built.proofs.Given.{given_by, given_next, stands, given_here, not_given}
use Rattle.std.proofs.lemmas.Bool.{cases_eq}
use Rattle.il_called.specs.Called.{value, variable_of}
use Rattle.il_called.specs.CalledText.{SuitsMode, Suit, returned_to}
use Rattle.il_called.specs.Expansion.{is_parameter, is_returned}
use Rattle.call_rules.specs.declared.parameters.Parameter.{Parameter}
use Rattle.call_rules.specs.Callee.{Pairing, paired, pairings}
use Rattle.call_rules.specs.Calls.{single_name, back_to}
use Rattle.call_rules.specs.CalledText.{passed}
use Rattle.call_rules.specs.Fits.{is_one_each, is_suited}
use Rattle.call_rules.specs.Parameters.{declared_parameter, parameters}

-- the mode of a variable or a parameter, and whether it holds truth values
abbrev pub sort_of : Place → Mode × Bool
sort_of v = (v.mode, v.flag)

abbrev pub parameter_sort : Parameter → Mode × Bool
parameter_sort p = (p.mode, is_truth p.kind)

abbrev pub sorts_of : List Place → List (Mode × Bool)
sorts_of vs = map sort_of (filter (λ (v : Place). is_parameter v.mode) vs)

abbrev pub parameter_sorts : List Parameter → List (Mode × Bool)
parameter_sorts ps = map parameter_sort ps

declared_sorts : (s : Setting) (x : Statement) → sorts_of (declared_place s x) ≡ parameter_sorts (declared_parameter s x)
declared_sorts s (variable mode.Input name used) = refl
declared_sorts s (variable mode.InOut name used) = refl
declared_sorts s (variable mode.Output name used) = refl
declared_sorts s (variable mode.Local name used) = refl
declared_sorts s _ = refl

-- one statement gives a procedure as many of both, with the same modes and kinds
sorts_here : (stmts : List Placed) (owner i : ℕ) → i < length stmts
    → sorts_of (of_procedure (λ k x. declared_place (setting_at stmts k) x) stmts owner i) ≡ parameter_sorts (of_procedure (λ k x. declared_parameter (setting_at stmts k) x) stmts owner i)
sorts_here stmts owner i h =
    let places = λ (k : ℕ) (x : Statement). declared_place (setting_at stmts k) x in
    let params = λ (k : ℕ) (x : Statement). declared_parameter (setting_at stmts k) x in
    let x = stands stmts i h in
    elim (cases_eq (counts_at stmts i).procedures owner) [
      | inl e ↦ ap sorts_of (given_here places stmts owner i x.0 x.1 e) ∙ declared_sorts (setting_at stmts i) x.0.says
          ∙ sym (ap parameter_sorts (given_here params stmts owner i x.0 x.1 e))
      | inr e ↦ ap sorts_of (not_given places stmts owner i x.0 x.1 e) ∙ sym (ap parameter_sorts (not_given params stmts owner i x.0 x.1 e))
    ]

sorts_append : (vs ws : List Place) → sorts_of (vs ++ ws) ≡ sorts_of vs ++ sorts_of ws
sorts_append vs ws =
    let p = λ (v : Place). is_parameter v.mode in
    ap (map sort_of) (filter-append p vs ws) ∙ map-append sort_of (filter p vs) (filter p ws)

-- the parameters among the variables that the first statements give have the modes and kinds of the parameters that they give
sorts_by : (stmts : List Placed) (owner n : ℕ) → n ≤ length stmts
    → sorts_of (given_by (λ i x. declared_place (setting_at stmts i) x) stmts owner n) ≡ parameter_sorts (given_by (λ i x. declared_parameter (setting_at stmts i) x) stmts owner n)
sorts_by stmts owner zero h = refl
sorts_by stmts owner (suc n) h =
    let places = λ (k : ℕ) (x : Statement). declared_place (setting_at stmts k) x in
    let params = λ (k : ℕ) (x : Statement). declared_parameter (setting_at stmts k) x in
    ap sorts_of (given_next places stmts owner n) ∙ sorts_append (given_by places stmts owner n) (of_procedure places stmts owner n)
    ∙ ap (λ xs. xs ++ sorts_of (of_procedure places stmts owner n)) (sorts_by stmts owner n (omega arith))
    ∙ ap (λ xs. parameter_sorts (given_by params stmts owner n) ++ xs) (sorts_here stmts owner n (omega arith))
    ∙ sym (ap parameter_sorts (given_next params stmts owner n) ∙ map-append parameter_sort (given_by params stmts owner n) (of_procedure params stmts owner n))

pub same_sorts : (stmts : List Placed) (owner : ℕ) → sorts_of (variables_of stmts owner) ≡ parameter_sorts (parameters stmts owner)
same_sorts stmts owner = sorts_by stmts owner (length stmts) (omega arith)

-- what one parameter is given
suits_one : (b : Bool) (o : Option (List ℕ)) (e : Expression) (f : List ℕ → ℕ) → (not b || is_some o) ≡ true
    → SuitsMode b (elim (if b then o else None) [ None ↦ value e | Some name ↦ variable_of (f name) ])
suits_one true None e f h = absurd (cc)
suits_one true (Some name) e f h = tt
suits_one false o e f h = tt

-- lists with the same modes and kinds begin alike and go on alike
pub first_sort : (v : Place) (p : Parameter) (vs : List Place) (ps : List Parameter) → map sort_of (v ∷ vs) ≡ parameter_sorts (p ∷ ps)
    → (sort_of v ≡ parameter_sort p) × (map sort_of vs ≡ parameter_sorts ps)
first_sort v p vs ps m = (cc, cc)

-- one argument for each
pub all_suit : (s : Setting) (vs : List Place) (ps : List Parameter) (es : List Tree) → map sort_of vs ≡ parameter_sorts ps → is_one_each ps es ≡ true
    → list_all is_suited (pairings ps es) ≡ true → Suit vs (map (passed s) (pairings ps es))
all_suit s [] [] [] m one all = tt
all_suit s [] [] (e ∷ es) m one all = absurd (none (length es) one)
  where
    none : (n : ℕ) → nat_eq 0 (suc n) ≡ true → ⊥
    none n h = grind arith
all_suit s [] (p ∷ ps) es m one all = absurd (cc)
all_suit s (v ∷ vs) [] es m one all = absurd (cc)
all_suit s (v ∷ vs) (p ∷ ps) [] m one all = absurd (some (length ps) one)
  where
    some : (n : ℕ) → nat_eq (suc n) 0 ≡ true → ⊥
    some n h = grind arith
all_suit s (v ∷ vs) (p ∷ ps) (e ∷ es) m one all =
    let same = first_sort v p vs ps m in
    let first : v.mode ≡ p.mode = ap (λ q. q.0) same.0 in
    let rest = same.1 in
    let both = both_true (is_suited (paired (Some p) e)) (list_all is_suited (pairings ps es)) all in (
      subst (λ (k : Mode). SuitsMode (is_returned k) (passed s (paired (Some p) e))) (sym first) (suits_one (is_returned p.mode) (single_name e) (built s e) (assigned_place s) both.0),
      all_suit s vs ps es rest (fewer (length ps) (length es) one) both.1,
    )
  where
    fewer : (a b : ℕ) → nat_eq (suc a) (suc b) ≡ true → nat_eq a b ≡ true
    fewer a b h = grind arith

-- the variables that are handed back to are those of the single names
pub returned_are : (s : Setting) (gs : List Pairing) → returned_to (map (passed s) gs) ≡ map (assigned_place s) (filter_map back_to gs)
returned_are s [] = refl
returned_are s (g ∷ gs) = by (back_to g) (built s g.argument) (returned_are s gs)
  where
    by : (o : Option (List ℕ)) (e : Expression) → returned_to (map (passed s) gs) ≡ map (assigned_place s) (filter_map back_to gs)
        → returned_to (elim o [ None ↦ value e | Some name ↦ variable_of (assigned_place s name) ] ∷ map (passed s) gs)
        ≡ map (assigned_place s) (cons_option o (filter_map back_to gs))
    by None e h = h
    by (Some name) e h = ap (λ ps. assigned_place s name ∷ ps) h
