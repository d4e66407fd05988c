-- The test inputs of rows, one more at a time, and whether there is one.
use Rattle.std.proofs.Common.{◌≡◌, ◌⊎◌, inl, inr, refl, sym, ap, ◌∙◌, subst, ℕ, suc, ◌+◌, ◌<◌, ◌≤◌, Bool, true, false, Option, Some, None, List, [], ◌∷◌, ◌++◌, map, length, take, get_or, arith}
use Rattle.std.proofs.Math.Seq.{take-suc}
use Rattle.std.proofs.lemmas.List.{map-append}
use Rattle.std.specs.Prelude.{IsTrue, ◌↔◌}
use Rattle.il_core.specs.Evaluation.{State}
use Rattle.il_core.specs.Procedure.{Procedure}
use Rattle.il_core.specs.declared.line.Place.{Place}
use Rattle.sym_simplify.specs.Literal.{literal_form_of}
use Rattle.sym_simplify.specs.declared.normal.LitForm.{LitForm}
use Rattle.control_flow.specs.declared.control.LoopInfo.{LoopInfo}
use Rattle.test_graph.specs.Laws.{WaysAreSteps}
use Rattle.region_paths.specs.Laws.{BeginsRegion}
use Rattle.region_paths.specs.Listing.{RegionPath, IsShortPath}
use Rattle.path_inputs.specs.Least.{IsPlainlyRefuted, IsLeastInput}
use Rattle.path_inputs.specs.Laws.{AreInCore, LeastMeetsCore}
use Rattle.semantic_tables.specs.Row.{NormalRow, forms_of, row_of, normal_row}
use Rattle.semantic_tables.specs.declared.row.Row.{Row}
use Rattle.row_inputs.specs.Input.{TakesRow, IsTestInput, HasNoTestInput, TestInputIs, TestInputsAre}
use Rattle.row_inputs.proofs.Stepped.{TakesWithin}
use Rattle.row_inputs.proofs.Few.{few}
use Rattle.row_inputs.proofs.Taking.{input_in_range, row_taken}

-- one more row
pub inputs_more : (p : Procedure) (loops : List LoopInfo) (pc : ℕ) (rows : List NormalRow) (os : List (Option State)) (r : NormalRow) (o : Option State)
    → TestInputsAre p loops pc rows os → TestInputIs p loops pc r o → TestInputsAre p loops pc (rows ++ r ∷ []) (os ++ o ∷ [])
inputs_more p loops pc [] [] r o k h = (h, tt)
inputs_more p loops pc [] (x ∷ os) r o k h = absurd k
inputs_more p loops pc (y ∷ rows) [] r o k h = absurd k
inputs_more p loops pc (y ∷ rows) (x ∷ os) r o k h = (k.0, inputs_more p loops pc rows os r o k.1 h)

-- a row whose literals are all in the core
pub easy_has : (p : Procedure) (loops : List LoopInfo) (pc : ℕ) (r : RegionPath) (o : Option State) → WaysAreSteps → LeastMeetsCore → BeginsRegion p loops pc
    → IsShortPath p loops pc r → (IsPlainlyRefuted p.places pc (forms_of r) → ⊥) → AreInCore (forms_of r) → TestInputIs p loops pc (normal_row r) o → (s : State) × (o ≡ Some s)
easy_has p loops pc r (Some s) law meets b k not core t = (s, refl)
easy_has p loops pc r None law meets b k not core (inl refuted) = absurd (not refuted)
easy_has p loops pc r None law meets b k not core (inr t) = absurd (t.2 (row_taken p loops pc r t.0 law b k (meets p.places pc (forms_of r) t.0 core t.1)))

not_true : (b : Bool) → b ≡ false → IsTrue b → ⊥
not_true b e t = let x : false ≡ true = subst IsTrue e t in absurd cc

-- a least input that does not take the row in few steps does not take it
pub no_input : (p : Procedure) (loops : List LoopInfo) (pc : ℕ) (row : Row) (s : State) (places : List Place) (literals : List LitForm) (input : State) (path : List Bool) (room : ℕ)
    (answer : Bool) → BeginsRegion p loops pc → places ≡ p.places → literals ≡ row.literals → input ≡ s → path ≡ row.path → room ≡ length p.lines + 1
    → IsLeastInput places pc (map literal_form_of literals) s → IsTrue answer ↔ TakesWithin p loops room pc input path row.stop → answer ≡ false
    → HasNoTestInput p loops pc (row_of row)
no_input p loops pc row s places literals input path room answer b e_places e_literals e_input e_path e_room least says untaken = inr (s, own, never)
  where
    own : IsLeastInput p.places pc (map literal_form_of row.literals) s
    own = subst (λ x. IsLeastInput p.places pc (map literal_form_of x) s) e_literals (subst (λ x. IsLeastInput x pc (map literal_form_of literals) s) e_places least)

    within : TakesRow p loops pc s (row_of row) → TakesWithin p loops room pc input path row.stop
    within t =
        let most = few p loops pc s t.0 row.path row.stop b (input_in_range p.places pc s own.met.input) t.1 in
        let here : TakesWithin p loops room pc s row.path row.stop = (t.0, omega (arith, most, e_room), t.1) in
        subst (λ x. TakesWithin p loops room pc x path row.stop) (sym e_input) (subst (λ x. TakesWithin p loops room pc s x row.stop) (sym e_path) here)

    never : TakesRow p loops pc s (row_of row) → ⊥
    never t = not_true answer untaken (says.1 (within t))

-- a least input that takes the row in few steps is its test input
pub has_input : (p : Procedure) (loops : List LoopInfo) (pc : ℕ) (row : Row) (s : State) (places : List Place) (literals : List LitForm) (input : State) (path : List Bool) (room : ℕ)
    (answer : Bool) → places ≡ p.places → literals ≡ row.literals → input ≡ s → path ≡ row.path → IsLeastInput places pc (map literal_form_of literals) s
    → IsTrue answer ↔ TakesWithin p loops room pc input path row.stop → answer ≡ true → IsTestInput p loops pc (row_of row) s
has_input p loops pc row s places literals input path room answer e_places e_literals e_input e_path least says taken = (own, (within.0, within.2))
  where
    own : IsLeastInput p.places pc (map literal_form_of row.literals) s
    own = subst (λ x. IsLeastInput p.places pc (map literal_form_of x) s) e_literals (subst (λ x. IsLeastInput x pc (map literal_form_of literals) s) e_places least)

    within : TakesWithin p loops room pc s row.path row.stop
    within =
        subst (λ x. TakesWithin p loops room pc x row.path row.stop) e_input
        (subst (λ x. TakesWithin p loops room pc input x row.stop) e_path (says.0 taken))

-- the next row
pub inputs_next : (p : Procedure) (loops given : List LoopInfo) (pc : ℕ) (rows : List Row) (i : ℕ) (x : Row) (os after : List (Option State)) (o : Option State) → given ≡ loops
    → i < length rows → x ≡ get_or rows i x → TestInputsAre p loops pc (map row_of (take i rows)) os → TestInputIs p given pc (row_of x) o → after ≡ os ++ o ∷ []
    → TestInputsAre p loops pc (map row_of (take (i + 1) rows)) after
inputs_next p loops given pc rows i x os after o e_loops inside is k h e =
    subst (TestInputsAre p loops pc (map row_of (take (i + 1) rows))) (sym e)
    (subst (λ l. TestInputsAre p loops pc l (os ++ o ∷ [])) (sym more)
    (inputs_more p loops pc (map row_of (take i rows)) os (row_of x) o k (subst (λ l. TestInputIs p l pc (row_of x) o) e_loops h)))
  where
    front : take (i + 1) rows ≡ take i rows ++ x ∷ []
    front = let next : i + 1 ≡ suc i = omega arith in ap (λ n. take n rows) next ∙ take-suc rows i x inside ∙ ap (λ y. take i rows ++ y ∷ []) (sym is)

    more : map row_of (take (i + 1) rows) ≡ map row_of (take i rows) ++ row_of x ∷ []
    more = ap (map row_of) front ∙ map-append row_of (take i rows) (x ∷ [])
