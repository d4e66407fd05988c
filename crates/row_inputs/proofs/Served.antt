-- The test inputs of the rows of a table lead to the rows' stops, and rows in the core have one.
use Rattle.std.proofs.Common.{◌≡◌, inl, inr, refl, sym, ap, ◌∙◌, subst, ℕ, zero, suc, Option, Some, List, [], ◌∷◌, map, slice_get}
use Rattle.std.proofs.lemmas.Option.{same_Some}
use Rattle.il_core.specs.Evaluation.{State}
use Rattle.il_core.specs.LineGraph.{IsIn}
use Rattle.il_core.specs.Procedure.{Procedure}
use Rattle.control_flow.specs.declared.control.LoopInfo.{LoopInfo}
use Rattle.sym_simplify.specs.Form.{form_value}
use Rattle.region_paths.specs.Laws.{BeginsRegion}
use Rattle.region_paths.specs.Listing.{RegionPath}
use Rattle.region_paths.specs.Stepping.{StepsTo}
use Rattle.path_inputs.specs.Laws.{AreInCore}
use Rattle.semantic_tables.specs.Row.{NormalRow, row_of, normal_row}
use Rattle.semantic_tables.specs.Table.{IsOpenPath, AreRowsOf}
use Rattle.semantic_tables.specs.declared.row.Row.{Row}
use Rattle.row_inputs.specs.Input.{IsTestInput, TestInputIs, TestInputsAre}
use Rattle.row_inputs.specs.Laws.{TestInputsLeadToStops, EasyRowsHaveInputs, ServeRows}

-- the path whose row stands at a place
path_at : (paths : List RegionPath) (k : ℕ) (r : NormalRow) → slice_get (map normal_row paths) k ≡ Some r → (x : RegionPath) × IsIn paths x × (normal_row x ≡ r)
path_at [] k r e = absurd cc
path_at (x ∷ paths) zero r e = (x, inl refl, same_Some (normal_row x) r e)
path_at (x ∷ paths) (suc k) r e = let t = path_at paths k r e in (t.0, inr t.1, t.2)

-- what is answered at the place of a row
input_at : (p : Procedure) (loops : List LoopInfo) (pc : ℕ) (rows : List NormalRow) (os : List (Option State)) (k : ℕ) (r : NormalRow) → TestInputsAre p loops pc rows os
    → slice_get rows k ≡ Some r → (o : Option State) × (slice_get os k ≡ Some o) × TestInputIs p loops pc r o
input_at p loops pc [] os k r t e = absurd cc
input_at p loops pc (x ∷ rows) [] k r t e = absurd t
input_at p loops pc (x ∷ rows) (o ∷ os) zero r t e = (o, refl, subst (λ y. TestInputIs p loops pc y o) (same_Some x r e) t.0)
input_at p loops pc (x ∷ rows) (o ∷ os) (suc k) r t e = input_at p loops pc rows os k r t.1 e

pub serve : (p : Procedure) (loops : List LoopInfo) (pc : ℕ) (rows : List Row) (os : List (Option State)) → TestInputsLeadToStops → EasyRowsHaveInputs → BeginsRegion p loops pc
    → AreRowsOf (IsOpenPath p loops pc) rows → TestInputsAre p loops pc (map row_of rows) os → ServeRows p loops pc (map row_of rows) os
serve p loops pc rows os stops have b a t = record { leads = leads; easy = easy }
  where
    path : (k : ℕ) (r : NormalRow) → slice_get (map row_of rows) k ≡ Some r → (x : RegionPath) × IsOpenPath p loops pc x × (normal_row x ≡ r)
    path k r e = let g = path_at a.0 k r (ap (λ l. slice_get l k) (sym a.2) ∙ e) in (g.0, (a.1.each g.0).0 g.1, g.2)

    leads : (k : ℕ) (r : NormalRow) (s : State) → slice_get (map row_of rows) k ≡ Some r → slice_get os k ≡ Some (Some s)
        → StepsTo p loops pc s r.stop (map (λ f. form_value f s) r.values)
    leads k r s e f =
        let g = path k r e in
        let u = input_at p loops pc (map row_of rows) os k r t e in
        let own : IsTestInput p loops pc r s = subst (TestInputIs p loops pc r) (same_Some u.0 (Some s) (sym u.1 ∙ f)) u.2 in
        subst (λ (n : NormalRow). StepsTo p loops pc s n.stop (map (λ f. form_value f s) n.values)) g.2
        (stops p loops pc g.0 s b g.1.0 (subst (λ (n : NormalRow). IsTestInput p loops pc n s) (sym g.2) own))

    easy : (k : ℕ) (r : NormalRow) → slice_get (map row_of rows) k ≡ Some r → AreInCore r.literals → (s : State) × (slice_get os k ≡ Some (Some s))
    easy k r e core =
        let g = path k r e in
        let u = input_at p loops pc (map row_of rows) os k r t e in
        let v =
        have p loops pc g.0 u.0 b g.1.0 g.1.1 (subst (λ (n : NormalRow). AreInCore n.literals) (sym g.2) core)
        (subst (λ (n : NormalRow). TestInputIs p loops pc n u.0) (sym g.2) u.2) in
        (v.0, u.1 ∙ ap Some v.1)
