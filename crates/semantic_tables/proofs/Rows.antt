-- A list of the rows of paths of which each state takes one has exactly one row for each state.
use Rattle.std.proofs.Common.{◌≡◌, inl, inr, refl, sym, ap, ◌∙◌, subst, ℕ, zero, suc, true, Some, List, [], ◌∷◌, map, slice_get}
use Rattle.std.proofs.lemmas.Option.{same_Some}
use Rattle.il_core.specs.Evaluation.{State}
use Rattle.il_core.specs.LineGraph.{IsIn}
use Rattle.il_core.specs.declared.line.Stop.{Stop}
use Rattle.sym_simplify.specs.Laws.{NormalTermsKeepValues}
use Rattle.test_graph.specs.Way.{all_hold}
use Rattle.region_paths.specs.Listing.{RegionPath, Ascend}
use Rattle.region_paths.specs.Stepping.{TakesOne}
use Rattle.region_paths.proofs.Orders.{is_before-itself}
use Rattle.semantic_tables.specs.Row.{NormalRow, row_of, normal_row}
use Rattle.semantic_tables.specs.Table.{AreRowsOf}
use Rattle.semantic_tables.specs.OneRow.{forms_hold, HasOneRow}
use Rattle.semantic_tables.specs.declared.row.Row.{Row}
use Rattle.semantic_tables.proofs.Holding.{forms_hold-same, values-same}

-- a member stands at some place, and what stands at a place is a member
in-place : {A : Type 0} (xs : List A) (i : ℕ) (x : A) → slice_get xs i ≡ Some x → IsIn xs x
in-place [] i x e = absurd cc
in-place (y ∷ xs) zero x e = inl (same_Some y x e)
in-place (y ∷ xs) (suc i) x e = inr (in-place xs i x e)

place-of : {A : Type 0} (xs : List A) (x : A) → IsIn xs x → (i : ℕ) × (slice_get xs i ≡ Some x)
place-of [] x h = absurd h
place-of (y ∷ xs) x (inl e) = (0, ap Some e)
place-of (y ∷ xs) x (inr h) = let r = place-of xs x h in (suc r.0, r.1)

-- what stands at a place of a mapped list
get-map : {A B : Type 0} (f : A → B) (xs : List A) (k : ℕ) (x : A) → slice_get xs k ≡ Some x → slice_get (map f xs) k ≡ Some (f x)
get-map f [] k x e = absurd cc
get-map f (y ∷ xs) zero x e = ap (λ z. Some (f z)) (same_Some y x e)
get-map f (y ∷ xs) (suc k) x e = get-map f xs k x e

got-map : {A B : Type 0} (f : A → B) (xs : List A) (k : ℕ) (y : B) → slice_get (map f xs) k ≡ Some y → (x : A) × (slice_get xs k ≡ Some x) × (f x ≡ y)
got-map f [] k y e = absurd cc
got-map f (x ∷ xs) zero y e = (x, refl, same_Some (f x) y e)
got-map f (x ∷ xs) (suc k) y e = got-map f xs k y e

-- the first of paths in order is none of those behind it
first_alone : (x : RegionPath) (rows : List RegionPath) → Ascend (x ∷ rows) → IsIn rows x → ⊥
first_alone x rows a i = is_before-itself x.row.path (a.0 x i)

-- a path stands at one place of a list in order
one_place : (rows : List RegionPath) (r : RegionPath) (i j : ℕ) → Ascend rows → slice_get rows i ≡ Some r → slice_get rows j ≡ Some r → i ≡ j
one_place [] r i j a e f = absurd cc
one_place (x ∷ rows) r zero zero a e f = refl
one_place (x ∷ rows) r zero (suc j) a e f = absurd (first_alone x rows a (subst (IsIn rows) (sym (same_Some x r e)) (in-place rows j r f)))
one_place (x ∷ rows) r (suc i) zero a e f = absurd (first_alone x rows a (subst (IsIn rows) (sym (same_Some x r f)) (in-place rows i r e)))
one_place (x ∷ rows) r (suc i) (suc j) a e f = ap suc (one_place rows r i j a.1 e f)

-- the rows of listed paths, where the path that the state takes is listed, and all listed ones are among those of which it takes one
pub one_row : (P Q : RegionPath → Type 0) (Leads : Stop → State → Type 0) (rows : List Row) (s : State) → NormalTermsKeepValues → AreRowsOf P rows → (t : TakesOne Q Leads s)
    → P t.path → ((r : RegionPath) → P r → Q r) → HasOneRow (map row_of rows) Leads s
one_row P Q Leads rows s keep a t there part = subst (λ l. HasOneRow l Leads s) (sym a.2) (record {
  index = place.0;
  row = normal_row t.path;
  there = get-map normal_row a.0 place.0 t.path place.1;
  holds = forms_hold-same t.path.row.literals s ∙ t.holds;
  only = alone;
  leads = subst (Leads t.path.stop) (sym (values-same t.path.row.values s keep)) t.leads;
})
  where
    place : (i : ℕ) × (slice_get a.0 i ≡ Some t.path)
    place = place-of a.0 t.path ((a.1.each t.path).1 there)

    alone : (j : ℕ) (other : NormalRow) → slice_get (map normal_row a.0) j ≡ Some other → forms_hold other.literals s ≡ true → j ≡ place.0
    alone j other e h =
        let g = got-map normal_row a.0 j other e in
        let holds : all_hold g.0.row.literals s ≡ true = sym (forms_hold-same g.0.row.literals s) ∙ ap (λ (n : NormalRow). forms_hold n.literals s) g.2 ∙ h in
        let same : g.0 ≡ t.path = t.only g.0 (part g.0 ((a.1.each g.0).0 (in-place a.0 j g.0 g.1))) holds in
        one_place a.0 t.path j place.0 a.1.ordered (g.1 ∙ ap Some same) place.1
