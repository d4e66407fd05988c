-- Where the least input of a threat does not take it, some literal of it is loose, and so one is the first.
use Rattle.std.proofs.Common.{◌≡◌, ◌⊎◌, inl, inr, refl, sym, ◌∙◌, subst, ℕ, zero, suc, ◌<◌, ◌≤◌, Bool, true, false, Option, Some, None, List, length, take, slice_get, arith}
use Rattle.std.specs.Prelude.{filter}
use Rattle.std.proofs.lemmas.Bool.{cases_lt}
use Rattle.std.proofs.lemmas.Option.{same_Some}
use Rattle.il_core.specs.Evaluation.{State}
use Rattle.il_core.specs.Procedure.{Procedure}
use Rattle.control_flow.specs.declared.control.LoopInfo.{LoopInfo}
use Rattle.sym_simplify.specs.Literal.{LiteralForm}
use Rattle.sym_simplify.specs.Easy.{is_easy}
use Rattle.test_graph.specs.Laws.{WaysAreSteps}
use Rattle.region_paths.specs.Listing.{RegionPath}
use Rattle.region_paths.specs.Laws.{BeginsRegion}
use Rattle.path_inputs.specs.Core.{is_disequality, IsLoose}
use Rattle.path_inputs.specs.Least.{IsLeastInput}
use Rattle.path_inputs.specs.Laws.{AreInCore, LeastMeetsCore, UnmetIsLoose}
use Rattle.semantic_tables.specs.Row.{forms_of}
use Rattle.compliance.specs.Threat.{IsThreat}
use Rattle.compliance.specs.Verdict.{TakesPath, IsFirstLoose}
use Rattle.compliance.proofs.Taking.{threat_taken}

-- a form is loose or not
abbrev pub IsLooseForm : List LiteralForm → ℕ → LiteralForm → Type 0
IsLooseForm fs i f = (is_easy f ≡ false) ⊎ ((is_disequality f ≡ true) × (8 ≤ length (filter is_disequality (take i fs))))

form_loose : (fs : List LiteralForm) (i : ℕ) (f : LiteralForm) → IsLooseForm fs i f ⊎ (IsLooseForm fs i f → ⊥)
form_loose fs i f = by_ease (is_easy f) refl
  where
    by_count : is_easy f ≡ true → is_disequality f ≡ true → IsLooseForm fs i f ⊎ (IsLooseForm fs i f → ⊥)
    by_count e d = elim (cases_lt (length (filter is_disequality (take i fs))) 8) [
      | inl low ↦ inr (λ l. elim l [ inl h ↦ let x : true ≡ false = sym e ∙ h in absurd cc | inr h ↦ let m = h.1 in omega (arith, m, low) ])
      | inr high ↦ inl (inr (d, high))
    ]

    by_kind : is_easy f ≡ true → (b : Bool) → is_disequality f ≡ b → IsLooseForm fs i f ⊎ (IsLooseForm fs i f → ⊥)
    by_kind e true d = by_count e d
    by_kind e false d = inr (λ l. elim l [ inl h ↦ let x : true ≡ false = sym e ∙ h in absurd cc | inr h ↦ let x : true ≡ false = sym h.0 ∙ d in absurd cc ])

    by_ease : (b : Bool) → is_easy f ≡ b → IsLooseForm fs i f ⊎ (IsLooseForm fs i f → ⊥)
    by_ease true e = by_kind e (is_disequality f) refl
    by_ease false e = inl (inl e)

-- the form at a place is loose or not
place_loose : (fs : List LiteralForm) (i : ℕ) → IsLoose fs i ⊎ (IsLoose fs i → ⊥)
place_loose fs i = by_form (slice_get fs i) refl
  where
    by_form : (o : Option LiteralForm) → slice_get fs i ≡ o → IsLoose fs i ⊎ (IsLoose fs i → ⊥)
    by_form None e = inr (λ l. let x : None ≡ Some l.0 = sym e ∙ l.1 in absurd cc)
    by_form (Some f) e = elim (form_loose fs i f) [
      | inl h ↦ inl (f, e, h)
      | inr n ↦ inr (λ l. n (subst (IsLooseForm fs i) (same_Some l.0 f (sym l.1 ∙ e)) l.2))
    ]

-- below n a first place is loose, or none is
first_below : (fs : List LiteralForm) (n : ℕ) → ((i : ℕ) × IsFirstLoose fs i) ⊎ ((j : ℕ) → j < n → IsLoose fs j → ⊥)
first_below fs zero = inr (λ j l h. absurd (omega arith))
first_below fs (suc n) = elim (first_below fs n) [
  | inl t ↦ inl t
  | inr none ↦ elim (place_loose fs n) [
    | inl here ↦ inl (n, (here, none))
    | inr not ↦ inr (λ j l h. elim (cases_lt j n) [ inl low ↦ none j low h | inr high ↦ let e : j ≡ n = omega (arith, high, l) in not (subst (IsLoose fs) e h) ])
  ]
]

first_loose : (fs : List LiteralForm) (i : ℕ) → IsLoose fs i → (j : ℕ) × IsFirstLoose fs j
first_loose fs i h = elim (first_below fs (suc i)) [ inl t ↦ t | inr none ↦ absurd (none i (omega arith) h) ]

-- where the least input does not take a threat, it has a first loose literal
pub open_named : (p : Procedure) (loops : List LoopInfo) (pc : ℕ) (r : RegionPath) (s : State) → WaysAreSteps → UnmetIsLoose → BeginsRegion p loops pc → IsThreat p loops pc r
    → IsLeastInput p.places pc (forms_of r) s → (TakesPath p pc s r → ⊥) → (i : ℕ) × IsFirstLoose (forms_of r) i
open_named p loops pc r s law loose b k least not =
    let t = loose p.places pc (forms_of r) s least (λ m. not (threat_taken p loops pc r s law b k m)) in
    first_loose (forms_of r) t.0 t.1

-- where each literal of a threat is easy and in the core, the least input takes it
pub least_takes : (p : Procedure) (loops : List LoopInfo) (pc : ℕ) (r : RegionPath) (s : State) → WaysAreSteps → LeastMeetsCore → BeginsRegion p loops pc → IsThreat p loops pc r
    → AreInCore (forms_of r) → IsLeastInput p.places pc (forms_of r) s → TakesPath p pc s r
least_takes p loops pc r s law meets b k core least = threat_taken p loops pc r s law b k (meets p.places pc (forms_of r) s core least)
