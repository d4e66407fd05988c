-- Each threat that is listed for a procedure is such as certificates are checked and made for.
use Rattle.std.proofs.Common.{◌≡◌, ◌↔◌, refl, sym, ap, ◌∙◌, subst, inl, inr, ℕ, ◌^◌, ◌<◌, ◌≤◌, Bool, true, false, Some, None, List, [], ◌∷◌, map, length, arith}
use Rattle.std.specs.Prelude.{All, IfOk, Result, Ok, max, nat_lt, nat_le, sum_by, if◌then◌else◌}
use Rattle.std.proofs.lemmas.Bool.{leb-false}
use Rattle.il_core.specs.LineGraph.{IsIn}
use Rattle.il_core.specs.Procedure.{Procedure}
use Rattle.flow_graph.proofs.Members.{IsIn-append_cases, IsIn-from_map, IsIn-map}
use Rattle.control_flow.specs.declared.control.LoopInfo.{LoopInfo}
use Rattle.sym_terms.specs.Tree.{Tree}
use Rattle.sym_terms.specs.Identity.{own_values}
use Rattle.sym_terms.specs.Places.{HavePlacesBelow}
use Rattle.sym_terms.specs.Comparison.{Comparison, comparison_under, comparison_weight, ComparesPlacesBelow}
use Rattle.sym_terms.specs.Measure.{weight}
use Rattle.sym_terms.proofs.Comparisons.{places_compared}
use Rattle.sym_terms.proofs.Composed.{own_below}
use Rattle.sym_simplify.specs.Easy.{IsKept}
use Rattle.sym_simplify.specs.Literal.{LiteralForm, literal_form_of}
use Rattle.sym_simplify.specs.Places.{HasLiteralPlacesBelow}
use Rattle.sym_simplify.specs.declared.normal.LitForm.{LitForm}
use Rattle.sym_simplify.proofs.KeptBounds.{kept-below}
use Rattle.sym_simplify.proofs.KeptForms.{literal_fits}
use Rattle.sym_simplify.proofs.KeptPlaces.{literal-places}
use Rattle.test_graph.specs.Way.{Way, changed}
use Rattle.test_graph.proofs.Changes.{places-changed}
use Rattle.region_paths.specs.PlainRow.{PlainRow, along}
use Rattle.region_paths.specs.Listing.{RegionPath, IsLongPath}
use Rattle.region_paths.specs.Size.{greatest_by, path_nodes, path_weight, path_depth, limit_passed, IsPast}
use Rattle.region_paths.specs.declared.limit.Limit.TheVariants.{Rows, Nodes, Weight, Depth}
use Rattle.path_inputs.specs.Least.{IsPlainlyRefuted}
use Rattle.path_inputs.proofs.Elements.{members-all}
use Rattle.semantic_tables.specs.Row.{comparison_form, forms_of}
use Rattle.compliance.specs.Safe.{AreThreatsOf}
use Rattle.compliance.specs.Verdict.{HasVerdict}
use Rattle.compliance.specs.declared.threat.Threat.{Threat}
use Rattle.compliance.specs.declared.threat.Verdict.{Verdict}
use Rattle.compliance.specs.declared.threat.Verdict.TheVariants.{Refuted, Shown, Open}
use Rattle.compliance.proofs.Named.{IsSomeTold, in_all}
use Rattle.threat_certs.specs.Settled.{IsSound}

-- the literals along ways are over the places of the terms before them
below_along : (n : ℕ) (ws : List Way) (terms : List Tree) → HavePlacesBelow n terms → (c : Comparison) → IsIn (along ws terms).literals c → ComparesPlacesBelow n c
below_along n [] terms h c i = absurd i
below_along n (w ∷ ws) terms h c i = elim (IsIn-append_cases (map (comparison_under terms) w.literals) (along ws (changed w.change terms)).literals c i) [
  | inl j ↦ let m = IsIn-from_map (comparison_under terms) w.literals c j in subst (ComparesPlacesBelow n) m.2 (places_compared n terms m.0 h)
  | inr j ↦ below_along n ws (changed w.change terms) (places-changed n w.change terms h) c j
]

-- what is greatest of a list is less than a number, so each member's is
each_less : {A : Type 0} (f : A → ℕ) (xs : List A) (k : ℕ) (x : A) → greatest_by f xs < k → IsIn xs x → f x < k
each_less f [] k x h i = absurd i
each_less f (y ∷ xs) k x h (inl e) = subst (λ z. f z < k) e (omega (arith, h))
each_less f (y ∷ xs) k x h (inr i) = each_less f xs k x (omega (arith, h)) i

less_left : (a b k : ℕ) → max a b < k → a < k
less_left a b k h = omega (arith, h)

-- what passes no limit is light
light : (a b w d : ℕ) → limit_passed a b w d ≡ None → w < 2 ^ 100
light a b w d e = by_rows (nat_lt 16384 a) e
  where
    by_weight : (x : Bool) → nat_le (2 ^ 100) w ≡ x → (if x then Some Weight else (if nat_lt 1000 d then Some Depth else None)) ≡ None → w < 2 ^ 100
    by_weight true g h = absurd (cc)
    by_weight false g h = leb-false (2 ^ 100) w g

    by_nodes : (x : Bool) → (if x then Some Nodes else (if nat_le (2 ^ 100) w then Some Weight else (if nat_lt 1000 d then Some Depth else None))) ≡ None → w < 2 ^ 100
    by_nodes true h = absurd (cc)
    by_nodes false h = by_weight (nat_le (2 ^ 100) w) refl h

    by_rows : (x : Bool) → (if x then Some Rows else (if nat_lt 2097152 b then Some Nodes else (if nat_le (2 ^ 100) w then Some Weight else (if nat_lt 1000 d then Some Depth else None)))) ≡ None
        → w < 2 ^ 100
    by_rows true h = absurd (cc)
    by_rows false h = by_nodes (nat_lt 2097152 b) h

-- each literal of a long path of a region within its size is light
light_literal : (p : Procedure) (loops : List LoopInfo) (pc : ℕ) (r : RegionPath) (c : Comparison) → IsPast p loops pc None → IsLongPath p loops pc r → IsIn r.row.literals c
    → comparison_weight c < 2 ^ 100
light_literal p loops pc r c h k i =
    let all : greatest_by path_weight h.0 < 2 ^ 100 = light (length h.0) (sum_by path_nodes h.0) (greatest_by path_weight h.0) (greatest_by path_depth h.0) h.2 in
    let here : path_weight r < 2 ^ 100 = each_less path_weight h.0 (2 ^ 100) r all ((h.1.each r).1 k) in
    each_less comparison_weight r.row.literals (2 ^ 100) c (less_left (greatest_by comparison_weight r.row.literals) (greatest_by weight r.row.assigned) (2 ^ 100) here) i

-- the forms of a long path of a region within its size are over its places, and kept
abbrev IsFit : ℕ → LiteralForm → Type 0
IsFit n f = HasLiteralPlacesBelow n f × IsKept f

fit_form : (p : Procedure) (loops : List LoopInfo) (pc : ℕ) (r : RegionPath) (l : LitForm) → IsPast p loops pc None → IsLongPath p loops pc r
    → IsIn (forms_of r) (literal_form_of l) → IsFit (length p.places) (literal_form_of l)
fit_form p loops pc r l h k i =
    let n = length p.places in
    let m = IsIn-from_map comparison_form r.row.literals (literal_form_of l) i in
    let c : Comparison = m.0 in
    let there : IsIn (along k.ways (own_values n)).literals c = subst (λ (x : PlainRow). IsIn x.literals c) k.row m.1 in
    let places : ComparesPlacesBelow n c = below_along n k.ways (own_values n) (own_below n) c there in
    let form : literal_form_of l ≡ comparison_form c = sym m.2 in (
      subst (HasLiteralPlacesBelow n) m.2 (literal-places n c.relation c.left c.right places.0 places.1),
      kept-below (literal_form_of l) (literal_fits {E = ℕ} (Ok l) c.relation c.left c.right (2 ^ 100) (light_literal p loops pc r c h k m.1) form),
    )

-- a verdict is that a path is refuted exactly where it is plainly refuted
judged : (p : Procedure) (pc : ℕ) (r : RegionPath) (v : Verdict) → HasVerdict p pc r v → (v ≡ Refuted) ↔ IsPlainlyRefuted p.places pc (forms_of r)
judged p pc r Refuted h = ((λ e. h), (λ k. refl))
judged p pc r (Shown s) h = ((λ e. absurd cc), (λ k. absurd (h.0.not_refuted k)))
judged p pc r (Open i) h = ((λ e. absurd cc), (λ k. absurd (h.1.not_refuted k)))

pub listed_sound : (p : Procedure) (loops : List LoopInfo) (lines : List ℕ) (ts : List Threat) (t : Threat) → AreThreatsOf p loops lines ts → IsIn ts t → IsSound p.places t
listed_sound p loops lines ts t a i =
    let u = in_all p loops lines ts t a i in
    let n = length p.places in
    let fit : (l : LitForm) → IsIn t.literals l → IsFit n (literal_form_of l) =
    λ l j. fit_form p loops u.pc u.path l u.within u.threat.path (subst (λ fs. IsIn fs (literal_form_of l)) u.told.literals (IsIn-map literal_form_of t.literals l j)) in
    record {
      below = members-all (λ l. HasLiteralPlacesBelow n (literal_form_of l)) t.literals (λ l j. (fit l j).0);
      kept = members-all (λ l. IsKept (literal_form_of l)) t.literals (λ l j. (fit l j).1);
      judged =
          let here = judged p u.pc u.path t.verdict u.told.verdict in
          subst (λ q. (t.verdict ≡ Refuted) ↔ IsPlainlyRefuted p.places q (map literal_form_of t.literals)) (sym u.told.region)
          (subst (λ fs. (t.verdict ≡ Refuted) ↔ IsPlainlyRefuted p.places u.pc fs) (sym u.told.literals) here);
    }
