-- Where no region is past its size and no input meets a threat listed, no input meets a threat; and none meets a threat listed as refuted.
use Rattle.std.proofs.Common.{◌≡◌, inl, inr, refl, sym, ap, ◌∙◌, subst, ℕ, Option, None, List, [], ◌∷◌, map}
use Rattle.il_core.specs.LineGraph.{IsIn}
use Rattle.il_core.specs.Procedure.{Procedure}
use Rattle.flow_graph.proofs.Members.{IsIn-append_left, IsIn-append_right}
use Rattle.control_flow.specs.declared.control.LoopInfo.{LoopInfo}
use Rattle.region_paths.specs.Region.{first_lines}
use Rattle.region_paths.specs.Listing.{RegionPath}
use Rattle.region_paths.specs.Size.{IsPast, past_of}
use Rattle.region_paths.specs.declared.limit.Limit.{Limit}
use Rattle.region_paths.specs.Laws.{OneListing}
use Rattle.path_inputs.specs.Least.{HasNoInput}
use Rattle.sym_simplify.specs.Literal.{literal_form_of}
use Rattle.semantic_tables.specs.Row.{forms_of}
use Rattle.compliance.specs.Threat.{IsThreat, AreThreats}
use Rattle.compliance.specs.Verdict.{HasVerdict}
use Rattle.compliance.specs.Safe.{IsTold, AreTold, AreListedWithin, AreThreatsOf, IsUnmet}
use Rattle.compliance.specs.Laws.{ThreatsHaveNoInput}
use Rattle.compliance.specs.declared.threat.Threat.{Threat}
use Rattle.compliance.specs.declared.threat.Verdict.TheVariants.{Refuted}
use Rattle.compliance.proofs.Named.{IsSomeTold, in_all}
use Rattle.compliance.proofs.NoBadRun.{refuted_unmet}

-- the verdict of a path in the list
told_of : (p : Procedure) (pc : ℕ) (rows : List RegionPath) (ts : List Threat) (r : RegionPath) → AreTold p pc rows ts → IsIn rows r
    → (t : Threat) × IsIn ts t × IsTold p pc r t
told_of p pc [] ts r h i = absurd i
told_of p pc (q ∷ rows) [] r h i = absurd h
told_of p pc (q ∷ rows) (t ∷ ts) r h (inl e) = (t, inl refl, subst (λ x. IsTold p pc x t) e h.0)
told_of p pc (q ∷ rows) (t ∷ ts) r h (inr i) = let u = told_of p pc rows ts r h.1 i in (u.0, inr u.1, u.2)

-- a region is past one limit alone, or none
one_limit : (p : Procedure) (loops : List LoopInfo) (pc : ℕ) (a b : Option Limit) → OneListing → IsPast p loops pc a → IsPast p loops pc b → a ≡ b
one_limit p loops pc a b one h k = sym h.2 ∙ ap past_of ((one p loops pc).long h.0 k.0 h.1 k.1) ∙ k.2

-- the threats of a region within its size
unmet_here : (p : Procedure) (loops : List LoopInfo) (pc : ℕ) (past : Option Limit) (ts : List Threat) (r : RegionPath) → past ≡ None → AreListedWithin p loops pc past ts
    → ((t : Threat) → IsIn ts t → IsUnmet p t) → IsThreat p loops pc r → HasNoInput p.places pc (forms_of r)
unmet_here p loops pc past ts r e h all k =
    let l : (rows : List RegionPath) × AreThreats p loops pc rows × AreTold p pc rows ts = subst (λ x. AreListedWithin p loops pc x ts) e h in
    let t = told_of p pc l.0 ts r l.2 ((l.1.each r).1 k) in
    subst (λ q. HasNoInput p.places q (forms_of r)) t.2.region (subst (λ fs. HasNoInput p.places t.0.region fs) t.2.literals (all t.0 t.1))

unmet_among : (p : Procedure) (loops : List LoopInfo) (lines : List ℕ) (ts : List Threat) → OneListing → AreThreatsOf p loops lines ts
    → ((pc : ℕ) → IsIn lines pc → IsPast p loops pc None) → ((t : Threat) → IsIn ts t → IsUnmet p t)
    → (pc : ℕ) (r : RegionPath) → IsIn lines pc → IsThreat p loops pc r → HasNoInput p.places pc (forms_of r)
unmet_among p loops [] ts one a size all pc r i k = absurd i
unmet_among p loops (x ∷ lines) ts one a size all pc r (inl e) k =
    let here : IsThreat p loops x r = subst (λ y. IsThreat p loops y r) (sym e) k in
    let in_all : (t : Threat) → IsIn a.0 t → IsUnmet p t = λ t j. all t (subst (λ y. IsIn y t) (sym a.2) (IsIn-append_left a.0 a.1 t j)) in
    subst (λ y. HasNoInput p.places y (forms_of r)) e
    (unmet_here p loops x a.3 a.0 r (one_limit p loops x a.3 None one a.4 (size x (inl refl))) a.5 in_all here)
unmet_among p loops (x ∷ lines) ts one a size all pc r (inr i) k =
    unmet_among p loops lines a.1 one a.6 (λ y j. size y (inr j)) (λ t j. all t (subst (λ y. IsIn y t) (sym a.2) (IsIn-append_right a.0 a.1 t j))) pc r i k

-- where no region is past its size and no input meets a threat listed, no input meets a threat
pub all_unmet : (p : Procedure) (loops : List LoopInfo) (ts : List Threat) → OneListing → AreThreatsOf p loops (first_lines loops) ts
    → ((pc : ℕ) → IsIn (first_lines loops) pc → IsPast p loops pc None) → ((t : Threat) → IsIn ts t → IsUnmet p t) → ThreatsHaveNoInput p loops
all_unmet p loops ts one a size all pc r i k = unmet_among p loops (first_lines loops) ts one a size all pc r i k

-- no input meets a threat that is listed as refuted
pub listed_refuted : (p : Procedure) (loops : List LoopInfo) (lines : List ℕ) (ts : List Threat) → AreThreatsOf p loops lines ts → (t : Threat) → IsIn ts t → t.verdict ≡ Refuted → IsUnmet p t
listed_refuted p loops lines ts a t i e =
    let u = in_all p loops lines ts t a i in
    let none : HasNoInput p.places u.pc (forms_of u.path) = refuted_unmet p.places u.pc (forms_of u.path) (subst (HasVerdict p u.pc u.path) e u.told.verdict) in
    subst (λ q. HasNoInput p.places q (map literal_form_of t.literals)) (sym u.told.region) (subst (λ fs. HasNoInput p.places u.pc fs) (sym u.told.literals) none)
