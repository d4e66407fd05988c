-- The literal that an open threat of a list names is there, and compares a term.
use Rattle.std.proofs.Common.{◌≡◌, ◌⊎◌, inl, inr, refl, ap, ◌∙◌, subst, ℕ, ◌≤◌, ℤ, true, false, Option, Some, None, List, [], ◌∷◌, map, length, take, slice_get, filter}
use Rattle.il_core.specs.LineGraph.{IsIn}
use Rattle.il_core.specs.Procedure.{Procedure}
use Rattle.flow_graph.proofs.Members.{IsIn-append_cases}
use Rattle.control_flow.specs.declared.control.LoopInfo.{LoopInfo}
use Rattle.il_core.specs.declared.operator.Relation.{Relation}
use Rattle.sym_simplify.specs.Form.{Form}
use Rattle.sym_simplify.specs.Literal.{LiteralForm, always, never, keep, literal_form_of}
use Rattle.sym_simplify.specs.Easy.{is_easy}
use Rattle.region_paths.specs.Listing.{RegionPath}
use Rattle.region_paths.specs.Size.{IsPast}
use Rattle.region_paths.specs.declared.limit.Limit.{Limit}
use Rattle.path_inputs.specs.Core.{is_disequality, IsLoose}
use Rattle.semantic_tables.specs.Row.{forms_of}
use Rattle.compliance.specs.Threat.{IsThreat}
use Rattle.compliance.specs.Verdict.{HasVerdict}
use Rattle.compliance.specs.Safe.{IsTold, AreTold, AreListedWithin, AreThreatsOf, NamesItsLiteral}
use Rattle.compliance.specs.declared.threat.Threat.{Threat}
use Rattle.compliance.specs.declared.threat.Verdict.TheVariants.{Open}

-- a threat of a path of some region within its size
pub record IsSomeTold (p : Procedure) (loops : List LoopInfo) (t : Threat) : Type 0 where
  pub pc : ℕ
  pub path : RegionPath
  pub threat : IsThreat p loops pc path
  pub within : IsPast p loops pc None
  pub told : IsTold p pc path t

in_told : (p : Procedure) (loops : List LoopInfo) (pc : ℕ) (rows : List RegionPath) (ts : List Threat) (t : Threat) → IsPast p loops pc None
    → ((r : RegionPath) → IsIn rows r → IsThreat p loops pc r) → AreTold p pc rows ts → IsIn ts t → IsSomeTold p loops t
in_told p loops pc [] ts t w all k i = absurd (subst (λ xs. IsIn xs t) k i)
in_told p loops pc (r ∷ rows) [] t w all k i = absurd i
in_told p loops pc (r ∷ rows) (u ∷ ts) t w all k (inl e) = record { pc = pc; path = r; threat = all r (inl refl); within = w; told = subst (IsTold p pc r) e k.0 }
in_told p loops pc (r ∷ rows) (u ∷ ts) t w all k (inr i) = in_told p loops pc rows ts t w (λ q j. all q (inr j)) k.1 i

in_region : (p : Procedure) (loops : List LoopInfo) (pc : ℕ) (past : Option Limit) (ts : List Threat) (t : Threat) → IsPast p loops pc past → AreListedWithin p loops pc past ts → IsIn ts t
    → IsSomeTold p loops t
in_region p loops pc (Some limit) ts t w k i = absurd (subst (λ xs. IsIn xs t) k i)
in_region p loops pc None ts t w k i = in_told p loops pc k.0 ts t w (λ r j. (k.1.each r).0 j) k.2 i

-- each threat of a list is one
pub in_all : (p : Procedure) (loops : List LoopInfo) (lines : List ℕ) (ts : List Threat) (t : Threat) → AreThreatsOf p loops lines ts → IsIn ts t → IsSomeTold p loops t
in_all p loops [] ts t k i = absurd (subst (λ xs. IsIn xs t) k i)
in_all p loops (pc ∷ lines) ts t k i = elim (IsIn-append_cases k.0 k.1 t (subst (λ xs. IsIn xs t) k.2 i)) [
  | inl j ↦ in_region p loops pc k.3 k.0 t k.4 k.5 j
  | inr j ↦ in_all p loops lines k.1 t k.6 j
]

-- a loose literal compares a term
loose_kept : (fs : List LiteralForm) (i : ℕ) (f : LiteralForm) → (is_easy f ≡ false) ⊎ ((is_disequality f ≡ true) × (8 ≤ length (filter is_disequality (take i fs)))) → slice_get fs i ≡ Some f
    → (n : Form) × (r : Relation) × (bound : ℤ) × (slice_get fs i ≡ Some (keep n r bound))
loose_kept fs i always (inl e) at = absurd cc
loose_kept fs i always (inr e) at = absurd (let x = e.0 in cc)
loose_kept fs i never (inl e) at = absurd cc
loose_kept fs i never (inr e) at = absurd (let x = e.0 in cc)
loose_kept fs i (keep n r bound) l at = (n, r, bound, at)

named_by : (fs gs : List LiteralForm) (i : ℕ) → fs ≡ gs → IsLoose gs i → (n : Form) × (r : Relation) × (bound : ℤ) × (slice_get fs i ≡ Some (keep n r bound))
named_by fs gs i e l = let m = loose_kept gs i l.0 l.2 l.1 in (m.0, m.1, m.2, ap (λ xs. slice_get xs i) e ∙ m.3)

pub named : (p : Procedure) (loops : List LoopInfo) (lines : List ℕ) (ts : List Threat) (t : Threat) → AreThreatsOf p loops lines ts → IsIn ts t → NamesItsLiteral t
named p loops lines ts t k i = λ j e.
    let u = in_all p loops lines ts t k i in
    let v : HasVerdict p u.pc u.path (Open j) = subst (HasVerdict p u.pc u.path) e u.told.verdict in
    named_by (map literal_form_of t.literals) (forms_of u.path) j u.told.literals v.3.0
