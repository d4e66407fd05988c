-- Where the report of a text has status 0, no procedure of the text has a bad run.
use Rattle.std.proofs.Common.{◌≡◌, ◌⊎◌, inl, inr, ℕ, zero, suc, ◌+◌, ◌==◌, Bool, true, false, ◌&&◌, ◌||◌, List, [], ◌∷◌, slice_get, Option, None, Some, IfSome, refl, subst, if◌then◌else◌, arith}
use Rattle.std.proofs.lemmas.Bool.{false≢true}
use Rattle.std.specs.List.{list_all, list_any}
use Rattle.compliance.specs.declared.threat.Threat.{Threat}
use Rattle.compliance.specs.declared.threat.Verdict.{Verdict}
use Rattle.compliance.specs.declared.threat.Verdict.TheVariants.{Refuted, Shown, Open}
use Rattle.control_flow.specs.declared.control.LoopInfo.{LoopInfo}
use Rattle.control_flow.specs.declared.control.Shape.{Shape}
use Rattle.control_flow.specs.declared.control.Shape.TheVariants.{Reducible, TwoEntries}
use Rattle.il_core.specs.LineGraph.{IsIn}
use Rattle.il_core.specs.declared.certificate.NamedCert.{NamedCert}
use Rattle.il_core.specs.Procedure.{Procedure}
use Rattle.il_core.specs.Run.{HasNoBadRun}
use Rattle.il_core.specs.Text.{TextProcedure}
use Rattle.il_inline.specs.Expanded.{WholeExpansion}
use Rattle.report.specs.declared.report.Analyses.{Analyses}
use Rattle.report.specs.declared.report.CertRow.{CertRow}
use Rattle.report.specs.declared.report.ProcReport.{ProcReport}
use Rattle.report.specs.declared.report.Report.{Report}
use Rattle.report.specs.Headline.{HasRow, IsSafeWhereSettled, SettledProceduresHaveNoBadRun, NoProcedureHasABadRun}
use Rattle.report.specs.Reported.{AreAnalysesBy, IsProcReportOf, AreProcReportsOf, IsReportOf}
use Rattle.report.specs.Status.{is_reducible, is_within, is_refuted, is_certified, is_settled, are_settled_from, all_hold, are_clean, is_clean, status_of}

-- both sides of a conjunction that is true
both : (a b : Bool) → (a && b) ≡ true → (a ≡ true) × (b ≡ true)
both true b e = (refl, e)
both false b e = absurd (false≢true e)

-- each member of a list passes what all pass
each_passes : {X : Type 0} (p : X → Bool) (xs : List X) → list_all p xs ≡ true → (x : X) → IsIn xs x → p x ≡ true
each_passes p [] all x i = absurd i
each_passes p (y ∷ ys) all x i =
    let parts = both (p y) (list_all p ys) all in
    elim i [ inl here ↦ subst (λ z. p z ≡ true) here parts.0 | inr later ↦ each_passes p ys parts.1 x later ]

-- also the one at a number
at_passes : {X : Type 0} (p : X → Bool) (xs : List X) → list_all p xs ≡ true → (k : ℕ) (x : X) → slice_get xs k ≡ Some x → p x ≡ true
at_passes p [] all k x at = absurd (cc)
at_passes p (y ∷ ys) all zero x at = let same : y ≡ x = cc in subst (λ z. p z ≡ true) same (both (p y) (list_all p ys) all).0
at_passes p (y ∷ ys) all (suc k) x at = at_passes p ys (both (p y) (list_all p ys) all).1 k x at

refuted_is : (v : Verdict) → is_refuted v ≡ true → v ≡ Refuted
refuted_is Refuted e = refl
refuted_is (Shown s) e = absurd (false≢true e)
refuted_is (Open i) e = absurd (false≢true e)

status_zero : (b : Bool) → ◌≡◌ {A = ℕ} (if b then 0 else 1) 0 → b ≡ true
status_zero true e = refl
status_zero false e = absurd (cc)

-- one or the other side of a disjunction that is true
either : (a b : Bool) → (a || b) ≡ true → (a ≡ true) ⊎ (b ≡ true)
either true b e = inl refl
either false b e = inr e

-- some member of a list passes what any passes
some_passes : {X : Type 0} (p : X → Bool) (xs : List X) → list_any p xs ≡ true → (x : X) × IsIn xs x × (p x ≡ true)
some_passes p [] any = absurd (false≢true any)
some_passes p (x ∷ xs) any = elim (either (p x) (list_any p xs) any) [ inl here ↦ (x, inl refl, here) | inr later ↦ let found = some_passes p xs later in (found.0, inr found.1, found.2) ]

-- a certificate holds for the threat with a number: it has a row
certified_row : (rows : List CertRow) (n : ℕ) → is_certified rows n ≡ true → HasRow rows n
certified_row rows n any =
    let found = some_passes (λ row. row.holds && (row.threat == n)) rows any in
    let parts = both found.0.holds (found.0.threat == n) found.2 in
    record { row = found.0; among = found.1; threat = grind arith; holds = parts.0 }

-- threats that are numbered from n on and are all settled, each by itself
settled_at : (rows : List CertRow) (n : ℕ) (ts : List Threat) → are_settled_from rows n ts ≡ true → (k : ℕ) (t : Threat) → slice_get ts k ≡ Some t
    → (t.verdict ≡ Refuted) ⊎ HasRow rows (n + k)
settled_at rows n [] all k t at = absurd (cc)
settled_at rows n (u ∷ ts) all zero t at =
    let same : u ≡ t = cc in
    let first = (both (is_settled rows n u) (are_settled_from rows (suc n) ts) all).0 in
    subst (λ (x : Threat). (x.verdict ≡ Refuted) ⊎ HasRow rows (n + 0)) same
    (elim (either (is_refuted u.verdict) (is_certified rows n) first) [
      | inl refuted ↦ inl (refuted_is u.verdict refuted)
      | inr certified ↦ let number : n ≡ n + 0 = omega arith in inr (subst (HasRow rows) number (certified_row rows n certified))
    ])
settled_at rows n (u ∷ ts) all (suc k) t at =
    let number : suc n + k ≡ n + suc k = omega arith in
    subst (λ m. (t.verdict ≡ Refuted) ⊎ HasRow rows m) number (settled_at rows (suc n) ts (both (is_settled rows n u) (are_settled_from rows (suc n) ts) all).1 k t at)

-- a clean report of a reducible procedure leaves it no bad run
clean_safe : (p : Procedure) (loops : List LoopInfo) (shape : Shape) (order : List ℕ) (rows : List CertRow) (analyses : Option Analyses) → is_reducible shape ≡ true
    → are_clean rows analyses ≡ true → AreAnalysesBy p loops shape order analyses → IfSome analyses (IsSafeWhereSettled p loops rows) → HasNoBadRun p
clean_safe p loops Reducible order rows None reducible clean made safe = absurd made
clean_safe p loops Reducible order rows (Some a) reducible clean made safe =
    let parts = both (list_all (λ t. is_within t.body) a.tables) (are_settled_from rows 1 a.threats) clean in
    safe (each_passes (λ t. is_within t.body) a.tables parts.0) (λ k t at.
    let number : 1 + k ≡ suc k = omega arith in subst (λ m. (t.verdict ≡ Refuted) ⊎ HasRow rows m) number (settled_at rows 1 a.threats parts.1 k t at))
clean_safe p loops (TwoEntries e) order rows analyses reducible clean made safe = absurd (false≢true reducible)

-- each procedure of the text has its report
report_at : (certs : List NamedCert) (ps : List TextProcedure) (rs : List ProcReport) → AreProcReportsOf certs ps rs → (k : ℕ) (p : TextProcedure) → slice_get ps k ≡ Some p
    → (r : ProcReport) × (slice_get rs k ≡ Some r) × IsProcReportOf certs p r
report_at certs [] rs all k p at = absurd (cc)
report_at certs (q ∷ ps) [] all k p at = absurd all
report_at certs (q ∷ ps) (r ∷ rs) all zero p at = let same : q ≡ p = cc in (r, refl, subst (λ (x : TextProcedure). IsProcReportOf certs x r) same all.0)
report_at certs (q ∷ ps) (r ∷ rs) all (suc k) p at = report_at certs ps rs all.1 k p at

pub no_bad_run : (certs : List NamedCert) (x : WholeExpansion) (report : Report) → IsReportOf certs x report → SettledProceduresHaveNoBadRun x.text report → status_of report ≡ 0
    → NoProcedureHasABadRun x.text
no_bad_run certs x report is safe zero_is = λ k p at.
    let found = report_at certs x.text.procs report.procs is.procs k p at in
    let r = found.0 in
    let clean = both (is_reducible r.control.shape && all_hold r.certs) (are_clean r.certs r.analyses)
    (at_passes is_clean report.procs (status_zero (list_all is_clean report.procs) zero_is) k r found.1) in
    let front = both (is_reducible r.control.shape) (all_hold r.certs) clean.0 in
    clean_safe p.body r.control.loops r.control.shape r.derivation.order r.certs r.analyses front.0 clean.1 found.2.analyses (safe k p r at found.1)
