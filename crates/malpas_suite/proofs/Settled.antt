-- What rows of certificates that hold say of the runs of a procedure.
use Rattle.std.proofs.Common.{◌≡◌, sym, ap, subst, ◌∙◌, inl, inr, ℕ, suc, true, List, [], ◌∷◌, map, slice_get, Option, None, Some, IfSome, arith}
use Rattle.il_core.specs.Certificate.{certificate_of}
use Rattle.il_core.specs.Checked.{IsChecked}
use Rattle.il_core.specs.LineGraph.{IsIn}
use Rattle.il_core.specs.Procedure.{Procedure}
use Rattle.il_core.specs.declared.certificate.NamedCert.{NamedCert}
use Rattle.il_core.specs.declared.line.Place.{Place}
use Rattle.flow_graph.specs.Graph.{graph_of}
use Rattle.control_flow.specs.Control.{AreLoops, IsShape}
use Rattle.control_flow.specs.declared.control.LoopInfo.{LoopInfo}
use Rattle.control_flow.specs.declared.control.Shape.{Shape}
use Rattle.control_flow.specs.declared.control.Shape.TheVariants.{Reducible, TwoEntries}
use Rattle.compliance.specs.declared.threat.Threat.{Threat}
use Rattle.sym_simplify.specs.Literal.{literal_form_of}
use Rattle.cert_rules.specs.Acceptance.{IsAccepted}
use Rattle.threat_certs.specs.Settled.{AreSound, ListedThreatsAreSound, IsSettled, CertifiedThreatsMeanNoBadRun}
use Rattle.report.specs.Certified.{threats_in, IsCertified, AreCertRows}
use Rattle.report.specs.Headline.{HasRow, InputsHaveOneRow, IsSafeWhereClean, IsSafeWhereSettled, SourcesGiveEqualValues, TellsOfRuns}
use Rattle.report.specs.Reported.{AreAnalyses, AreAnalysesBy}
use Rattle.report.specs.declared.report.Analyses.{Analyses}
use Rattle.report.specs.declared.report.CertRow.{CertRow}
use Rattle.malpas_suite.proofs.Safe.{none_past}

-- the certificate of a row that holds
held : (places : List Place) (ts : List Threat) (cs : List NamedCert) (rows : List CertRow) → AreCertRows places ts cs rows → (row : CertRow) → IsIn rows row → row.holds ≡ true
    → (c : NamedCert) × (row.threat ≡ c.threat) × IsCertified places ts c
held places ts [] rows all row i h = absurd (subst (λ l. IsIn l row) all i)
held places ts (c ∷ cs) [] all row i h = absurd i
held places ts (c ∷ cs) (r ∷ rows) all row i h = elim i [
  | inl here ↦ (c, ap (λ (x : CertRow). x.threat) (sym here) ∙ all.0.number, all.0.exact.0 (ap (λ (x : CertRow). x.holds) here ∙ h))
  | inr later ↦ held places ts cs rows all.1 row later h
]

-- a member of a list stands somewhere in it
stands_at : {X : Type 0} (xs : List X) (x : X) → IsIn xs x → (k : ℕ) × (slice_get xs k ≡ Some x)
stands_at [] x i = absurd i
stands_at (y ∷ ys) x i = elim i [ inl here ↦ (0, ap Some here) | inr later ↦ let found = stands_at ys x later in (suc found.0, found.1) ]

-- a threat with a row that holds is settled
certified : (places : List Place) (ts : List Threat) (cs : List NamedCert) (rows : List CertRow) (k : ℕ) (t : Threat) → AreCertRows places ts cs rows → slice_get ts k ≡ Some t
    → HasRow rows (suc k) → IsSettled places t
certified places ts cs rows k t all at has =
    let found = held places ts cs rows all has.row has.among has.holds in
    let c = found.0 in
    let is = found.2 in
    let number : is.at ≡ k = omega (arith, is.number, found.1, has.threat) in
    let same : is.threat ≡ t = cc in
    inr (certificate_of c.body, subst (λ (x : Threat). IsAccepted places x.region (map literal_form_of x.literals) (certificate_of c.body)) same is.accepted)

-- with the rows of certificates, a procedure has no bad run where no table is past its size and each threat is refuted or certified
safe_settled : (p : Procedure) (loops : List LoopInfo) (order : List ℕ) (cs : List NamedCert) (rows : List CertRow) (a : Analyses) → CertifiedThreatsMeanNoBadRun → IsChecked p
    → AreLoops (graph_of p) loops → IsShape (graph_of p) Reducible → AreAnalyses p loops order a → AreCertRows p.places a.threats cs rows → IsSafeWhereSettled p loops rows a
safe_settled p loops order cs rows a law checked are shape told all within settled =
    law p loops a.threats checked (record { loops_of = are; reducible = shape }) told.threats (none_past p loops a.tables told.tables within) (λ t i.
    let at = stands_at a.threats t i in
    elim (settled at.0 t at.1) [ inl refuted ↦ inl refuted | inr has ↦ certified p.places a.threats cs rows at.0 t all at.1 has ])

-- the sentences of a procedure, with its rows
pub tells : (p : Procedure) (loops : List LoopInfo) (shape : Shape) (order : List ℕ) (cs : List NamedCert) (rows : List CertRow) (analyses : Option Analyses)
    → CertifiedThreatsMeanNoBadRun → IsChecked p → AreLoops (graph_of p) loops → IsShape (graph_of p) shape → AreAnalysesBy p loops shape order analyses
    → AreCertRows p.places (threats_in analyses) cs rows → IfSome analyses (InputsHaveOneRow p loops) → IfSome analyses (IsSafeWhereClean p loops)
    → IfSome analyses (SourcesGiveEqualValues p loops) → IfSome analyses (TellsOfRuns p loops rows)
tells p loops Reducible order cs rows None law checked are is told all one safe equal = tt
tells p loops Reducible order cs rows (Some a) law checked are is told all one safe equal = record {
  one_row = one;
  safe = safe;
  certified = safe_settled p loops order cs rows a law checked are is told all;
  equal_values = equal;
}
tells p loops (TwoEntries e) order cs rows None law checked are is told all one safe equal = tt
tells p loops (TwoEntries e) order cs rows (Some a) law checked are is told all one safe equal = absurd told

-- the threats that are told of are such as certificates are checked and made for
pub sound_in : (p : Procedure) (loops : List LoopInfo) (shape : Shape) (order : List ℕ) (analyses : Option Analyses) → ListedThreatsAreSound → IsChecked p
    → AreAnalysesBy p loops shape order analyses → AreSound p.places (threats_in analyses)
sound_in p loops Reducible order None law checked told = absurd told
sound_in p loops Reducible order (Some a) law checked told = law p loops a.threats checked told.threats
sound_in p loops (TwoEntries e) order None law checked told = λ t i. absurd i
sound_in p loops (TwoEntries e) order (Some a) law checked told = absurd told
