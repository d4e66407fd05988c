-- What is asked of a threat for which certificates are checked and made: its literals are over the places there are and have the form of
-- literals of a region within its size, and it is refuted exactly where they are plainly refuted. Each threat that is listed for a procedure
-- is such a one. And where no region is past its size and each threat listed is refuted or has an accepted certificate, no run from the
-- precondition halts badly.
use Rattle.std.specs.Prelude.{◌≡◌, ◌↔◌, ◌⊎◌, ℕ, None, All, List, length, map}
use Rattle.il_core.specs.LineGraph.{IsIn}
use Rattle.il_core.specs.Procedure.{Procedure}
use Rattle.il_core.specs.Run.{HasNoBadRun}
use Rattle.il_core.specs.Checked.{IsChecked}
use Rattle.il_core.specs.Certificate.{Certificate}
use Rattle.il_core.specs.declared.line.Place.{Place}
use Rattle.control_flow.specs.declared.control.LoopInfo.{LoopInfo}
use Rattle.sym_simplify.specs.Easy.{IsKept}
use Rattle.sym_simplify.specs.Literal.{literal_form_of}
use Rattle.sym_simplify.specs.Places.{HasLiteralPlacesBelow}
use Rattle.region_paths.specs.Region.{AreRegions, first_lines}
use Rattle.region_paths.specs.Size.{IsPast}
use Rattle.path_inputs.specs.Least.{IsPlainlyRefuted}
use Rattle.compliance.specs.Safe.{AreThreatsOf}
use Rattle.compliance.specs.declared.threat.Threat.{Threat}
use Rattle.compliance.specs.declared.threat.Verdict.TheVariants.{Refuted}
use Rattle.cert_rules.specs.Acceptance.{IsAccepted}

pub record IsSound (places : List Place) (t : Threat) : Type 0 where
  pub below : All (λ l. HasLiteralPlacesBelow (length places) (literal_form_of l)) t.literals
  pub kept : All (λ l. IsKept (literal_form_of l)) t.literals
  pub judged : (t.verdict ≡ Refuted) ↔ IsPlainlyRefuted places t.region (map literal_form_of t.literals)

abbrev pub AreSound : List Place → List Threat → Type 0
AreSound places ts = (t : Threat) → IsIn ts t → IsSound places t

abbrev pub ListedThreatsAreSound : Type 0
ListedThreatsAreSound = (p : Procedure) (loops : List LoopInfo) (ts : List Threat) → IsChecked p → AreThreatsOf p loops (first_lines loops) ts → AreSound p.places ts

-- a threat is refuted, or some certificate is accepted for its literals
abbrev pub IsSettled : List Place → Threat → Type 0
IsSettled places t = (t.verdict ≡ Refuted) ⊎ ((c : Certificate) × IsAccepted places t.region (map literal_form_of t.literals) c)

abbrev pub CertifiedThreatsMeanNoBadRun : Type 0
CertifiedThreatsMeanNoBadRun = (p : Procedure) (loops : List LoopInfo) (ts : List Threat) → IsChecked p → AreRegions p loops → AreThreatsOf p loops (first_lines loops) ts
    → ((pc : ℕ) → IsIn (first_lines loops) pc → IsPast p loops pc None) → ((t : Threat) → IsIn ts t → IsSettled p.places t) → HasNoBadRun p
