-- Certificates in the report of a procedure. Of those that are read it has one row for each that names the procedure, in order, which tells
-- whether the certificate holds: the procedure has a threat of its number, and it is accepted for that threat's literals. Of those that are
-- made there is one for each refuted threat, in order.
use Rattle.std.specs.Prelude.{◌≡◌, ◌↔◌, ℕ, suc, true, List, [], ◌∷◌, map, filter, slice_get, Option, None, Some, bytes_eq, if◌then◌else◌}
use Rattle.cert_rules.specs.Acceptance.{IsAccepted}
use Rattle.compliance.specs.declared.threat.Threat.{Threat}
use Rattle.il_core.specs.Certificate.{certificate_of}
use Rattle.il_core.specs.LineGraph.{IsIn}
use Rattle.il_core.specs.declared.certificate.NamedCert.{NamedCert}
use Rattle.il_core.specs.declared.line.Place.{Place}
use Rattle.sym_simplify.specs.Literal.{literal_form_of}
use Rattle.report.specs.Status.{is_refuted}
use Rattle.report.specs.declared.report.Analyses.{Analyses}
use Rattle.report.specs.declared.report.CertRow.{CertRow}

-- the certificates that name a procedure, in order
abbrev pub certs_for : List ℕ → List NamedCert → List NamedCert
certs_for name certs = filter (λ c. bytes_eq c.procedure name) certs

-- the threats that are told of; none of a procedure that is not analysed
abbrev pub threats_in : Option Analyses → List Threat
threats_in None = []
threats_in (Some a) = a.threats

-- there is a threat of the certificate's number, counted from 1, and the certificate is accepted for it
pub record IsCertified (places : List Place) (threats : List Threat) (c : NamedCert) : Type 0 where
  pub at : ℕ
  pub number : c.threat ≡ suc at
  pub threat : Threat
  pub there : slice_get threats at ≡ Some threat
  pub accepted : IsAccepted places threat.region (map literal_form_of threat.literals) (certificate_of c.body)

-- the row of a certificate
pub record IsCertRow (places : List Place) (threats : List Threat) (c : NamedCert) (row : CertRow) : Type 0 where
  pub number : row.threat ≡ c.threat
  pub exact : (row.holds ≡ true) ↔ IsCertified places threats c

-- one row for each certificate, in order
abbrev pub AreCertRows : List Place → List Threat → List NamedCert → List CertRow → Type 0
AreCertRows places threats [] rows = rows ≡ []
AreCertRows places threats (c ∷ cs) [] = ⊥
AreCertRows places threats (c ∷ cs) (row ∷ rows) = IsCertRow places threats c row × AreCertRows places threats cs rows

-- the numbers of the refuted ones among threats that are numbered from n on
abbrev pub refuted_from : ℕ → List Threat → List ℕ
refuted_from n [] = []
refuted_from n (t ∷ ts) = if is_refuted t.verdict then n ∷ refuted_from (suc n) ts else refuted_from (suc n) ts

-- one certificate for each refuted threat of the procedure with this name, in order, each accepted for its threat
pub record AreMade (name : List ℕ) (places : List Place) (threats : List Threat) (made : List NamedCert) : Type 0 where
  pub threat_numbers : map (λ c. c.threat) made ≡ refuted_from 1 threats
  pub named : (c : NamedCert) → IsIn made c → c.procedure ≡ name
  pub accepted : (c : NamedCert) → IsIn made c → IsCertified places threats c
