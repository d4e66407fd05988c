-- What is written of made certificates can be read.
use Rattle.std.specs.Prelude.{ℕ, ◌≤◌, IsTrue, All, List, length, map}
use Rattle.std.specs.List.{Contains}
use Rattle.cert_text.specs.Reading.{AreCertificates}
use Rattle.cert_text.specs.Text.{certs_text, named_of}
use Rattle.compliance.specs.declared.threat.Threat.{Threat}
use Rattle.il_core.specs.Name.{is_name}
use Rattle.il_core.specs.declared.certificate.NamedCert.{NamedCert}
use Rattle.il_core.specs.declared.line.Place.{Place}
use Rattle.report.specs.Certified.{AreMade}

-- no threat, literal or place has a number above those that are read: there are at most 64 places, as an accepted text has
pub record AreNumbered (places : List Place) (threats : List Threat) : Type 0 where
  pub few_places : length places ≤ 64
  pub few_threats : length threats ≤ 16384000
  pub few_literals : All (λ t. length t.literals ≤ 16384000) threats

-- the certificates that are made for a procedure, in their lines, are certificates for a text with that procedure
abbrev pub MadeCertificatesAreRead : Type 0
MadeCertificatesAreRead = (names : List (List ℕ)) (name : List ℕ) (places : List Place) (threats : List Threat) (made : List NamedCert)
    → Contains names name → IsTrue (is_name name) → AreNumbered places threats → AreMade name places threats made
    → AreCertificates names (certs_text (map named_of made)) (map named_of made)
