-- The text of certificates: for each the line with its procedure and threat, then the lines of its body.
use Rattle.std.specs.Prelude.{ℕ, ◌≤◌, IsTrue, All, List, [], ◌∷◌, ◌++◌, length, map}
use Rattle.std.specs.List.{flat_map, Contains}
use Rattle.il_core.specs.Name.{is_name}
use Rattle.il_core.specs.Certificate.{Certificate, sum, split, certificate_of, nesting}
use Rattle.il_core.specs.declared.certificate.NamedCert.{NamedCert}
use Rattle.cert_text.specs.declared.line.Line.{Line}
use Rattle.cert_text.specs.declared.line.Line.TheVariants as lines
use Rattle.cert_text.specs.Line.{text_of, IsReadableShare}

-- a certificate for a threat of a procedure, without the pointers that hold it
pub record Named : Type 0 where
  pub procedure : List ℕ
  pub threat : ℕ
  pub body : Certificate

abbrev pub named_of : NamedCert → Named
named_of cert = record { procedure = cert.procedure; threat = cert.threat; body = certificate_of cert.body }

-- the shares of a sum up to its end; or the literal that is split, and the two certificates of its sides
abbrev pub body_lines : Certificate → List Line
body_lines (sum shares) = lines.Sum ∷ (map lines.Share shares ++ lines.End ∷ [])
body_lines (split i low high) = lines.Split i ∷ (body_lines low ++ body_lines high)

abbrev pub cert_lines : Named → List Line
cert_lines cert = lines.Head cert.procedure cert.threat ∷ body_lines cert.body

-- the bytes of certificates, one behind the other
abbrev pub certs_text : List Named → List ℕ
certs_text certs = text_of (flat_map cert_lines certs)

-- each sum has 1 to 128 shares, and each number is within its limit
abbrev pub IsReadableBody : Certificate → Type 0
IsReadableBody (sum shares) = (1 ≤ length shares) × (length shares ≤ 128) × All IsReadableShare shares
IsReadableBody (split i low high) = (i ≤ 16384000) × IsReadableBody low × IsReadableBody high

-- a certificate for a procedure of the text, with at most 16 splits inside one another
pub record IsReadable (names : List (List ℕ)) (cert : Named) : Type 0 where
  pub named : Contains names cert.procedure
  pub name : IsTrue (is_name cert.procedure)
  pub threat : cert.threat ≤ 16384000
  pub body : IsReadableBody cert.body
  pub nested : nesting cert.body ≤ 16
