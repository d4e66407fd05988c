-- Reading goes on line by line: what was read begins some certificates, and where it stops, no further line stands next with which some go on.
use Rattle.std.specs.Prelude.{◌≡◌, ℕ, ◌≤◌, All, Option, Some, None, Result, MatchResult, List, [], ◌∷◌, ◌++◌, length, map}
use Rattle.std.specs.List.{flat_map, Contains}
use Rattle.std.specs.Borrow.{Bor}
use Rattle.il_core.specs.Certificate.{Certificate, certificate_of, nesting}
use Rattle.il_core.specs.declared.certificate.Share.{Share}
use Rattle.il_core.specs.declared.certificate.Cert.{Cert}
use Rattle.il_core.specs.declared.certificate.NamedCert.{NamedCert}
use Rattle.cert_text.specs.declared.line.Line.{Line}
use Rattle.cert_text.specs.declared.line.Line.TheVariants as lines
use Rattle.cert_text.specs.declared.reading.Head.{Head}
use Rattle.cert_text.specs.declared.reading.LinesEnd.{LinesEnd}
use Rattle.cert_text.specs.declared.reading.LinesEnd.TheVariants as ends
use Rattle.cert_text.specs.Line.{text_of, IsReadableShare, IsReadableLine}
use Rattle.cert_text.specs.LineReading.{StandsNext}
use Rattle.cert_text.specs.Reading.{AreCertificates}
use Rattle.cert_text.specs.Text.{Named, named_of, body_lines, cert_lines, IsReadableBody, IsReadable}

-- the lines of a sum's shares, to its end
abbrev pub share_lines : List Share → List Line
share_lines shares = map lines.Share shares ++ lines.End ∷ []

pub record AreShares (shares : List Share) : Type 0 where
  pub some : 1 ≤ length shares
  pub few : length shares ≤ 128
  pub readable : All IsReadableShare shares

pub record IsBody (room : ℕ) (body : Certificate) : Type 0 where
  pub readable : IsReadableBody body
  pub nested : nesting body ≤ room

-- the lines of whole shares, or of a whole body, with others behind them
pub record SharesThen (all behind : List Line) : Type 0 where
  pub shares : List Share
  pub are : AreShares shares
  pub lines : all ≡ share_lines shares ++ behind

pub record BodyThen (room : ℕ) (all behind : List Line) : Type 0 where
  pub body : Certificate
  pub is : IsBody room body
  pub lines : all ≡ body_lines body ++ behind

-- all certificates, with nothing behind them
pub record CertsThen (names : List (List ℕ)) (all behind : List Line) : Type 0 where
  pub certs : List Named
  pub are : All (IsReadable names) certs
  pub lines : all ≡ flat_map cert_lines certs
  pub none : behind ≡ []

-- the lines seen begin a whole, and with no line that stands next they begin one, whatever follows
pub record IsStuck (Whole : List Line → List Line → Type 0) (text : List ℕ) (left : ℕ) : Type 0 where
  pub seen : List Line
  pub rest : List ℕ
  pub is : text ≡ text_of seen ++ rest
  pub left_is : left ≡ length rest
  pub readable : All IsReadableLine seen
  pub more : List Line
  pub begins : Whole (seen ++ more) []
  pub unfinished : rest ≡ [] → (behind : List Line) → Whole seen behind → ⊥
  pub stuck : (line : Line) (after : List ℕ) (others behind : List Line) → StandsNext rest line after → Whole (seen ++ line ∷ others) behind → ⊥

abbrev pub Fails : (List Line → List Line → Type 0) → List ℕ → LinesEnd → Type 0
Fails Whole text (ends.Bad left) = IsStuck Whole text left
Fails Whole text ends.NoMemory = Unit {0}

-- what was read stands at the front, and the rest behind it
-- a certificate for one of these procedures begins
abbrev pub HeadIs : List (List ℕ) → List ℕ → Option Head → Type 0
HeadIs names text None = (p : List ℕ) (t : ℕ) (after : List ℕ) → StandsNext text (lines.Head p t) after → Contains names p → ⊥
HeadIs names text (Some x) = StandsNext text (lines.Head x.procedure x.threat) x.behind.now × Contains names x.procedure

abbrev pub SharesGive : List ℕ → Result (List Share × Bor (List ℕ)) LinesEnd → Type 0
SharesGive text r = MatchResult r (λ x. AreShares x.0 × (text ≡ text_of (share_lines x.0) ++ x.1.now)) (Fails SharesThen text)

abbrev pub BodyGives : ℕ → List ℕ → Result (Cert × Bor (List ℕ)) LinesEnd → Type 0
BodyGives room text r = MatchResult r (λ x. IsBody room (certificate_of x.0) × (text ≡ text_of (body_lines (certificate_of x.0)) ++ x.1.now)) (Fails (BodyThen room) text)

abbrev pub AllGive : List (List ℕ) → List ℕ → Result (List NamedCert) LinesEnd → Type 0
AllGive names text r = MatchResult r (λ certs. AreCertificates names text (map named_of certs)) (Fails (CertsThen names) text)
