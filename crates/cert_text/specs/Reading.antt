-- Bytes are certificates where they are the text of readable ones. Where they are not, the first line that cannot stand where it does begins behind the longest front of whole lines with which some certificates begin.
use Rattle.std.specs.Prelude.{◌≡◌, ◌⊎◌, ℕ, ◌+◌, ◌≤◌, ◌<◌, All, List, [], ◌∷◌, ◌++◌, length, map, take, None}
use Rattle.il_core.specs.declared.certificate.NamedCert.{NamedCert}
use Rattle.il_core.specs.declared.refusal.Code.TheVariants.{BadCertificate}
use Rattle.il_core.specs.declared.refusal.Refusal.{Refusal}
use Rattle.il_core.specs.declared.refusal.TextEnd.TheVariants as end
use Rattle.il_core.specs.declared.refusal.TextEnd.{TextEnd}
use Rattle.std.specs.Prelude.{Result, Ok, Err}
use Rattle.cert_text.specs.Text.{Named, named_of, certs_text, IsReadable}

-- no bytes, or bytes that end with a newline
abbrev pub IsWhole : List ℕ → Type 0
IsWhole bytes = (bytes ≡ []) ⊎ ((front : List ℕ) × (bytes ≡ front ++ 10 ∷ []))

pub record AreCertificates (names : List (List ℕ)) (bytes : List ℕ) (certs : List Named) : Type 0 where
  pub text : certs_text certs ≡ bytes
  pub readable : All (IsReadable names) certs

-- the text of some readable certificates begins with these bytes
abbrev pub Begins : List (List ℕ) → List ℕ → Type 0
Begins names front = (certs : List Named) × (rest : List ℕ) × AreCertificates names (front ++ rest) certs

-- the bytes are no certificates, and their longest front of whole lines with which some begin has this length
pub record AreBadAt (names : List (List ℕ)) (bytes : List ℕ) (place : ℕ) : Type 0 where
  pub within : place ≤ length bytes
  pub whole : IsWhole (take place bytes)
  pub begins : Begins names (take place bytes)
  pub longest : (n : ℕ) → place < n → n ≤ length bytes → IsWhole (take n bytes) → Begins names (take n bytes) → ⊥
  pub unread : (certs : List Named) → AreCertificates names bytes certs → ⊥

-- what is told of certificates that stand so far behind the front of an input: all of them, or the place of the first line that cannot stand there
pub record IsBadCertificate (names : List (List ℕ)) (bytes : List ℕ) (offset : ℕ) (refusal : Refusal) : Type 0 where
  pub place : ℕ
  pub bad : AreBadAt names bytes place
  pub is : refusal ≡ record { code = BadCertificate; place = offset + place; name = None }

abbrev pub CertsGive : List (List ℕ) → List ℕ → ℕ → Result (List NamedCert) TextEnd → Type 0
CertsGive names bytes offset (Ok certs) = AreCertificates names bytes (map named_of certs)
CertsGive names bytes offset (Err (end.Refused refusal)) = IsBadCertificate names bytes offset refusal
CertsGive names bytes offset (Err end.NoMemory) = Unit {0}

-- no bytes have two lists of certificates, or a list and a bad line, or two first bad lines
pub record OneReading : Type 0 where
  pub one_list : (names : List (List ℕ)) (bytes : List ℕ) (a b : List Named) → AreCertificates names bytes a → AreCertificates names bytes b → a ≡ b
  pub one_place : (names : List (List ℕ)) (bytes : List ℕ) (m n : ℕ) → AreBadAt names bytes m → AreBadAt names bytes n → m ≡ n

-- readable certificates, written down, are read as they were
abbrev pub WrittenAreRead : Type 0
WrittenAreRead = (names : List (List ℕ)) (certs : List Named) → All (IsReadable names) certs → (offset : ℕ) (r : Result (List NamedCert) TextEnd)
    → CertsGive names (certs_text certs) offset r → IsAsWritten certs r
  where
    IsAsWritten : List Named → Result (List NamedCert) TextEnd → Type 0
    IsAsWritten certs (Ok read) = map named_of read ≡ certs
    IsAsWritten certs (Err (end.Refused refusal)) = ⊥
    IsAsWritten certs (Err end.NoMemory) = Unit {0}
