-- An input is a text, with certificates behind it where they are asked for. It is then cut at its first line that is exactly `%%` and is ended
-- by a newline: what stands before that line is the text, and what stands behind it are certificates for procedures of the text. Where there is
-- no such line, or certificates are not asked for, the whole input is the text, and there are no certificates. An accepted text comes with its
-- expansion.
use Rattle.std.specs.Prelude.{◌≡◌, ℕ, ◌+◌, ◌<◌, ◌≤◌, ◌⊎◌, Bool, true, false, List, [], length, map, take, drop, Option, None, Some, Result, Ok, Err}
use Rattle.acceptance.specs.Acceptance.{Accepts, HasRefusal}
use Rattle.cert_text.specs.Mark.{IsFirstMark}
use Rattle.cert_text.specs.Reading.{AreCertificates, IsBadCertificate}
use Rattle.cert_text.specs.Text.{Named, named_of}
use Rattle.il_core.specs.Text.{Text}
use Rattle.il_core.specs.declared.certificate.NamedCert.{NamedCert}
use Rattle.il_core.specs.declared.refusal.Code.TheVariants as code
use Rattle.il_core.specs.declared.refusal.Refusal.{Refusal}
use Rattle.il_core.specs.declared.refusal.TextEnd.{TextEnd}
use Rattle.il_core.specs.declared.refusal.TextEnd.TheVariants as end
use Rattle.il_inline.specs.Expanded.{IsExpandedText, WholeExpansion, whole_of}
use Rattle.malpas.specs.declared.input.Input.{Input}

-- the greatest number of bytes of an input
abbrev pub text_limit : ℕ
text_limit = 1048576

-- the refusal of an input with more bytes
abbrev pub too_long : Refusal
too_long = record { code = code.TooLong; place = 1048576; name = None }

-- where an input is cut: at its first such line, where it has one and certificates are asked for
abbrev pub IsCut : Bool → List ℕ → Option ℕ → Type 0
IsCut true input mark = IsFirstMark input mark
IsCut false input mark = mark ≡ None

-- the text of an input that is cut there
abbrev pub text_before : Option ℕ → List ℕ → List ℕ
text_before None input = input
text_before (Some place) input = take place input

-- the names of a text's procedures, in order
abbrev pub names_in : Text → List (List ℕ)
names_in t = map (λ p. p.name) t.procs

-- these certificates stand behind the line, which has three bytes
abbrev pub HasCertificates : Text → Option ℕ → List ℕ → List NamedCert → Type 0
HasCertificates t None input certs = certs ≡ []
HasCertificates t (Some place) input certs = AreCertificates (names_in t) (drop (place + 3) input) (map named_of certs)

-- what stands behind it is none; its first bad line is refused, at its place in the input
abbrev pub HasBadCertificate : Text → Option ℕ → List ℕ → Refusal → Type 0
HasBadCertificate t None input refusal = ⊥
HasBadCertificate t (Some place) input refusal = IsBadCertificate (names_in t) (drop (place + 3) input) (place + 3) refusal

-- an input is accepted, with this expanded text and these certificates, where it is not too long, its text is accepted and its certificates are read
pub record AcceptsInput (certificates : Bool) (input : List ℕ) (x : WholeExpansion) (certs : List NamedCert) : Type 0 where
  pub short : length input ≤ text_limit
  pub mark : Option ℕ
  pub cut : IsCut certificates input mark
  pub text : Accepts (text_before mark input) x
  pub read : HasCertificates x.text mark input certs

-- the refusal of an input that is not too long: the first one of its text, and where that has none, of its certificates
pub record RefusesParts (certificates : Bool) (input : List ℕ) (refusal : Refusal) : Type 0 where
  pub short : length input ≤ text_limit
  pub mark : Option ℕ
  pub cut : IsCut certificates input mark
  pub first : HasRefusal (text_before mark input) refusal ⊎ ((x : WholeExpansion) × Accepts (text_before mark input) x × HasBadCertificate x.text mark input refusal)

abbrev pub RefusesInput : Bool → List ℕ → Refusal → Type 0
RefusesInput certificates input refusal = ((text_limit < length input) × (refusal ≡ too_long)) ⊎ RefusesParts certificates input refusal

-- the one answer to an input: its expanded text and its certificates, or its refusal
abbrev pub AnswersInput : Bool → List ℕ → Result (WholeExpansion × List Named) Refusal → Type 0
AnswersInput certificates input (Ok a) = (certs : List NamedCert) × (map named_of certs ≡ a.1) × AcceptsInput certificates input a.0 certs
AnswersInput certificates input (Err refusal) = RefusesInput certificates input refusal

-- no input has two answers: no two expanded texts or lists of certificates, no text and a refusal, no two refusals
abbrev pub OneInput : Type 0
OneInput = (certificates : Bool) (input : List ℕ) (a b : Result (WholeExpansion × List Named) Refusal) → AnswersInput certificates input a → AnswersInput certificates input b → a ≡ b

-- there are no certificates where they are not asked for
abbrev pub NoneUnasked : Bool → List NamedCert → Type 0
NoneUnasked true certs = Unit {0}
NoneUnasked false certs = certs ≡ []

-- what is answered of an input that is not too long, and the parts of its expanded text fit together; want of memory is free
abbrev pub InputGives : Bool → List ℕ → Result Input TextEnd → Type 0
InputGives certificates bytes (Ok input) = AcceptsInput certificates bytes (whole_of input.text) input.certs × NoneUnasked certificates input.certs × IsExpandedText input.text
InputGives certificates bytes (Err (end.Refused refusal)) = RefusesParts certificates bytes refusal
InputGives certificates bytes (Err end.NoMemory) = Unit {0}

-- what is answered of what stands behind the text, where the input is cut
abbrev pub BehindGives : Text → Option ℕ → List ℕ → Result (List NamedCert) TextEnd → Type 0
BehindGives t mark input (Ok certs) = HasCertificates t mark input certs
BehindGives t mark input (Err (end.Refused refusal)) = HasBadCertificate t mark input refusal
BehindGives t mark input (Err end.NoMemory) = Unit {0}
