-- What is found of the bytes of a source, and how it is answered.
use Rattle.std.specs.Prelude.{◌≡◌, ℕ, ◌≤◌, ◌⊎◌, List, length, take, Option, None, Some, IfSome, Result, MatchResult}
use Rattle.il_core.specs.declared.refusal.Refusal.{Refusal}
use Rattle.il_core.specs.declared.refusal.Code.TheVariants as code
use Rattle.il_edge.specs.Faults.{Rose}
use Rattle.il_edge.specs.Known.{IsAtEnd, TookMore, Appends, AppendsPrefix, IsSettled}
use Rattle.il_inline.specs.Expanded.{WholeExpansion}
use Rattle.acceptance.specs.Acceptance.{Accepts, HasRefusal}
use Rattle.cert_text.specs.Mark.{IsFirstMark}
use Rattle.report_text.specs.Refusal.{refusal_text}
use Rattle.malpas_literals.specs.Listing.{listing_text}
use Rattle.malpas_literals.specs.Threatened.{AreThreatened}
use Rattle.malpas_literals.specs.declared.text.Found.{Found}
use Rattle.malpas_literals.specs.declared.text.Found.TheVariants as found

-- the greatest number of bytes of an input
abbrev pub text_limit : ℕ
text_limit = 1048576

-- the refusal of an input with more bytes
abbrev pub too_long : Refusal
too_long = record { code = code.TooLong; place = 1048576; name = None }

-- what stands before a place, or all
abbrev pub before : Option ℕ → List ℕ → List ℕ
before None input = input
before (Some place) input = take place input

-- the text of an input stands before its first line `%%`
abbrev pub IsTextOf : List ℕ → List ℕ → Type 0
IsTextOf input text = (mark : Option ℕ) × IsFirstMark input mark × (text ≡ before mark input)

-- what is found of a text: the threats of its expanded procedures where it is accepted, and else its refusal
abbrev pub FindsIn : List ℕ → Found → Type 0
FindsIn text (found.Threats all) = (x : WholeExpansion) × Accepts text x × AreThreatened x.text.procs all
FindsIn text (found.Refused refusal) = HasRefusal text refusal
FindsIn text found.ReadFault = ⊥
FindsIn text found.NoMemory = Unit {0}

-- what is found of the text of an input that is not too long
abbrev pub FindsOf : Option (List ℕ) → Option (List ℕ) → Found → Type 0
FindsOf old new f = IsAtEnd new × IfSome old (λ input. (length input ≤ text_limit) × ((text : List ℕ) × IsTextOf input text × FindsIn text f))

-- what is found of a source's bytes, from what it had left before and has left now, and from its count of faults
abbrev pub Finds : Option (List ℕ) → Option (List ℕ) → ℕ → ℕ → Found → Type 0
Finds old new earlier now (found.Threats all) = FindsOf old new (found.Threats all)
Finds old new earlier now (found.Refused refusal) = FindsOf old new (found.Refused refusal) ⊎ ((refusal ≡ too_long) × TookMore text_limit old new)
Finds old new earlier now found.ReadFault = Rose earlier now
Finds old new earlier now found.NoMemory = Unit {0}

-- what was put is settled and the status is the whole one, or settling failed, or putting had failed
abbrev pub Settles : {T E : Type 0} → Option (List ℕ) → Option ℕ → Option ℕ → ℕ → ℕ → Result T E → ℕ → ℕ → Type 0
Settles held settled_old settled_new earlier now put whole status =
    MatchResult put (λ _. ((status ≡ whole) × IsSettled held settled_new) ⊎ ((status ≡ 4) × (settled_new ≡ settled_old) × Rose earlier now))
    (λ _. (status ≡ 4) × (settled_new ≡ settled_old))

-- a text is sent: all of it is written and settled, with its own status, or the sink failed after a prefix
abbrev pub Sends : Option (List ℕ) → Option (List ℕ) → Option ℕ → Option ℕ → ℕ → ℕ → List ℕ → ℕ → ℕ → Type 0
Sends old new settled_old settled_new earlier now text whole status =
    ((status ≡ whole) × Appends old new text × IsSettled new settled_new) ⊎ ((status ≡ 4) × AppendsPrefix old new text × (settled_new ≡ settled_old) × Rose earlier now)

-- what is found is answered: by the listing with status 0, by the line of the refusal with status 2, or by a status alone
abbrev pub AnswersBy : Option (List ℕ) → Option (List ℕ) → Option ℕ → Option ℕ → ℕ → ℕ → Found → ℕ → Type 0
AnswersBy old new settled_old settled_new earlier now (found.Threats all) status = Sends old new settled_old settled_new earlier now (listing_text all) 0 status
AnswersBy old new settled_old settled_new earlier now (found.Refused refusal) status = Sends old new settled_old settled_new earlier now (refusal_text refusal) 2 status
AnswersBy old new settled_old settled_new earlier now found.ReadFault status = status ≡ 3
AnswersBy old new settled_old settled_new earlier now found.NoMemory status = status ≡ 5

-- nothing is found
abbrev pub IsNothing : Found → Type 0
IsNothing (found.Threats all) = ⊥
IsNothing (found.Refused refusal) = ⊥
IsNothing found.ReadFault = Unit {0}
IsNothing found.NoMemory = Unit {0}
