-- What the bytes of a source are judged to be, and how a line is sent that answers all of them.
use Rattle.std.specs.Prelude.{◌≡◌, ℕ, Bool, ◌⊎◌, List, Option, IfSome, Result, MatchResult}
use Rattle.il_edge.specs.Faults.{Rose}
use Rattle.il_edge.specs.Known.{IsAtEnd, TookMore, Appends, AppendsPrefix, IsSettled}
use Rattle.il_inline.specs.Expanded.{IsExpandedText, whole_of}
use Rattle.malpas.specs.Input.{text_limit, AcceptsInput, RefusesParts, NoneUnasked}
use Rattle.malpas.specs.declared.answer.Judged.{Judged}
use Rattle.malpas.specs.declared.answer.Judged.TheVariants as judged

-- What an input of at most the greatest length is judged to be.
abbrev pub JudgesBytes : Bool → List ℕ → Judged → Type 0
JudgesBytes certificates bytes (judged.Accepted input) = AcceptsInput certificates bytes (whole_of input.text) input.certs × NoneUnasked certificates input.certs × IsExpandedText input.text
JudgesBytes certificates bytes (judged.Refused refusal) = RefusesParts certificates bytes refusal
JudgesBytes certificates bytes judged.TooLong = ⊥
JudgesBytes certificates bytes judged.ReadFault = ⊥
JudgesBytes certificates bytes judged.NoMemory = Unit {0}

-- What a source's bytes are judged to be, from what it had left before and has left now, and from its count of faults.
abbrev pub Judges : Bool → Option (List ℕ) → Option (List ℕ) → ℕ → ℕ → Judged → Type 0
Judges certificates old new before now (judged.Accepted input) =
    IsAtEnd new × NoneUnasked certificates input.certs × IfSome old (λ bytes. AcceptsInput certificates bytes (whole_of input.text) input.certs) × IsExpandedText input.text
Judges certificates old new before now (judged.Refused refusal) = IsAtEnd new × IfSome old (λ bytes. RefusesParts certificates bytes refusal)
Judges certificates old new before now judged.TooLong = TookMore text_limit old new
Judges certificates old new before now judged.ReadFault = Rose before now
Judges certificates old new before now judged.NoMemory = Unit {0}

-- What was put is settled and the status is the whole one, or settling failed, or putting had failed.
abbrev pub Settles : {T E : Type 0} → Option (List ℕ) → Option ℕ → Option ℕ → ℕ → ℕ → Result T E → ℕ → ℕ → Type 0
Settles held settled_old settled_new before now put whole status =
    MatchResult put (λ _. ((status ≡ whole) × IsSettled held settled_new) ⊎ ((status ≡ 4) × (settled_new ≡ settled_old) × Rose before now))
    (λ _. (status ≡ 4) × (settled_new ≡ settled_old))

-- A text is sent: all of it is written and settled, with its own status, or the sink failed after a prefix.
abbrev pub Sends : Option (List ℕ) → Option (List ℕ) → Option ℕ → Option ℕ → ℕ → ℕ → List ℕ → ℕ → ℕ → Type 0
Sends old new settled_old settled_new before now text whole status =
    ((status ≡ whole) × Appends old new text × IsSettled new settled_new) ⊎ ((status ≡ 4) × AppendsPrefix old new text × (settled_new ≡ settled_old) × Rose before now)
