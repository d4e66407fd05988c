-- What an outcome says: its status is that of what it holds, its text belongs to what it holds and to what the words ask for, and what it holds
-- belongs to the input that was read, or to the text that was made.
use Rattle.std.specs.Prelude.{◌≡◌, ℕ, ◌<◌, ◌≤◌, ◌⊎◌, ◌++◌, Bool, false, List, length, Option, None, Some, IfSome}
use Rattle.il_core.specs.Text.{Text}
use Rattle.il_core.specs.declared.certificate.NamedCert.{NamedCert}
use Rattle.il_core.specs.declared.refusal.Refusal.{Refusal}
use Rattle.il_inline.specs.Expanded.{WholeExpansion}
use Rattle.il_edge.specs.Known.{IsAtEnd, TookMore, Appends, AppendsPrefix, IsSettled}
use Rattle.made_text.specs.Made.{made_text}
use Rattle.report.specs.declared.report.Report.{Report}
use Rattle.report.specs.Headline.{TablesHaveOneRowPerInput, CleanProceduresHaveNoBadRun, SettledProceduresHaveNoBadRun, NoProcedureHasABadRun, EndingRunsHaveEqualValues}
use Rattle.report.specs.Reported.{IsReportOfFront}
use Rattle.report.specs.Status.{status_of}
use Rattle.report_text.specs.Report.{head_text, parts_text, report_text}
use Rattle.report_text.specs.Refusal.{refusal_text, words_text}
use Rattle.acceptance.specs.Acceptance.{HasRefusal}
use Rattle.malpas.specs.Input.{text_limit, too_long, AcceptsInput, RefusesParts, RefusesInput, NoneUnasked}
use Rattle.request.specs.Words.{Understands}
use Rattle.request.specs.declared.selection.Selection.{Selection}
use Rattle.request.specs.declared.spelt.Request.{Request}
use Rattle.summary_text.specs.Summary.{summary_text}
use Rattle.malpas.specs.Parts.{before_last, text_due, KeepsParts}
use Rattle.malpas.specs.declared.top.Outcome.{Outcome}

-- The status that goes with a refusal or a report: with a report its own, 0 or 1, or 4 or 5; 2 or 4 with a refusal; 3, 4, 5 or 6 with neither.
abbrev pub HasStatus : Option Refusal → Option Report → ℕ → Type 0
HasStatus None None status = (status ≡ 3) ⊎ (status ≡ 4) ⊎ (status ≡ 5) ⊎ (status ≡ 6)
HasStatus None (Some report) status = ((status ≡ status_of report) × (status ≤ 1)) ⊎ (status ≡ 4) ⊎ (status ≡ 5)
HasStatus (Some refusal) None status = (status ≡ 2) ⊎ (status ≡ 4)
HasStatus (Some refusal) (Some report) status = ⊥

-- The line of a refusal; where there is none, the line that answers words.
abbrev pub line_text : Option Refusal → List ℕ
line_text None = words_text
line_text (Some refusal) = refusal_text refusal

-- The words spell a request and it has this property, or they spell none. No words spell two requests.
abbrev pub IfAsked : List (List ℕ) → (Request → Type 0) → Type 0
IfAsked words Has = (request : Option Request) × Understands words request × IfSome request Has

-- The input of a request: all bytes that a source has left, or the made text of the number.
abbrev pub input_asked : Option ℕ → Option (List ℕ) → Option (List ℕ)
input_asked None left = left
input_asked (Some n) left = Some (made_text n)

-- Certificates are read where their section is selected and no text is made.
abbrev pub reads_certificates : Option ℕ → Selection → Bool
reads_certificates None sections = sections.certificates
reads_certificates (Some n) sections = false

-- The text of a whole report: its selected sections, or the summary where the text was made.
abbrev pub whole_text : Option ℕ → Selection → Report → List ℕ
whole_text None sections report = report_text sections report
whole_text (Some n) sections report = summary_text n report

-- The text that is due to a report of a text's first procedures; the summary is begun once there are all.
abbrev pub due_text : Option ℕ → Selection → Text → Report → List ℕ
due_text None sections t report = text_due sections t report
due_text (Some n) sections t report = summary_text n report

-- The whole text was written.
abbrev pub IsWritten : ℕ → Type 0
IsWritten status = (status ≤ 1) ⊎ (status ≡ 2) ⊎ (status ≡ 6)

-- Nothing was written: the source failed, or memory ran out before there was a part.
abbrev pub IsSilent : Option Report → ℕ → Type 0
IsSilent report status = (status ≡ 3) ⊎ ((status ≡ 5) × (report ≡ None))

-- The answer says that the words are not understood, or failed to say so.
abbrev pub IsForWords : Outcome → Type 0
IsForWords outcome = (outcome.status ≡ 6) ⊎ ((outcome.status ≡ 4) × (outcome.refusal ≡ None) × (outcome.report ≡ None))

-- An input, where its bytes are told, is accepted, and its expanded text and its certificates have this property; there are no certificates
-- where they are not asked for.
abbrev pub OfInput : Bool → Option (List ℕ) → (WholeExpansion → List NamedCert → Type 0) → Type 0
OfInput certificates input Has =
    (x : WholeExpansion) × (certs : List NamedCert) × NoneUnasked certificates certs × IfSome input (λ bytes. AcceptsInput certificates bytes x certs) × Has x certs

-- A report has all procedures of a text.
abbrev pub HasAll : Report → Text → Type 0
HasAll report t = length report.procs ≡ length t.procs

-- A report has not all procedures of a text.
abbrev pub HasFewer : Report → Text → Type 0
HasFewer report t = length report.procs < length t.procs

-- What a report that was written for a text and certificates says of the text's expansion, whose procedures have no calls: it is the report of its
-- first procedures, at least one, with a row for each certificate that names one of them, of all of them where it was written whole, and not of all
-- where memory ran out. Each table of a region within its size has exactly one row for each input of the region, and stepping the lines from the
-- input gives the row's stop and values. Where a reducible procedure has every table within its size and every threat refuted, or refuted or
-- certified by a row that holds, no run from the precondition faults, fails an assertion or ends outside the postcondition; with status 0 this is
-- so of each procedure. Ending runs that agree on a variable's reported sources give it equal values.
pub record Tells (x : WholeExpansion) (certs : List NamedCert) (report : Report) (status : ℕ) : Type 0 where
  pub reported : IsReportOfFront certs x report
  pub some : 0 < length report.procs
  pub whole : status ≤ 1 → HasAll report x.text
  pub fewer : status ≡ 5 → HasFewer report x.text
  pub one_row : TablesHaveOneRowPerInput x.text report
  pub safe : CleanProceduresHaveNoBadRun x.text report
  pub certified : SettledProceduresHaveNoBadRun x.text report
  pub clean : status ≡ 0 → NoProcedureHasABadRun x.text
  pub equal_values : EndingRunsHaveEqualValues x.text report

-- A source is read to its end, unless the text is made.
abbrev pub IsReadUp : Option ℕ → Option (List ℕ) → Type 0
IsReadUp None left = IsAtEnd left
IsReadUp (Some n) left = Unit {0}

-- The report says so of one text's expansion, that of the input that is asked for, which is read to its end where it is not made, and of its
-- certificates; and where the sink failed, what it holds has grown by a prefix of what is due to that text and the report.
abbrev pub IsReported : Option ℕ → Selection → Option (List ℕ) → Option (List ℕ) → Option (List ℕ) → Option (List ℕ) → ℕ → Report → Type 0
IsReported made sections left_old left_new held_old held_new status report = IsReadUp made left_new
    × OfInput (reads_certificates made sections) (input_asked made left_old) (λ x certs.
    Tells x certs report status × (status ≡ 4 → AppendsPrefix held_old held_new (due_text made sections x.text report)))

-- Where memory ran out, what the sink holds has grown by the parts of the report, and all of it is settled; by nothing where the text is made.
abbrev pub IsCutShort : Option ℕ → Selection → Option (List ℕ) → Option (List ℕ) → Option ℕ → Option ℕ → Report → Type 0
IsCutShort None sections old new settled_old settled_new report = Appends old new (head_text report ++ parts_text sections report.procs) × IsSettled new settled_new
IsCutShort (Some n) sections old new settled_old settled_new report = (new ≡ old) × (settled_new ≡ settled_old)

-- Where the sink failed in a part, those before it are written and settled.
abbrev pub KeepsOthers : Option ℕ → Selection → Option (List ℕ) → Option (List ℕ) → Option ℕ → Report → Type 0
KeepsOthers None sections old new settled report = KeepsParts sections old new settled report (before_last report.procs)
KeepsOthers (Some n) sections old new settled report = Unit {0}

-- The refusal of the input that is asked for. Of bytes that were taken: there are too many, or they are all that there were, and this is the first
-- refusal of their text or, where that has none, of their certificates.
abbrev pub IsRefused : Option ℕ → Selection → Option (List ℕ) → Option (List ℕ) → Refusal → Type 0
IsRefused None sections old new refusal =
    ((refusal ≡ too_long) × TookMore text_limit old new) ⊎ (IsAtEnd new × IfSome old (λ bytes. RefusesParts sections.certificates bytes refusal))
IsRefused (Some n) sections old new refusal = HasRefusal (made_text n) refusal

-- The refusal or the whole report that belongs to an input, with its status.
abbrev pub BelongsTo : Bool → List ℕ → Option Refusal → Option Report → ℕ → Type 0
BelongsTo certificates input None None status = ⊥
BelongsTo certificates input None (Some report) status = (status ≡ status_of report)
    × ((x : WholeExpansion) × (certs : List NamedCert) × AcceptsInput certificates input x certs × IsReportOfFront certs x report × HasAll report x.text)
BelongsTo certificates input (Some refusal) None status = (status ≡ 2) × RefusesInput certificates input refusal
BelongsTo certificates input (Some refusal) (Some report) status = ⊥
