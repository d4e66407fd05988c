-- How a report is written, procedure by procedure: the head before the first part, each part behind those before it, and all of it is settled
-- before the next procedure is made.
use Rattle.std.specs.Prelude.{◌≡◌, ℕ, ◌-◌, ◌<◌, ◌≤◌, ◌==◌, ◌⊎◌, List, [], ◌∷◌, ◌++◌, length, take, drop, Option, None, Some, Result, Ok, Err, MatchResult, if◌then◌else◌}
use Rattle.il_core.specs.Text.{Text}
use Rattle.il_edge.specs.Faults.{Rose}
use Rattle.il_edge.specs.Known.{Appends, AppendsPrefix, IsSettled}
use Rattle.report.specs.declared.report.ProcReport.{ProcReport}
use Rattle.report.specs.declared.report.Report.{Report}
use Rattle.request.specs.declared.selection.Selection.{Selection}
use Rattle.report_text.specs.Report.{head_text, end_text, parts_text, report_text}
use Rattle.report.specs.Status.{status_of}
use Rattle.malpas.specs.declared.reporting.PartsEnd.{PartsEnd}
use Rattle.malpas.specs.declared.reporting.PartsEnd.TheVariants as end

abbrev pub before_last : List ProcReport → List ProcReport
before_last procs = take (length procs - 1) procs

abbrev pub last_alone : List ProcReport → List ProcReport
last_alone procs = drop (length procs - 1) procs

-- the head of a report and these of its parts; nothing before the first part
abbrev pub text_with : Selection → Report → List ProcReport → List ℕ
text_with sections report [] = []
text_with sections report (p ∷ ps) = head_text report ++ parts_text sections (p ∷ ps)

-- the head, where there is one procedure
abbrev pub first_text : Report → List ℕ
first_text report = if length report.procs == 1 then head_text report else []

-- what the last procedure adds: its part, with the head before it where it is the first
abbrev pub next_text : Selection → Report → List ℕ
next_text sections report = first_text report ++ parts_text sections (last_alone report.procs)

-- the text that is due to a report of a text's first procedures: the line with the status only where it has all of them
abbrev pub text_due : Selection → Text → Report → List ℕ
text_due sections t report = head_text report ++ parts_text sections report.procs ++ (if length report.procs == length t.procs then end_text (status_of report) else [])

-- What is held has grown by `bytes`, and maybe by more behind them.
abbrev pub AppendsPast : Option (List ℕ) → Option (List ℕ) → List ℕ → Type 0
AppendsPast old new bytes = (more : List ℕ) × Appends old new (bytes ++ more)

-- At least what was held and `bytes` behind it is settled.
abbrev pub SettledPast : Option (List ℕ) → Option ℕ → List ℕ → Type 0
SettledPast None settled bytes = Unit {0}
SettledPast (Some held) None bytes = ⊥
SettledPast (Some held) (Some count) bytes = length (held ++ bytes) ≤ count

-- These parts of a report, if any, are written and settled.
abbrev pub KeepsParts : Selection → Option (List ℕ) → Option (List ℕ) → Option ℕ → Report → List ProcReport → Type 0
KeepsParts sections old new settled report [] = Unit {0}
KeepsParts sections old new settled report (p ∷ ps) = AppendsPast old new (text_with sections report (p ∷ ps)) × SettledPast old settled (text_with sections report (p ∷ ps))

-- Nothing but parts that are all settled was written.
abbrev pub IsSettledBehind : List ProcReport → Option (List ℕ) → Option ℕ → Type 0
IsSettledBehind [] held settled = Unit {0}
IsSettledBehind (p ∷ ps) held settled = IsSettled held settled

-- All parts of a report are written and settled.
pub record AreSent (sections : Selection) (old new : Option (List ℕ)) (settled : Option ℕ) (report : Report) : Type 0 where
  pub wrote : Appends old new (text_with sections report report.procs)
  pub settles : IsSettledBehind report.procs new settled

-- The sink failed in the last part of a report; those before it are written and settled.
pub record AreCut (sections : Selection) (old new : Option (List ℕ)) (settled : Option ℕ) (before now : ℕ) (report : Report) : Type 0 where
  pub some : 0 < length report.procs
  pub part : AppendsPrefix old new (head_text report ++ parts_text sections report.procs)
  pub kept : KeepsParts sections old new settled report (before_last report.procs)
  pub rose : Rose before now

-- The part of the next procedure is written and settled, or the sink failed after a prefix of it.
abbrev pub SendsNext : {T E : Type 0} → Selection → Option (List ℕ) → Option (List ℕ) → Option ℕ → Option ℕ → ℕ → ℕ → Report → Result T E → Type 0
SendsNext sections old new settled_old settled_new before now report result =
    MatchResult result (λ _. Appends old new (next_text sections report) × IsSettled new settled_new)
    (λ _. AppendsPrefix old new (next_text sections report) × (settled_new ≡ settled_old) × Rose before now)

-- What is written of the parts of `count` procedures: all; or the sink failed; or memory ran out before the next one.
abbrev pub SendsParts : {T : Type 0} → Selection → Option (List ℕ) → Option (List ℕ) → Option ℕ → ℕ → ℕ → ℕ → Report → Result T PartsEnd → Type 0
SendsParts sections old new settled before now count report (Ok done) = (length report.procs ≡ count) × AreSent sections old new settled report
SendsParts sections old new settled before now count report (Err end.Failed) = AreCut sections old new settled before now report
SendsParts sections old new settled before now count report (Err end.NoMemory) = (length report.procs < count) × AreSent sections old new settled report

-- The whole report is written and settled, with its status.
pub record IsDone (sections : Selection) (old new : Option (List ℕ)) (settled : Option ℕ) (t : Text) (report : Report) (status : ℕ) : Type 0 where
  pub is : status ≡ status_of report
  pub low : status ≤ 1
  pub whole : length report.procs ≡ length t.procs
  pub wrote : Appends old new (report_text sections report)
  pub settles : IsSettled new settled

-- The sink failed: a prefix of what is due is written, and the parts before the last one are settled.
pub record IsCut (sections : Selection) (old new : Option (List ℕ)) (settled : Option ℕ) (before now : ℕ) (t : Text) (report : Report) (status : ℕ) : Type 0 where
  pub is : status ≡ 4
  pub part : AppendsPrefix old new (text_due sections t report)
  pub kept : KeepsParts sections old new settled report (before_last report.procs)
  pub rose : Rose before now

-- Memory ran out before the next procedure: the parts of those before it are written and settled.
pub record IsShort (sections : Selection) (old new : Option (List ℕ)) (settled : Option ℕ) (t : Text) (report : Report) (status : ℕ) : Type 0 where
  pub is : status ≡ 5
  pub fewer : length report.procs < length t.procs
  pub wrote : Appends old new (head_text report ++ parts_text sections report.procs)
  pub settles : IsSettled new settled

-- What is written of the report of a checked text, and the status behind it; with no report memory ran out before the first procedure.
abbrev pub Reports : Selection → Option (List ℕ) → Option (List ℕ) → Option ℕ → ℕ → ℕ → Text → Option Report → ℕ → Type 0
Reports sections old new settled before now t None status = status ≡ 5
Reports sections old new settled before now t (Some report) status =
    IsDone sections old new settled t report status ⊎ IsCut sections old new settled before now t report status ⊎ IsShort sections old new settled t report status
