-- What is written of a made text: the summary, once the report of all its procedures is made; nothing where memory ran out.
use Rattle.std.specs.Prelude.{◌≡◌, ℕ, ◌<◌, ◌≤◌, ◌⊎◌, false, List, length, Option, None, Some}
use Rattle.il_core.specs.Text.{Text}
use Rattle.il_edge.specs.Faults.{Rose}
use Rattle.il_edge.specs.Known.{Appends, AppendsPrefix, IsSettled}
use Rattle.made_text.specs.Made.{made_text}
use Rattle.report.specs.declared.report.Report.{Report}
use Rattle.report.specs.Status.{status_of}
use Rattle.summary_text.specs.Summary.{summary_text}
use Rattle.malpas.specs.Top.{OfInput, Tells}

-- The whole summary is written and settled, with the status of the report.
pub record IsSummed (n : ℕ) (old new : Option (List ℕ)) (settled : Option ℕ) (t : Text) (report : Report) (status : ℕ) : Type 0 where
  pub is : status ≡ status_of report
  pub low : status ≤ 1
  pub whole : length report.procs ≡ length t.procs
  pub wrote : Appends old new (summary_text n report)
  pub settles : IsSettled new settled

-- The sink failed in the summary.
pub record IsSumCut (n : ℕ) (old new : Option (List ℕ)) (settled_old settled_new : Option ℕ) (before now : ℕ) (t : Text) (report : Report) (status : ℕ) : Type 0 where
  pub is : status ≡ 4
  pub part : AppendsPrefix old new (summary_text n report)
  pub unsettled : settled_new ≡ settled_old
  pub rose : Rose before now

-- Memory ran out before the report of each procedure was made.
pub record IsUnsummed (t : Text) (report : Report) (status : ℕ) : Type 0 where
  pub is : status ≡ 5
  pub fewer : length report.procs < length t.procs

-- What is written of a made text and the report of its first procedures; with no report memory ran out before the first.
abbrev pub Summarises : ℕ → Option (List ℕ) → Option (List ℕ) → Option ℕ → Option ℕ → ℕ → ℕ → Text → Option Report → ℕ → Type 0
Summarises n old new settled_old settled_new before now t None status = status ≡ 5
Summarises n old new settled_old settled_new before now t (Some report) status =
    IsSummed n old new settled_new t report status ⊎ IsSumCut n old new settled_old settled_new before now t report status ⊎ IsUnsummed t report status

-- What the report of a made text says, and what is written where the sink failed.
abbrev pub IsMadeReported : ℕ → Option (List ℕ) → Option (List ℕ) → ℕ → Report → Type 0
IsMadeReported n held_old held_new status report =
    OfInput false (Some (made_text n)) (λ x certs. Tells x certs report status × (status ≡ 4 → AppendsPrefix held_old held_new (summary_text n report)))
