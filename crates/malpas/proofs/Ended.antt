-- What the writing of a report has left in the sink, at each of its ends.
use Rattle.std.proofs.Common.{◌≡◌, ℕ, ◌<◌, ◌≤◌, inl, inr, Bool, true, false, not, List, [], ◌∷◌, ◌++◌, length, Option, Some, refl, sym, ap, subst, eq-eqb, arith, IsTrue, if◌then◌else◌}
use Rattle.std.proofs.lemmas.Bool.{false≢true}
use Rattle.std.proofs.KnownBytes.{Appends-trans}
use Rattle.std.specs.Bool.{then_some}
use Rattle.il_core.specs.Text.{Text}
use Rattle.il_edge.specs.Known.{Appends, AppendsPrefix, IsSettled}
use Rattle.report.specs.declared.report.ProcReport.{ProcReport}
use Rattle.report.specs.declared.report.Report.{Report}
use Rattle.request.specs.declared.selection.Selection.{Selection}
use Rattle.report_text.specs.Report.{head_text, end_text, parts_text, report_text}
use Rattle.report.specs.Status.{status_of}
use Rattle.form_text.proofs.Written.{prefix_behind, prefix_more}
use Rattle.malpas.specs.Answer.{Sends}
use Rattle.malpas.specs.Parts.{before_last, text_due, IsSettledBehind, AreSent, AreCut, Reports}
use Rattle.malpas.proofs.Sent.{text_with_some, parts_before, settled_behind, keeps}

-- A list that is not empty has a member.
some_member : (ps : List ProcReport) → (ps ≡ [] → ⊥) → 0 < length ps
some_member [] none = absurd (none refl)
some_member (p ∷ ps) none = omega arith

-- All is settled behind parts, where there are any.
settled_some : (ps : List ProcReport) (held : Option (List ℕ)) (settled : Option ℕ) → 0 < length ps → IsSettledBehind ps held settled → IsSettled held settled
settled_some [] held settled some settles = absurd (omega arith)
settled_some (p ∷ ps) held settled some settles = settles

-- A report with a procedure is given.
pub given : (report : Report) (empty : Bool) (result : Option Report) → result ≡ then_some (not empty) report → (IsTrue empty → report.procs ≡ []) → 0 < length report.procs
    → result ≡ Some report
given report true result is none some = let zero : length report.procs ≡ 0 = ap length (none refl) in absurd (omega arith)
given report false result is none some = is

-- With all procedures the line with the status is due too.
due_whole : (sections : Selection) (t : Text) (report : Report) → length report.procs ≡ length t.procs → text_due sections t report ≡ report_text sections report
due_whole sections t report whole =
    ap (λ (b : Bool). head_text report ++ parts_text sections report.procs ++ (if b then end_text (status_of report) else [])) (eq-eqb (length report.procs) (length t.procs) whole)

-- All parts are written, and then the line with the status, or the sink failed in it.
pub ended : (sections : Selection) (old mid new : Option (List ℕ)) (settled_mid settled : Option ℕ) (faults_old faults_mid faults_new : ℕ) (t : Text) (report : Report) (status : ℕ)
    → 0 < length t.procs → length report.procs ≡ length t.procs → AreSent sections old mid settled_mid report
    → Sends mid new settled_mid settled faults_mid faults_new (end_text (status_of report)) (status_of report) status → status_of report ≤ 1 → faults_old ≤ faults_mid
    → Reports sections old new settled faults_old faults_new t (Some report) status
ended sections old mid new settled_mid settled faults_old faults_mid faults_new t report status full whole sent ends low later =
    let some : 0 < length report.procs = omega (arith, full, whole) in
    let wrote : Appends old mid (head_text report ++ parts_text sections report.procs) = subst (Appends old mid) (text_with_some sections report report.procs some) sent.wrote in
    elim ends [
      | inl done ↦ inl (record {
        is = done.0;
        low = rw done.0 low;
        whole = whole;
        wrote = Appends-trans old mid new _ _ wrote done.1;
        settles = done.2;
      })
      | inr cut ↦
          let before = parts_before sections report some in
          let settles : IsSettled mid settled = subst (IsSettled mid) (sym cut.2) (settled_some report.procs mid settled_mid some sent.settles) in
          inr (inl (record {
            is = cut.0;
            part = subst (AppendsPrefix old new) (sym (due_whole sections t report whole)) (prefix_behind old mid new _ _ wrote cut.1);
            kept = keeps sections old mid new settled report (before_last report.procs) _ before.0 cut.1.0 before.1 sent.wrote (settled_behind (before_last report.procs) mid settled settles) cut.1.3;
            rose = omega (arith, later, cut.3);
          }))
    ]

-- The sink failed in a part.
pub ended_in : (sections : Selection) (old new : Option (List ℕ)) (settled : Option ℕ) (before now : ℕ) (t : Text) (report : Report) (status : ℕ) → status ≡ 4
    → AreCut sections old new settled before now report → Reports sections old new settled before now t (Some report) status
ended_in sections old new settled before now t report status is cut =
    inr (inl (record { is = is; part = prefix_more old new (head_text report ++ parts_text sections report.procs) _ cut.part; kept = cut.kept; rose = cut.rose }))

-- Memory ran out before the next part.
pub ended_short : (sections : Selection) (old new : Option (List ℕ)) (settled : Option ℕ) (before now : ℕ) (t : Text) (report : Report) (empty : Bool) (result : Option Report) (status : ℕ) → status ≡ 5
    → result ≡ then_some (not empty) report → (report.procs ≡ [] → IsTrue empty) → length report.procs < length t.procs → AreSent sections old new settled report
    → Reports sections old new settled before now t result status
ended_short sections old new settled before now t report true result status is gives some fewer sent = subst (λ (r : Option Report). Reports sections old new settled before now t r status) (sym gives) is
ended_short sections old new settled before now t report false result status is gives some fewer sent =
    let more = some_member report.procs (λ none. false≢true (some none)) in
    subst (λ (r : Option Report). Reports sections old new settled before now t r status) (sym gives) (inr (inr (record {
      is = is;
      fewer = fewer;
      wrote = subst (Appends old new) (text_with_some sections report report.procs more) sent.wrote;
      settles = settled_some report.procs new settled more sent.settles;
    })))
