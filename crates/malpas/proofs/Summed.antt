-- What the report of a made text and its summary say, at each of their ends.
use Rattle.std.proofs.Common.{◌≡◌, ◌⊎◌, ℕ, ◌<◌, ◌≤◌, inl, inr, Bool, true, false, not, List, [], length, Option, None, Some, IfSome, refl, sym, ◌∙◌, subst, arith}
use Rattle.il_core.specs.declared.refusal.Refusal.{Refusal}
use Rattle.il_edge.specs.Faults.{Rose}
use Rattle.std.specs.Bool.{then_some}
use Rattle.il_core.specs.Text.{Text}
use Rattle.il_inline.specs.Expanded.{WholeExpansion}
use Rattle.il_edge.specs.Known.{AppendsPrefix}
use Rattle.acceptance.specs.Acceptance.{Accepts, HasRefusal}
use Rattle.made_text.specs.Made.{made_text}
use Rattle.report.proofs.Clean.{no_bad_run}
use Rattle.report.proofs.Fronts.{told_all}
use Rattle.report.specs.Headline.{IsTold, NoProcedureHasABadRun}
use Rattle.report.specs.Status.{status_of}
use Rattle.report.specs.declared.report.Report.{Report}
use Rattle.summary_text.specs.Summary.{summary_text}
use Rattle.malpas.specs.Answer.{Sends}
use Rattle.malpas.specs.Input.{text_limit, AcceptsInput}
use Rattle.malpas.specs.Made.{IsMadeReported, Summarises}
use Rattle.malpas.specs.Top.{HasAll, HasFewer, BelongsTo, IfAsked, IsReported}
use Rattle.request.specs.Words.{Understands}
use Rattle.request.specs.declared.spelt.Request.{Request}

-- All is made and the summary is sent.
pub summed : (n : ℕ) (old new : Option (List ℕ)) (settled_old settled_new : Option ℕ) (before now : ℕ) (t : Text) (report : Report) (status : ℕ)
    → length report.procs ≡ length t.procs → status_of report ≤ 1
    → Sends old new settled_old settled_new before now (summary_text n report) (status_of report) status
    → Summarises n old new settled_old settled_new before now t (Some report) status
summed n old new settled_old settled_new before now t report status whole low sent =
    elim sent [
      | inl done ↦ let two = done in inl (record { is = two.0; low = subst (λ (k : ℕ). k ≤ 1) (sym two.0) low; whole = whole; wrote = two.1; settles = two.2 })
      | inr cut ↦ inr (inl (record { is = cut.0; part = cut.1; unsettled = cut.2; rose = cut.3 }))
    ]

-- Memory ran out before all was made.
pub unsummed : (n : ℕ) (old new : Option (List ℕ)) (settled_old settled_new : Option ℕ) (before now : ℕ) (t : Text) (report : Report) (empty : Bool) (result : Option Report) (status : ℕ)
    → status ≡ 5 → result ≡ then_some (not empty) report → length report.procs < length t.procs → Summarises n old new settled_old settled_new before now t result status
unsummed n old new settled_old settled_new before now t report true result status is gives fewer =
    subst (λ (r : Option Report). Summarises n old new settled_old settled_new before now t r status) (sym gives) is
unsummed n old new settled_old settled_new before now t report false result status is gives fewer =
    subst (λ (r : Option Report). Summarises n old new settled_old settled_new before now t r status) (sym gives) (inr (inr (record { is = is; fewer = fewer })))

whole : (n : ℕ) (old new : Option (List ℕ)) (settled_old settled_new : Option ℕ) (before now : ℕ) (t : Text) (report : Report) (status : ℕ)
    → Summarises n old new settled_old settled_new before now t (Some report) status → status ≤ 1 → HasAll report t
whole n old new settled_old settled_new before now t report status ends low =
    elim ends [
      | inl done ↦ done.whole
      | inr rest ↦ elim rest [ inl cut ↦ absurd (omega (arith, cut.is, low)) | inr short ↦ absurd (omega (arith, short.is, low)) ]
    ]

fewer : (n : ℕ) (old new : Option (List ℕ)) (settled_old settled_new : Option ℕ) (before now : ℕ) (t : Text) (report : Report) (status : ℕ)
    → Summarises n old new settled_old settled_new before now t (Some report) status → status ≡ 5 → HasFewer report t
fewer n old new settled_old settled_new before now t report status ends five =
    elim ends [
      | inl done ↦ absurd (omega (arith, done.low, five))
      | inr rest ↦ elim rest [ inl cut ↦ absurd (omega (arith, cut.is, five)) | inr short ↦ short.fewer ]
    ]

part : (n : ℕ) (old new : Option (List ℕ)) (settled_old settled_new : Option ℕ) (before now : ℕ) (t : Text) (report : Report) (status : ℕ)
    → Summarises n old new settled_old settled_new before now t (Some report) status → status ≡ 4 → AppendsPrefix old new (summary_text n report)
part n old new settled_old settled_new before now t report status ends four =
    elim ends [
      | inl done ↦ absurd (omega (arith, done.low, four))
      | inr rest ↦ elim rest [ inl cut ↦ cut.part | inr short ↦ absurd (omega (arith, short.is, four)) ]
    ]

-- With status 0 no procedure has a bad run.
clean : (n : ℕ) (old new : Option (List ℕ)) (settled_old settled_new : Option ℕ) (before now : ℕ) (x : WholeExpansion) (report : Report) (status : ℕ) → length x.spans ≡ length x.text.procs
    → Summarises n old new settled_old settled_new before now x.text (Some report) status → IsTold [] x report → status ≡ 0 → NoProcedureHasABadRun x.text
clean n old new settled_old settled_new before now x report status spans ends told zero =
    elim ends [
      | inl done ↦ no_bad_run [] x report (told_all [] x report (omega (arith, done.whole)) spans told) told.1.certified (sym done.is ∙ zero)
      | inr rest ↦ elim rest [ inl cut ↦ absurd (omega (arith, cut.is, zero)) | inr short ↦ absurd (omega (arith, short.is, zero)) ]
    ]

-- A made text is an input without certificates.
made_input : (n : ℕ) (x : WholeExpansion) → length (made_text n) ≤ text_limit → Accepts (made_text n) x → AcceptsInput false (made_text n) x []
made_input n x short accepted = record { short = short; mark = None; cut = refl; text = accepted; read = refl }

-- What is told of the first procedures of the made text is what the report says of it.
pub made_reported : (n : ℕ) (old new : Option (List ℕ)) (settled_old settled_new : Option ℕ) (before now : ℕ) (x : WholeExpansion) (report : Option Report) (status : ℕ) → length x.spans ≡ length x.text.procs
    → length (made_text n) ≤ text_limit → Accepts (made_text n) x → IfSome report (λ r. IsTold [] x r × (0 < length r.procs))
    → Summarises n old new settled_old settled_new before now x.text report status → IfSome report (IsMadeReported n old new status)
made_reported n old new settled_old settled_new before now x None status spans short accepted told ends = tt
made_reported n old new settled_old settled_new before now x (Some report) status spans short accepted told ends = (
  x,
  [],
  refl,
  made_input n x short accepted,
  (
    record {
      reported = told.0.0;
      some = told.1;
      whole = whole n old new settled_old settled_new before now x.text report status ends;
      fewer = fewer n old new settled_old settled_new before now x.text report status ends;
      one_row = told.0.1.one_row;
      safe = told.0.1.safe;
      certified = told.0.1.certified;
      clean = clean n old new settled_old settled_new before now x report status spans ends told.0;
      equal_values = told.0.1.equal_values;
    },
    part n old new settled_old settled_new before now x.text report status ends,
  ),
)

-- Where the sink failed there is a report.
pub not_silent : (n : ℕ) (old new : Option (List ℕ)) (settled_old settled_new : Option ℕ) (before now : ℕ) (t : Text) (report : Option Report) (status : ℕ)
    → Summarises n old new settled_old settled_new before now t report status → status ≡ 4 → report ≡ None → ⊥
not_silent n old new settled_old settled_new before now t None status ends four none = omega (arith, ends, four)
not_silent n old new settled_old settled_new before now t (Some report) status ends four none = cc

-- Where the sink did not fail, what is answered belongs to the made text, or memory ran out.
pub belongs : (n : ℕ) (old new : Option (List ℕ)) (settled_old settled_new : Option ℕ) (before now : ℕ) (x : WholeExpansion) (refusal : Option Refusal) (report : Option Report) (status : ℕ)
    → refusal ≡ None → length (made_text n) ≤ text_limit → Accepts (made_text n) x → IfSome report (λ r. IsTold [] x r × (0 < length r.procs))
    → Summarises n old new settled_old settled_new before now x.text report status → (Rose before now → ⊥) → (status ≡ 5) ⊎ BelongsTo false (made_text n) refusal report status
belongs n old new settled_old settled_new before now x refusal None status none short accepted told ends calm = inl ends
belongs n old new settled_old settled_new before now x refusal (Some report) status none short accepted told ends calm =
    elim ends [
      | inl done ↦ inr (subst (λ (r : Option Refusal). BelongsTo false (made_text n) r (Some report) status) (sym none) (done.is, (x, [], made_input n x short accepted, told.0.0, done.whole)))
      | inr rest ↦ elim rest [ inl cut ↦ absurd (calm cut.rose) | inr short_of ↦ inl short_of.is ]
    ]

-- So it is where the made text is refused.
pub refused_belongs : (n : ℕ) (old new : Option (List ℕ)) (settled_old settled_new : Option ℕ) (before now : ℕ) (refusal : Refusal) (text : List ℕ) (given : Option Refusal) (report : Option Report) (status : ℕ)
    → given ≡ Some refusal → report ≡ None → length (made_text n) ≤ text_limit → HasRefusal (made_text n) refusal
    → Sends old new settled_old settled_new before now text 2 status → (Rose before now → ⊥) → (status ≡ 5) ⊎ BelongsTo false (made_text n) given report status
refused_belongs n old new settled_old settled_new before now refusal text given report status is none short refused sent calm =
    elim sent [
      | inl done ↦ inr (subst (λ (r : Option Refusal). BelongsTo false (made_text n) r report status) (sym is)
          (subst (λ (r : Option Report). BelongsTo false (made_text n) (Some refusal) r status) (sym none) (done.0, inr (record { short = short; mark = None; cut = refl; first = inl refused }))))
      | inr cut ↦ absurd (calm cut.3)
    ]

-- What the report of a made text says is what the words ask it to say.
pub asked_made : (words : List (List ℕ)) (request : Request) (n : ℕ) (left_old left_new old new : Option (List ℕ)) (report : Option Report) (status : ℕ)
    → Understands words (Some request) → request.generate ≡ Some n → IfSome report (IsMadeReported n old new status)
    → IfAsked words (λ asked. IfSome report (IsReported asked.generate asked.selection left_old left_new old new status))
asked_made words request n left_old left_new old new report status understood made says =
    (Some request, understood, subst (λ (m : Option ℕ). IfSome report (IsReported m request.selection left_old left_new old new status)) (sym made) (by report says))
  where
    by : (r : Option Report) → IfSome r (IsMadeReported n old new status) → IfSome r (IsReported (Some n) request.selection left_old left_new old new status)
    by None h = tt
    by (Some x) h = (tt, h)
