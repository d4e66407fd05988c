-- What the outcome says of an accepted text follows from what was made and written of its expansion.
use Rattle.std.proofs.Common.{◌≡◌, ℕ, ◌<◌, ◌≤◌, inl, inr, List, length, Option, None, Some, IfSome, arith, sym, ◌∙◌}
use Rattle.std.proofs.lemmas.List.{length-map}
use Rattle.il_core.specs.Text.{Text, text_procedure, text_of}
use Rattle.il_core.specs.declared.certificate.NamedCert.{NamedCert}
use Rattle.il_inline.specs.Expanded.{IsExpandedText, WholeExpansion}
use Rattle.il_inline.specs.declared.expanded.Expanded.{Expanded}
use Rattle.il_edge.specs.Known.{IsAtEnd, AppendsPrefix}
use Rattle.report.proofs.Clean.{no_bad_run}
use Rattle.report.proofs.Fronts.{told_all}
use Rattle.report.specs.Headline.{IsTold, NoProcedureHasABadRun}
use Rattle.report.specs.declared.report.Report.{Report}
use Rattle.malpas.specs.Input.{AcceptsInput, NoneUnasked}
use Rattle.malpas.specs.Parts.{text_due, Reports}
use Rattle.malpas.specs.Top.{HasAll, HasFewer, IsReported}
use Rattle.request.specs.declared.selection.Selection.{Selection}

-- The bytes, where they are told, are accepted, with this expanded text and these certificates.
abbrev pub HoldsInput : Selection → Option (List ℕ) → WholeExpansion → List NamedCert → Type 0
HoldsInput sections old x certs = NoneUnasked sections.certificates certs × IfSome old (λ bytes. AcceptsInput sections.certificates bytes x certs)

-- Of each procedure of an expanded text its calls are told.
pub has_spans : (e : Expanded) → IsExpandedText e → length e.spans ≡ length (text_of e.text).procs
has_spans e fits = fits.spans ∙ sym (length-map e.text.procs text_procedure)

-- A report that is written whole has all procedures.
whole : (sections : Selection) (old new : Option (List ℕ)) (settled : Option ℕ) (before now : ℕ) (t : Text) (report : Report) (status : ℕ) → Reports sections old new settled before now t (Some report) status
    → status ≤ 1 → HasAll report t
whole sections old new settled before now t report status ends low =
    elim ends [
      | inl done ↦ done.whole
      | inr rest ↦ elim rest [ inl cut ↦ absurd (omega (arith, cut.is, low)) | inr short ↦ absurd (omega (arith, short.is, low)) ]
    ]

-- Where memory ran out the report has not all procedures.
fewer : (sections : Selection) (old new : Option (List ℕ)) (settled : Option ℕ) (before now : ℕ) (t : Text) (report : Report) (status : ℕ) → Reports sections old new settled before now t (Some report) status
    → status ≡ 5 → HasFewer report t
fewer sections old new settled before now t report status ends five =
    elim ends [
      | inl done ↦ absurd (omega (arith, done.low, five))
      | inr rest ↦ elim rest [ inl cut ↦ absurd (omega (arith, cut.is, five)) | inr short ↦ short.fewer ]
    ]

-- Where the sink failed a prefix of what was due is written.
part : (sections : Selection) (old new : Option (List ℕ)) (settled : Option ℕ) (before now : ℕ) (t : Text) (report : Report) (status : ℕ) → Reports sections old new settled before now t (Some report) status
    → status ≡ 4 → AppendsPrefix old new (text_due sections t report)
part sections old new settled before now t report status ends four =
    elim ends [
      | inl done ↦ absurd (omega (arith, done.low, four))
      | inr rest ↦ elim rest [ inl cut ↦ cut.part | inr short ↦ absurd (omega (arith, short.is, four)) ]
    ]

-- With status 0 no procedure has a bad run.
clean : (sections : Selection) (old new : Option (List ℕ)) (settled : Option ℕ) (before now : ℕ) (certs : List NamedCert) (x : WholeExpansion) (report : Report) (status : ℕ) → length x.spans ≡ length x.text.procs
    → Reports sections old new settled before now x.text (Some report) status → IsTold certs x report → status ≡ 0 → NoProcedureHasABadRun x.text
clean sections old new settled before now certs x report status spans ends told zero =
    elim ends [
      | inl done ↦ no_bad_run certs x report (told_all certs x report (omega (arith, done.whole)) spans told) told.1.certified (sym done.is ∙ zero)
      | inr rest ↦ elim rest [ inl cut ↦ absurd (omega (arith, cut.is, zero)) | inr short ↦ absurd (omega (arith, short.is, zero)) ]
    ]

-- What is told of the first procedures of the text that was read, and of the certificates behind it, is what the report says of them.
pub reported : (sections : Selection) (bytes left old new : Option (List ℕ)) (settled : Option ℕ) (before now : ℕ) (x : WholeExpansion) (certs : List NamedCert) (report : Option Report) (status : ℕ) → length x.spans ≡ length x.text.procs → IsAtEnd left
    → HoldsInput sections bytes x certs → IfSome report (λ r. IsTold certs x r × (0 < length r.procs)) → Reports sections old new settled before now x.text report status → IfSome report (IsReported None sections bytes left old new status)
reported sections bytes left old new settled before now x certs None status spans at_end input told ends = tt
reported sections bytes left old new settled before now x certs (Some report) status spans at_end input told ends = (
  at_end,
  (
    x,
    certs,
    input.0,
    input.1,
    (
      record {
        reported = told.0.0;
        some = told.1;
        whole = whole sections old new settled before now x.text report status ends;
        fewer = fewer sections old new settled before now x.text report status ends;
        one_row = told.0.1.one_row;
        safe = told.0.1.safe;
        certified = told.0.1.certified;
        clean = clean sections old new settled before now certs x report status spans ends told.0;
        equal_values = told.0.1.equal_values;
      },
      part sections old new settled before now x.text report status ends,
    ),
  ),
)

-- Where the sink failed there is a report.
pub not_silent : (sections : Selection) (old new : Option (List ℕ)) (settled : Option ℕ) (before now : ℕ) (t : Text) (report : Option Report) (status : ℕ) → Reports sections old new settled before now t report status
    → status ≡ 4 → report ≡ None → ⊥
not_silent sections old new settled before now t None status ends four none = omega (arith, ends, four)
not_silent sections old new settled before now t (Some report) status ends four none = cc
