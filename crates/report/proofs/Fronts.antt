-- What the report of the first procedures of a text keeps when the next procedure's report is added.
use Rattle.std.proofs.Common.{◌≡◌, ◌⊎◌, inl, inr, ℕ, zero, suc, ◌<◌, ◌≤◌, List, [], ◌∷◌, ◌++◌, length, take, get_or, map, slice_get, Option, None, Some, IfSome, refl, sym, ap, subst, ◌∙◌, arith}
use Rattle.std.proofs.lemmas.List.{length_push, length-map, map-append, take_all, take_more}
use Rattle.std.proofs.lemmas.Option.{slice_get_cases, slice_get_within, get_or_from_slice_get}
use Rattle.control_flow.specs.declared.control.LoopInfo.{LoopInfo}
use Rattle.il_core.specs.Procedure.{Procedure}
use Rattle.il_core.specs.Text.{TextProcedure, Text}
use Rattle.il_core.specs.declared.certificate.NamedCert.{NamedCert}
use Rattle.il_inline.specs.Expanded.{WholeExpansion}
use Rattle.report.specs.declared.report.Analyses.{Analyses}
use Rattle.report.specs.declared.report.CallLine.{CallLine}
use Rattle.report.specs.declared.report.CertRow.{CertRow}
use Rattle.report.specs.declared.report.ProcReport.{ProcReport}
use Rattle.report.specs.declared.report.Report.{Report}
use Rattle.report.specs.Reported.{IsProcReportOf, AreProcReportsOf, IsReportOf, call_line, call_lines}
use Rattle.report.specs.Headline.{TellsOfRuns, OfEach, IsTold}

-- The reports of the first procedures and that of the next one are those of the first procedures, one more.
reports_more : (certs : List NamedCert) (ps : List TextProcedure) (rs : List ProcReport) (p : TextProcedure) (r : ProcReport) → length rs < length ps → get_or ps (length rs) p ≡ p
    → AreProcReportsOf certs (take (length rs) ps) rs → IsProcReportOf certs p r → AreProcReportsOf certs (take (length (rs ++ r ∷ [])) ps) (rs ++ r ∷ [])
reports_more certs [] rs p r few at all next = absurd (omega arith)
reports_more certs (q ∷ ps) [] p r few at all next = (subst (λ (x : TextProcedure). IsProcReportOf certs x r) (sym at) next, tt)
reports_more certs (q ∷ ps) (x ∷ rs) p r few at all next = (all.0, reports_more certs ps rs p r (omega arith) at all.1 next)

-- A member of a list with one more at its end is one of the list, or the one at its end.
pushed_at : {X : Type 0} (xs : List X) (x y : X) (k : ℕ) → slice_get (xs ++ x ∷ []) k ≡ Some y → (slice_get xs k ≡ Some y) ⊎ ((k ≡ length xs) × (x ≡ y))
pushed_at [] x y zero at = inr (refl, cc)
pushed_at [] x y (suc k) at = absurd (cc)
pushed_at (z ∷ xs) x y zero at = inl at
pushed_at (z ∷ xs) x y (suc k) at = elim (pushed_at xs x y k at) [ inl old ↦ inl old | inr new ↦ inr (ap suc new.0, new.1) ]

-- What holds of each procedure that is reported, and of the next one, holds of each of them together.
each_more : (Holds : Procedure → List LoopInfo → List CertRow → Analyses → Type 0) (t : Text) (before now : Report) (p : TextProcedure) (r : ProcReport)
    → slice_get t.procs (length before.procs) ≡ Some p → now.procs ≡ before.procs ++ r ∷ [] → OfEach Holds t before → IfSome r.analyses (Holds p.body r.control.loops r.certs)
    → OfEach Holds t now
each_more Holds t before now p r at procs all next = λ k q s at_q at_s.
    elim (pushed_at before.procs r s k (subst (λ rs. slice_get rs k ≡ Some s) procs at_s)) [
      | inl old ↦ all k q s at_q old
      | inr new ↦
          let same_p : p ≡ q = cc in
          subst (λ (x : ProcReport). IfSome x.analyses (Holds q.body x.control.loops x.certs)) new.1 (subst (λ (x : TextProcedure). IfSome r.analyses (Holds x.body r.control.loops r.certs)) same_p next)
    ]

-- It holds of each procedure that is reported where none is.
each_none : (Holds : Procedure → List LoopInfo → List CertRow → Analyses → Type 0) (t : Text) (report : Report) → report.procs ≡ [] → OfEach Holds t report
each_none Holds t report none = λ k p r at_p at_r. absurd (let gone : slice_get [] k ≡ Some r = subst (λ rs. slice_get rs k ≡ Some r) none at_r in cc)

-- What follows from what is told of an analysed procedure.
told_some : (P Q : Analyses → Type 0) (analyses : Option Analyses) → ((a : Analyses) → P a → Q a) → IfSome analyses P → IfSome analyses Q
told_some P Q None f h = tt
told_some P Q (Some a) f h = f a h

-- The calls of the first procedures and those of the next one are those of the first procedures, one more.
calls_more : (lines : List (List CallLine)) (rs : List ProcReport) (r : ProcReport) → slice_get lines (length rs) ≡ Some r.calls → map (λ (p : ProcReport). p.calls) rs ≡ take (length rs) lines
    → map (λ (p : ProcReport). p.calls) (rs ++ r ∷ []) ≡ take (length (rs ++ r ∷ [])) lines
calls_more lines rs r at all =
    map-append (λ (p : ProcReport). p.calls) rs (r ∷ []) ∙ ap (λ l. l ++ r.calls ∷ []) all
    ∙ ap (λ c. take (length rs) lines ++ c ∷ []) (sym (get_or_from_slice_get lines (length rs) r.calls r.calls at))
    ∙ sym (take_more lines (length rs) r.calls (slice_get_within lines (length rs) r.calls at)) ∙ ap (λ n. take n lines) (sym (length_push rs r))

-- What is kept of the reports of the first procedures of an expanded text.
record AreFirst (certs : List NamedCert) (x : WholeExpansion) (rs : List ProcReport) : Type 0 where
  few : length rs ≤ length x.text.procs
  procs : AreProcReportsOf certs (take (length rs) x.text.procs) rs
  calls : map (λ (p : ProcReport). p.calls) rs ≡ take (length rs) (call_lines x)

-- A report with no procedure is that of none.
pub told_none : (certs : List NamedCert) (x : WholeExpansion) (report : Report) → report.title ≡ x.text.title → report.profile ≡ x.text.profile → report.procs ≡ [] → IsTold certs x report
told_none certs x report title profile none =
    let all = subst (AreFirst certs x) (sym none) (record { few = omega arith; procs = tt; calls = refl }) in (
      record { title = title; profile = profile; few = all.few; procs = all.procs; calls = all.calls },
      record {
        one_row = each_none _ x.text report none;
        safe = each_none _ x.text report none;
        certified = each_none _ x.text report none;
        equal_values = each_none _ x.text report none;
      },
    )

-- A report of the first procedures with that of the next one is that of the first procedures, one more.
pub told_more : (certs : List NamedCert) (x : WholeExpansion) (before now : Report) (p : TextProcedure) (r : ProcReport) → slice_get x.text.procs (length before.procs) ≡ Some p
    → slice_get (call_lines x) (length before.procs) ≡ Some r.calls → IsTold certs x before → IsProcReportOf certs p r → IfSome r.analyses (TellsOfRuns p.body r.control.loops r.certs)
    → now.title ≡ before.title → now.profile ≡ before.profile → now.procs ≡ before.procs ++ r ∷ [] → IsTold certs x now
told_more certs x before now p r there calls told next tells title profile procs =
    let few : length before.procs < length x.text.procs = slice_get_within x.text.procs (length before.procs) p there in
    let all = subst (AreFirst certs x) (sym procs) (record {
      few = omega (arith, few, length_push before.procs r);
      procs = reports_more certs x.text.procs before.procs p r few (get_or_from_slice_get x.text.procs (length before.procs) p p there) told.0.procs next;
      calls = calls_more (call_lines x) before.procs r calls told.0.calls;
    }) in (
      record { title = title ∙ told.0.title; profile = profile ∙ told.0.profile; few = all.few; procs = all.procs; calls = all.calls },
      record {
        one_row = each_more _ x.text before now p r there procs told.1.one_row (told_some _ _ r.analyses (λ a h. h.one_row) tells);
        safe = each_more _ x.text before now p r there procs told.1.safe (told_some _ _ r.analyses (λ a h. h.safe) tells);
        certified = each_more _ x.text before now p r there procs told.1.certified (told_some _ _ r.analyses (λ a h. h.certified) tells);
        equal_values = each_more _ x.text before now p r there procs told.1.equal_values (told_some _ _ r.analyses (λ a h. h.equal_values) tells);
      },
    )

-- So it is where the next procedure is told by its number.
pub told_next : (certs : List NamedCert) (x : WholeExpansion) (number : ℕ) (before now : Report) (r : ProcReport) → number < length x.text.procs → length before.procs ≡ number
    → IsTold certs x before → IfSome (slice_get x.text.procs number) (λ p. IsProcReportOf certs p r) → slice_get (call_lines x) number ≡ Some r.calls
    → IfSome (slice_get x.text.procs number) (λ p. IfSome r.analyses (TellsOfRuns p.body r.control.loops r.certs))
    → now.title ≡ before.title → now.profile ≡ before.profile → now.procs ≡ before.procs ++ r ∷ [] → IsTold certs x now
told_next certs x number before now r inside made told next calls tells title profile procs =
    elim (slice_get_cases x.text.procs number).1 [
      | inl here ↦
          told_more certs x before now here.0 r (ap (slice_get x.text.procs) made ∙ here.2) (ap (slice_get (call_lines x)) made ∙ calls) told
          (subst (λ (o : Option TextProcedure). IfSome o (λ p. IsProcReportOf certs p r)) here.2 next)
          (subst (λ (o : Option TextProcedure). IfSome o (λ p. IfSome r.analyses (TellsOfRuns p.body r.control.loops r.certs))) here.2 tells) title profile procs
      | inr past ↦ absurd (omega (arith, past.0, inside))
    ]

-- A report of as many procedures as an expanded text has, which tells of the calls of each, is the report of the text.
pub told_all : (certs : List NamedCert) (x : WholeExpansion) (report : Report) → length x.text.procs ≤ length report.procs → length x.spans ≡ length x.text.procs → IsTold certs x report
    → IsReportOf certs x report
told_all certs x report many spans told =
    let lines : length (call_lines x) ≤ length report.procs = omega (arith, many, spans, length-map x.spans (map (call_line x.text.procs))) in
    record {
      title = told.0.title;
      profile = told.0.profile;
      procs = subst (λ ps. AreProcReportsOf certs ps report.procs) (take_all (length report.procs) x.text.procs many) told.0.procs;
      calls = told.0.calls ∙ take_all (length report.procs) (call_lines x) lines;
    }
