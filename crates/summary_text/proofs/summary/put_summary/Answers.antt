use Rattle.std.proofs.Common.{◌≡◌, ℕ, List, ◌++◌, Option, Result, ap, subst, ◌∙◌}
use Rattle.il_edge.specs.Known.{Appends, AppendsPrefix}
use Rattle.report.specs.declared.report.ProcReport.{ProcReport}
use Rattle.form_text.specs.Pieces.{Writes}
use Rattle.summary_text.specs.Summary.{counts_of, sizes_text, verdicts_text}
use Rattle.summary_text.specs.declared.counts.Counts.{Counts}
use Rattle.form_text.proofs.Written.{writes_behind, prefix_more}
use Rattle.summary_text.proofs.summary.put_summary.Goals as goal

-- both halves, with the numbers of the procedures
both : {T E : Type 0} (old mid new : Option (List ℕ)) (result : Result T E) (n : ℕ) (counts : Counts) (procs : List ProcReport) → counts ≡ counts_of procs
    → Appends old mid (sizes_text n counts) → Writes mid new result (verdicts_text counts) → Writes old new result (sizes_text n (counts_of procs) ++ verdicts_text (counts_of procs))
both old mid new result n counts procs e first second =
    let P : Counts → Type 0 = λ c. Writes old new result (sizes_text n c ++ verdicts_text c) in
    subst P e (writes_behind old mid new result (sizes_text n counts) (verdicts_text counts) first second)

-- a prefix of the first half
front : (old new : Option (List ℕ)) (n : ℕ) (counts : Counts) (procs : List ProcReport) → counts ≡ counts_of procs
    → AppendsPrefix old new (sizes_text n counts) → AppendsPrefix old new (sizes_text n (counts_of procs) ++ verdicts_text (counts_of procs))
front old new n counts procs e part =
    let P : Counts → Type 0 = λ c. AppendsPrefix old new (sizes_text n c ++ verdicts_text c) in
    subst P e (prefix_more old new (sizes_text n counts) (verdicts_text counts) part)

pub returns-in-Ok-clause-text : goal.returns-in-Ok-clause-text
returns-in-Ok-clause-text g c =
    both _ _ _ c.put_verdicts.result c.args.number c.counts_of-counts.result c.args.report.now.procs (c.counts_of-counts.ensures ∙ ap counts_of c.as_slice.ensures) c.in-Ok.ensures.text c.put_verdicts.ensures.text

pub returns-in-Err-clause-text : goal.returns-in-Err-clause-text
returns-in-Err-clause-text g c =
    front _ _ c.args.number c.counts_of-counts.result c.args.report.now.procs (c.counts_of-counts.ensures ∙ ap counts_of c.as_slice.ensures) c.in-Err.ensures.text
