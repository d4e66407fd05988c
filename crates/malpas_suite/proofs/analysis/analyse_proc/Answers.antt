use Rattle.std.proofs.Common.{◌∙◌, IfSome}
use Rattle.il_core.specs.Checked.{procedure_of}
use Rattle.il_core.specs.Text.{text_procedure}
use Rattle.report.specs.Headline.{TellsOfRuns}
use Rattle.report.specs.Reported.{IsProcReportOf}
use Rattle.malpas_suite.proofs.SpanLines.{of_read, of_value}
use Rattle.malpas_suite.proofs.analysis.analyse_proc.Goals as goal

pub returns-clause-report : goal.returns-clause-report
returns-clause-report c =
    of_value c.report_of.result (IsProcReportOf c.args.certs.now (text_procedure c.index-as_slice-number.result)) _
    (λ r h. of_read c.as_slice.result.now c.args.text.now.text.procs c.args.number c.index-as_slice-number.result (λ p. IsProcReportOf c.args.certs.now p r) c.requires.number
    (c.as_slice.ensures ∙ c.procs.ensures.value) c.index-as_slice-number.is h)
    c.report_of.ensures.report

pub returns-clause-runs : goal.returns-clause-runs
returns-clause-runs c =
    of_value c.report_of.result (λ r. IfSome r.analyses (TellsOfRuns (procedure_of c.index-as_slice-number.result) r.control.loops r.certs)) _
    (λ r h. of_read c.as_slice.result.now c.args.text.now.text.procs c.args.number c.index-as_slice-number.result (λ p. IfSome r.analyses (TellsOfRuns p.body r.control.loops r.certs)) c.requires.number
    (c.as_slice.ensures ∙ c.procs.ensures.value) c.index-as_slice-number.is h)
    c.report_of.ensures.runs
