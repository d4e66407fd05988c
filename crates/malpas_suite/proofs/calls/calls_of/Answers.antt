use Rattle.std.proofs.Common.{◌≡◌, ◌∙◌, Some, List, map, slice_get, subst}
use Rattle.il_called.specs.declared.called.CallSpan.{CallSpan}
use Rattle.il_core.specs.Text.{text_procedure}
use Rattle.il_inline.specs.Expanded.{whole_of}
use Rattle.report.specs.Reported.{call_line, call_lines}
use Rattle.malpas_suite.proofs.SpanLines.{called_within, lines_at, of_value}
use Rattle.malpas_suite.proofs.calls.calls_of.Goals as goal

pub lines_of-requires : goal.lines_of-requires
lines_of-requires c = λ k span here.
    called_within c.args.text.now c.args.number c.as_slice.result.now c.index-as_slice-number.result c.as_slice-procs.result.now c.requires.fits c.requires.number c.as_slice.ensures
    c.index-as_slice-number.is (c.as_slice-procs.ensures ∙ c.procs.ensures.value) k span (subst (λ (of : List CallSpan). slice_get of k ≡ Some span) c.as_slice-2.ensures here)

pub returns : goal.returns
returns c =
    of_value c.lines_of.result (λ lines. lines ≡ map (call_line (map text_procedure c.as_slice-procs.result.now)) c.index-as_slice-number.result)
    (λ lines. slice_get (call_lines (whole_of c.args.text.now)) c.args.number ≡ Some lines)
    (λ lines made. lines_at c.args.text.now c.args.number c.as_slice.result.now c.index-as_slice-number.result c.as_slice-procs.result.now lines c.requires.fits c.requires.number
    c.as_slice.ensures c.index-as_slice-number.is (c.as_slice-procs.ensures ∙ c.procs.ensures.value) made)
    (rw c.as_slice-2.ensures at c.lines_of.ensures)
