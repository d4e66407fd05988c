use Rattle.std.proofs.Common.{map}
use Rattle.il_core.specs.Text.{text_procedure}
use Rattle.report.specs.Reported.{call_line}
use Rattle.malpas_suite.proofs.SpanLines.{mapped_more}
use Rattle.malpas_suite.proofs.calls.lines_of.Goals as goal

pub loop-span-preserved : goal.loop-span-preserved
loop-span-preserved c =
    mapped_more (call_line (map text_procedure c.args.procs.now)) c.args.spans.now c.loop-span.span-index (record { first = 0; last = 0; callee = 0 }) c.loop-span.lines _
    c.loop-span-test.true c.loop-span.invariant (rw c.call_line.ensures at c.in_ok-push.ensures.ok)
