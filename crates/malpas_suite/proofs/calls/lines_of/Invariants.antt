use Rattle.std.proofs.Common.{◌≡◌, map, take}
use Rattle.il_core.specs.Text.{text_procedure}
use Rattle.report.specs.Reported.{call_line}
use Rattle.malpas_suite.proofs.calls.lines_of.Given as goal

abbrev pub invariant-loop-span : goal.invariant-loop-span
invariant-loop-span l = l.lines ≡ map (call_line (map text_procedure l.procs)) (take l.span-index l.spans)
