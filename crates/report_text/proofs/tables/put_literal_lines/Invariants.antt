use Rattle.std.proofs.Common.{take, Ok}
use Rattle.il_edge.specs.declared.device.Failed.{Failed}
use Rattle.std.specs.List.{flat_map}
use Rattle.form_text.specs.Pieces.{Puts}
use Rattle.report_text.specs.Tables.{literal_line}
use Rattle.report_text.proofs.tables.put_literal_lines.Given as goal

abbrev pub invariant-loop-literal : goal.invariant-loop-literal
invariant-loop-literal g l = Puts {E = Failed} g.K.Sink.held g.K.Sink.settled g.K.Sink.faults l.fn.sink l.sink (Ok (tt {0})) (flat_map (literal_line l.places) (take l.literal-index l.literals))
