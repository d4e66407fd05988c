use Rattle.std.proofs.Common.{take, Ok, codes, ◌++◌}
use Rattle.il_edge.specs.declared.device.Failed.{Failed}
use Rattle.std.specs.List.{flat_map}
use Rattle.form_text.specs.Pieces.{Puts}
use Rattle.report_text.specs.Slices.{fixed_text}
use Rattle.report_text.proofs.slices.put_other_fixes.Given as goal

abbrev pub invariant-loop-fixed : goal.invariant-loop-fixed
invariant-loop-fixed g l = Puts {E = Failed} g.K.Sink.held g.K.Sink.settled g.K.Sink.faults l.fn.sink l.sink (Ok (tt {0})) (flat_map (λ f. codes " " ++ fixed_text f) (take l.fixed-index l.fixes))
