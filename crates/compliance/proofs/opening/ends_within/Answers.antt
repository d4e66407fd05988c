use Rattle.std.proofs.Common.{get_or, arith}
use Rattle.std.proofs.lemmas.List.{length-map}
use Rattle.std.proofs.lemmas.Option.{slice_get-get_or}
use Rattle.il_core.specs.Procedure.{instruction_of}
use Rattle.region_paths.proofs.Walking.{in_at}
use Rattle.compliance.proofs.opening.ends_within.Goals as goal

pub first_node-requires-clause-line : goal.first_node-requires-clause-line
first_node-requires-clause-line c =
    let at = slice_get-get_or c.args.lines.now c.loop-line.line-index 0 c.loop-line-test.true in
    let inside = c.requires.lines (get_or c.args.lines.now c.loop-line.line-index 0) (in_at c.args.lines.now c.loop-line.line-index _ at) in
    omega (arith, inside, length-map c.args.proc.now.lines instruction_of)
