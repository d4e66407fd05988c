use Rattle.std.proofs.lemmas.Bool.{OnTrue_at}
use Rattle.info_flow.proofs.Labelled.{consistent_more}
use Rattle.info_flow.proofs.labels.are_consistent.Goals as goal

pub is_consistent-requires-clause-row : goal.is_consistent-requires-clause-row
is_consistent-requires-clause-row c = rw (c.row_at.ensures, c.requires.labels) (c.requires.rows c.loop-line.line)

pub loop-line-preserved : goal.loop-line-preserved
loop-line-preserved c =
    consistent_more c.args.rows.now c.args.marks.now c.args.labels.now c.loop-line.line c.row_at.result.now c.row_at.ensures (OnTrue_at c.if-not-is_consistent.false c.is_consistent.ensures)
    c.loop-line.invariant
