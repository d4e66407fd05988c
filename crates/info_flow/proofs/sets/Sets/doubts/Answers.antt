use Rattle.std.proofs.Common.{◌<◌, ap, sym, ◌∙◌, length, arith}
use Rattle.std.proofs.lemmas.Bool.{OnTrue_at}
use Rattle.info_flow.proofs.Labelled.{decided_by_labels}
use Rattle.info_flow.proofs.PairsOfPaths.{rows_below}
use Rattle.info_flow.proofs.sets.Sets.doubts.Goals as goal

pub labelled-requires-clause-rows : goal.labelled-requires-clause-rows
labelled-requires-clause-rows c = rows_below c.args.graph.now c.args.rows.now c.requires.formed c.requires.rows

pub labelled-requires-clause-marks : goal.labelled-requires-clause-marks
labelled-requires-clause-marks c = ap length c.as_slice-lines.ensures.value ∙ c.requires.size ∙ sym c.requires.rows.size

pub are_consistent-requires-clause-rows : goal.are_consistent-requires-clause-rows
are_consistent-requires-clause-rows c = rows_below c.args.graph.now c.args.rows.now c.requires.formed c.requires.rows

pub are_consistent-requires-clause-marks : goal.are_consistent-requires-clause-marks
are_consistent-requires-clause-marks c = ap length c.as_slice-lines.ensures.value ∙ c.requires.size ∙ sym c.requires.rows.size

pub are_consistent-requires-clause-labels : goal.are_consistent-requires-clause-labels
are_consistent-requires-clause-labels c = ap length c.as_slice-labels.ensures.value ∙ c.in_ok-found.ensures

pub returns-then-are_consistent-clause-none : goal.returns-then-are_consistent-clause-none
returns-then-are_consistent-clause-none c =
    let all = rw (c.as_slice-lines.ensures.value, c.as_slice-labels.ensures.value) at (OnTrue_at c.if-are_consistent.true c.are_consistent.ensures) in
    decided_by_labels c.args.graph.now c.args.rows.now c.args.self.now.lines.items c.in_ok-found.found.items c.requires.formed c.requires.rows
    (λ k l. let inside : k < length c.args.rows.now = omega (arith, l, c.requires.rows.size) in all k inside)
