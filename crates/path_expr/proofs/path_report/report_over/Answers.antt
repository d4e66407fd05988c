use Rattle.path_expr.proofs.LiveArcs.{fits_for, one_below, words_for}
use Rattle.path_expr.proofs.path_report.report_over.Goals as goal

pub plan-requires : goal.plan-requires
plan-requires c =
    fits_for c.args.graph.now c.requires.formed c.args.live.now c.requires.live c.args.order.now c.requires.order _ _ _ _ c.as_slice.ensures c.in_ok-ends.ensures
    c.as_slice-2.ensures.value c.len-count.ensures

pub definitions-requires-clause-below : goal.definitions-requires-clause-below
definitions-requires-clause-below c =
    one_below c.args.graph.now c.args.live.now c.as_slice.result.now _ _ c.in_ok-made.made.steps _ c.in_ok-made.made.answers _ _ c.in_ok-ends.ensures c.as_slice-2.ensures.value
    c.as_slice-4.ensures c.as_slice-3.ensures c.only-answer.ensures c.in_ok-made.ensures.below

pub returns-clause-words : goal.returns-clause-words
returns-clause-words c =
    words_for c.args.graph.now c.requires.formed c.args.live.now c.requires.live c.as_slice.result.now _ _ _ c.in_ok-made.made.steps _ c.in_ok-made.made.answers _ _
    c.as_slice.ensures c.in_ok-ends.ensures c.as_slice-2.ensures.value c.len-count.ensures c.as_slice-4.ensures c.as_slice-3.ensures c.only-answer.ensures
    c.in_ok-made.ensures.answers c.in_ok-made.ensures.lower c.in_ok-made.ensures.below c.definitions.result c.definitions.ensures
