use Rattle.std.proofs.Common.{◌∙◌, ap, sym, Some}
use Rattle.std.proofs.lemmas.Option.{slice_get-get_or}
use Rattle.data_use.proofs.Telling.{use-row, rows-more}
use Rattle.data_use.proofs.report.add_rows.Goals as goal

pub loop-slot-preserved : goal.loop-slot-preserved
loop-slot-preserved c =
    rows-more c.args.graph.now c.args.group.now c.loop-slot.slot 0 c.args.rows.now.items c.loop-slot.rows.items c.push.new.self.items c.row_of.result c.loop-slot-test.true
    c.loop-slot.invariant c.in_ok-push.ensures.items c.row_of.ensures.place
    (use-row c.args.graph.now c.args.group.now c.args.anywhere.now c.args.at_end.now c.loop-slot.slot c.row_of.result c.requires.sums
    (slice_get-get_or c.args.group.now c.loop-slot.slot 0 c.loop-slot-test.true ∙ ap Some (sym c.row_of.ensures.place)) c.row_of.ensures.facts)
