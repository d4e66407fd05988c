use Rattle.std.proofs.Common.{length}
use Rattle.data_use.proofs.Collected.{exit-marked, exit-unmarked}
use Rattle.data_use.proofs.routes.add_exits.Goals as goal
use Rattle.data_use.proofs.routes.add_exits.Goals.{then-mark+in_ok-push, else-mark}

pub loop-line-preserved : goal.loop-line-preserved
loop-line-preserved c =
    record {
      each = elim c.if-mark.branch [
        | then-mark+in_ok-push w ↦
            exit-marked c.args.routes.now.items c.loop-line.routes.items c.if-mark.routes.items (length c.args.marks.now) c.args.marks.now c.loop-line.line c.loop-line.invariant.each
            w.if-mark.true (cc (w.routes-is, w.in_ok-push.ensures.items))
        | else-mark w ↦
            exit-unmarked c.args.routes.now.items c.loop-line.routes.items c.if-mark.routes.items (length c.args.marks.now) c.args.marks.now c.loop-line.line c.loop-line.invariant.each
            w.if-mark.false (cc w.routes-is)
      ];
    }
