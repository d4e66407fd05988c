-- A constraint that is met joins those that are; after a raise it is met, or its left side is woken.
use Rattle.std.proofs.Common.{arith, rules, SFits, refl}
use Rattle.std.specs.Int.{w128}
use Rattle.std.proofs.lemmas.Int.{to_z-of_z}
use Rattle.std.proofs.lemmas.Option.{slice_get-get_or}
use Rattle.difference.proofs.Lifts.{keeps-more, moved-raised, met-in-more, met-in-kept, met-arc}
use Rattle.difference.proofs.solving.spread.Goals as goal
use Rattle.difference.proofs.solving.spread.Goals.{in-Quiet, in-Raised}

pub loop-arc-preserved-then-is_arc_met : goal.loop-arc-preserved-then-is_arc_met
loop-arc-preserved-then-is_arc_met c =
    let h = c.loop-arc.invariant in
    let fits : SFits w128 c.value_in-start.result = search rules in
    let met = rw (c.deref-in-loop-arc.ensures.value, to_z-of_z w128 c.value_in-start.result fits) at (c.if-is_arc_met.ensures.0 refl) in
    record {
      keeps = h.keeps;
      moved = h.moved;
      met = met-in-more c.args.ranges.now c.args.constraints.now c.args.bucket.now c.loop-arc.arc-index _ c.loop-arc.board h.met (slice_get-get_or c.args.bucket.now c.loop-arc.arc-index _ (omega arith))
          (met-arc c.args.ranges.now c.args.constraints.now c.args.board.now c.loop-arc.board c.args.place _ c.value_in-start.result h.keeps c.requires.kept.within.size
          (rw c.deref.ensures.value at c.value_in-start.ensures.value) (c.requires.known c.loop-arc.arc-index _ (omega arith)) met);
    }

pub loop-arc-preserved : goal.loop-arc-preserved
loop-arc-preserved c =
    let h = c.loop-arc.invariant in
    elim c.match-branch-2.branch [
      | in-Quiet w ↦ let same = rw w.in-Quiet.is at c.in_ok-enforce.ensures in
          rw (w.changed-is, same.0) (record {
            keeps = h.keeps;
            moved = h.moved;
            met = met-in-more c.args.ranges.now c.args.constraints.now c.args.bucket.now c.loop-arc.arc-index _ c.loop-arc.board h.met (slice_get-get_or c.args.bucket.now c.loop-arc.arc-index _ (omega arith)) (λ d e q. same.1 d e);
          })
      | in-Raised w ↦ let raised = rw w.in-Raised.is at c.in_ok-enforce.ensures in
          rw w.changed-is (record {
            keeps = keeps-more c.args.ranges.now c.args.constraints.now c.args.board.now c.loop-arc.board c.enforce.new.board h.keeps raised.0;
            moved = moved-raised c.args.ranges.now c.args.constraints.now c.args.board.now c.loop-arc.board c.enforce.new.board c.loop-arc.changed h.moved raised.1;
            met = met-in-more c.args.ranges.now c.args.constraints.now c.args.bucket.now c.loop-arc.arc-index _ c.enforce.new.board
                (met-in-kept c.args.ranges.now c.args.constraints.now c.args.bucket.now c.loop-arc.arc-index c.loop-arc.board c.enforce.new.board h.met raised.0) (slice_get-get_or c.args.bucket.now c.loop-arc.arc-index _ (omega arith)) raised.2;
          })
    ]
