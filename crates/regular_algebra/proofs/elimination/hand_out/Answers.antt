use Rattle.std.proofs.Common.{arith, None}
use Rattle.std.proofs.lemmas.Option.{slice_get-get_or}
use Rattle.regular_algebra.proofs.Joins.{answers-more_joined}
use Rattle.regular_algebra.proofs.elimination.hand_out.Goals as goal

pub loop-answer-preserved : goal.loop-answer-preserved
loop-answer-preserved g c =
    record {
      size = omega (arith, c.in_ok-push.ensures.len, c.loop-answer.invariant.size);
      each = answers-more_joined _ _ c.args.answers.now c.loop-answer.values.items c.push.new.self.items c.loop-answer.answer-index _ c.in_ok-value.value
          (omega (arith, c.loop-answer.values.ok.0, c.loop-answer.invariant.size)) c.loop-answer.invariant.each
          (slice_get-get_or c.args.answers.now c.loop-answer.answer-index None c.loop-answer-test.true) c.in_ok-value.ensures c.in_ok-push.ensures.items;
    }
