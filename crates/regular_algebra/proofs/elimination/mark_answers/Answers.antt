use Rattle.std.proofs.Common.{◌∙◌, None, subst, sym, ◌+◌, get_or}
use Rattle.std.proofs.lemmas.Option.{slice_get-get_or}
use Rattle.regular_algebra.specs.Answers.{IsNumberBelow}
use Rattle.regular_algebra.proofs.Uses.{answers-more, kept-more}
use Rattle.regular_algebra.proofs.elimination.mark_answers.Goals as goal

pub mark_answer-requires : goal.mark_answer-requires
mark_answer-requires c =
    subst (λ n. IsNumberBelow (c.args.first + n) (get_or c.args.answers.now c.loop-answer.answer-index None)) (sym c.loop-answer.invariant.size)
    (c.requires.below c.loop-answer.answer-index _ (slice_get-get_or c.args.answers.now c.loop-answer.answer-index None c.loop-answer-test.true))

pub loop-answer-preserved : goal.loop-answer-preserved
loop-answer-preserved c =
    record {
      size = c.mark_answer.auto.last ∙ c.loop-answer.invariant.size;
      kept = kept-more c.args.first c.args.count c.args.last.now c.loop-answer.last c.mark_answer.new.last _ c.loop-answer.invariant.kept c.mark_answer.ensures;
      answered = answers-more c.args.first c.args.answers.now c.args.count c.args.last.now c.loop-answer.last c.mark_answer.new.last c.loop-answer.answer-index _ c.requires.below
          c.loop-answer.invariant.size c.loop-answer.invariant.answered
          (slice_get-get_or c.args.answers.now c.loop-answer.answer-index None c.loop-answer-test.true) c.mark_answer.ensures;
    }
