use Rattle.std.proofs.Common.{◌≡◌, ◌⊎◌, ℕ, length, slice_index}
use Rattle.regular_algebra.specs.Run.{AnswersAreMarked}
use Rattle.regular_algebra.proofs.elimination.mark_answers.Given as goal

-- the first answers are marked, and all else is as before
abbrev pub invariant-loop-answer : goal.invariant-loop-answer
invariant-loop-answer l =
    record {
      size : length l.last ≡ length l.fn.last;
      kept : (k : ℕ) → (slice_index l.last k ≡ slice_index l.fn.last k) ⊎ (slice_index l.last k ≡ l.count);
      answered : AnswersAreMarked l.first l.answers l.answer-index l.count l.last;
    }
