use Rattle.std.proofs.Common.{◌≡◌, vec_len}
use Rattle.regular_algebra.specs.Relations.{values_of}
use Rattle.regular_algebra.specs.Run.{value_in, EachAnswerJoins}
use Rattle.regular_algebra.proofs.elimination.hand_out.Given as goal

-- the first answers have their values
abbrev pub invariant-loop-answer : goal.invariant-loop-answer
invariant-loop-answer g l =
    record {
      size : vec_len l.values ≡ l.answer-index;
      each : EachAnswerJoins g.A.Algebra.joins (value_in (values_of l.arcs) l.made) l.answers l.values.items;
    }
