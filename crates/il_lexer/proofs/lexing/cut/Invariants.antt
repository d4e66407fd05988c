-- The text is cut up to this place; what is left gets shorter.
use Rattle.std.proofs.Common.{length, ◌-◌}
use Rattle.il_lexer.proofs.Cuts.{IsCutSoFar}
use Rattle.il_lexer.proofs.lexing.cut.Given as goal

abbrev pub invariant-loop-at : goal.invariant-loop-at
invariant-loop-at l = IsCutSoFar l.text l.tokens l.at

abbrev pub decreases-loop-at : goal.decreases-loop-at
decreases-loop-at l = length l.text - l.at
