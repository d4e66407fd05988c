use Rattle.std.proofs.Common.{◌≡◌, length}
use Rattle.il_syntax.specs.Expression.{kinds}
use Rattle.il_syntax.specs.FormReading.{names_of}
use Rattle.il_syntax.proofs.Enumeration.{with_front}
use Rattle.il_syntax.proofs.form_enumeration.names_of.Given as goal

abbrev pub invariant-loop-word : goal.invariant-loop-word
invariant-loop-word l = with_front l.names (names_of (kinds l.rest)) ≡ names_of (kinds l.tokens)

abbrev pub decreases-loop-word : goal.decreases-loop-word
decreases-loop-word l = length l.rest
