use Rattle.std.proofs.Common.{length}
use Rattle.std.specs.Prelude.{map}
use Rattle.il_core.specs.Tree.{tree_of}
use Rattle.il_syntax.specs.Expression.{kinds}
use Rattle.il_syntax.proofs.CallArguments.{IsListedSoFar}
use Rattle.il_syntax.proofs.form_call.listed.Given as goal

abbrev pub invariant-loop-argument : goal.invariant-loop-argument
invariant-loop-argument l = IsListedSoFar (kinds l.tokens) (map tree_of l.arguments) (kinds l.rest)

abbrev pub decreases-loop-argument : goal.decreases-loop-argument
decreases-loop-argument l = length l.rest
