use Rattle.std.proofs.Common.{◌≡◌, ◌++◌}
use Rattle.std.specs.Prelude.{map}
use Rattle.il_core.specs.Tree.{tree_of}
use Rattle.il_called.specs.Called.{passed_of}
use Rattle.call_rules.specs.Callee.{pairings}
use Rattle.call_rules.specs.CalledText.{passed}
use Rattle.call_built.proofs.Passing.{left}
use Rattle.call_built.proofs.arguments.arguments_of.Given as goal

abbrev pub invariant-loop-k : goal.invariant-loop-k
invariant-loop-k l = map passed_of l.given ++ left l.setting l.parameters l.arguments l.k
    ≡ map (passed l.setting) (pairings l.parameters (map tree_of l.arguments))
