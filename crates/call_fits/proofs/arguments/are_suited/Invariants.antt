use Rattle.std.proofs.Common.{◌≡◌, drop}
use Rattle.std.specs.Prelude.{map}
use Rattle.std.specs.List.{list_all}
use Rattle.il_core.specs.Tree.{tree_of}
use Rattle.call_rules.specs.Callee.{pairings}
use Rattle.call_rules.specs.Fits.{is_suited}
use Rattle.call_fits.proofs.arguments.are_suited.Given as goal

abbrev pub invariant-loop-k : goal.invariant-loop-k
invariant-loop-k l = list_all is_suited (pairings (drop l.k l.parameters) (map tree_of (drop l.k l.arguments)))
    ≡ list_all is_suited (pairings l.parameters (map tree_of l.arguments))
