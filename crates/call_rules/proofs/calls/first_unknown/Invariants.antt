use Rattle.std.proofs.Common.{◌≡◌, drop}
use Rattle.std.specs.Prelude.{map}
use Rattle.il_core.specs.Tree.{tree_of}
use Rattle.call_rules.specs.Calls.{first_unknown}
use Rattle.call_rules.proofs.calls.first_unknown.Given as goal

abbrev pub invariant-loop-argument : goal.invariant-loop-argument
invariant-loop-argument l = first_unknown l.setting (map tree_of (drop l.argument-index l.arguments)) ≡ first_unknown l.setting (map tree_of l.arguments)
