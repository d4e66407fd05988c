use Rattle.std.proofs.Common.{◌≡◌, drop}
use Rattle.std.specs.Prelude.{map}
use Rattle.il_core.specs.Tree.{tree_of}
use Rattle.call_rules.specs.Calls.{is_narrow_call}
use Rattle.call_rules.proofs.calls.are_narrow.Given as goal

abbrev pub invariant-loop-argument : goal.invariant-loop-argument
invariant-loop-argument l = is_narrow_call l.setting (map tree_of (drop l.argument-index l.arguments)) ≡ is_narrow_call l.setting (map tree_of l.arguments)
