use Rattle.std.proofs.Common.{◌≡◌, ◌+◌, drop}
use Rattle.il_syntax.specs.ArgumentReading.{argument_len}
use Rattle.il_syntax.proofs.form_call.argument_len.Given as goal

abbrev pub invariant-loop-i : goal.invariant-loop-i
invariant-loop-i l = l.i + argument_len (drop l.i l.tokens) ≡ argument_len l.tokens
