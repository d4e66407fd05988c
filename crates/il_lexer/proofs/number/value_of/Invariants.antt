-- The value so far is that of the digits so far.
use Rattle.std.proofs.Common.{◌≡◌, ◌-◌, ◌^◌, min, take}
use Rattle.il_lexer.specs.Spelling.{decimal}
use Rattle.il_lexer.proofs.number.value_of.Given as goal

abbrev pub invariant-loop-digit : goal.invariant-loop-digit
invariant-loop-digit l = l.value ≡ min (decimal (take l.digit-index l.digits)) (2 ^ 64 - 1)
