use Rattle.std.proofs.Common.{◌≡◌, ◌+◌, drop}
use Rattle.il_syntax.specs.StatementReading.{piece_len}
use Rattle.il_syntax.proofs.statement.piece_len.Given as goal

abbrev pub invariant-loop-i : goal.invariant-loop-i
invariant-loop-i l = l.i + piece_len (drop l.i l.tokens) ≡ piece_len l.tokens
