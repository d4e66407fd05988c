-- By the ways to read a text, each with one outcome.
use Rattle.il_lexer.proofs.Readings.{same_reading}
use Rattle.il_lexer.proofs.lexing.one_reading.Goals as goal

pub returns : goal.returns
returns c = same_reading
