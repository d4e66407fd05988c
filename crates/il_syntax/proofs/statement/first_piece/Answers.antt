use Rattle.std.proofs.Common.{arith}
use Rattle.il_syntax.proofs.Piece.{first_piece, piece_within, piece_some}
use Rattle.il_syntax.proofs.statement.first_piece.Goals as goal

pub split_at-requires : goal.split_at-requires
split_at-requires c = omega (arith, piece_within c.args.tokens.now)

pub returns-clause-cut : goal.returns-clause-cut
returns-clause-cut c = rw (c.split_at.ensures.front, c.split_at.ensures.back, c.piece_len.ensures) (first_piece c.args.tokens.now c.requires)

pub returns-clause-shorter : goal.returns-clause-shorter
returns-clause-shorter c = omega (arith, piece_some c.args.tokens.now c.requires)
