use Rattle.std.proofs.Common.{ℕ, List, Bor}
use Rattle.form_text.proofs.Putting.{puts_broken, puts_more}
use Rattle.form_text.proofs.pieces.put.Goals as goal

pub returns-in-Err : goal.returns-in-Err
returns-in-Err g c =
    puts_broken (λ (piece : Bor (List ℕ)). piece.now) c.args.pieces.now c.loop-piece.piece-index _ c.loop-piece-test.true c.loop-piece.invariant
    record { text = c.in-Err.ensures.part; told = c.in-Err.ensures.told; settled = c.in-Err.ensures.settled; cause = c.in-Err.ensures.cause }

pub loop-piece-preserved : goal.loop-piece-preserved
loop-piece-preserved g c =
    puts_more (λ (piece : Bor (List ℕ)). piece.now) c.args.pieces.now c.loop-piece.piece-index _ c.loop-piece-test.true c.loop-piece.invariant
    record { text = c.in-Ok.ensures.all; told = c.in-Ok.ensures.told; settled = c.in-Ok.ensures.settled; cause = c.in-Ok.ensures.cause }
