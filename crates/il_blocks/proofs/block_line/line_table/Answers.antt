use Rattle.std.proofs.Common.{◌+◌, ◌≤◌, ℕ, List, arith, sym, ◌∙◌, ap, subst}
use Rattle.std.specs.Prelude.{map}
use Rattle.il_core.specs.Statement.{Placed, placed, statement_of}
use Rattle.il_blocks.specs.BlockLink.{line_behind}
use Rattle.il_blocks.proofs.BlockPlaces.{placed_at}
use Rattle.il_blocks.proofs.BlockLines.{LinesSoFar, line_next, lines_more}
use Rattle.il_blocks.proofs.block_line.line_table.Goals as goal

pub loop-i-preserved : goal.loop-i-preserved
loop-i-preserved c =
    let ss : List Placed = map placed c.args.stmts.now in
    let at = placed_at c.args.stmts.now c.loop-i.i c.index-stmts-i.result c.loop-i-test.true (sym c.index-stmts-i.is) in
    let bound : c.line_behind-next.result ≤ c.loop-i.i + 1 = omega (arith, c.line_behind-next.ensures.bound, c.loop-i.invariant.0) in (
      bound,
      c.line_behind-next.ensures.value ∙ ap (λ (n : ℕ). line_behind n (statement_of c.index-stmts-i.result.form)) c.loop-i.invariant.1
          ∙ sym (line_next ss c.loop-i.i (placed c.index-stmts-i.result) at),
      subst (λ (xs : List ℕ). LinesSoFar ss (c.loop-i.i + 1) xs) (sym c.in_ok-push.ensures.items)
          (lines_more ss c.loop-i.i c.loop-i.next c.loop-i.lines.items c.loop-i.invariant.2 c.loop-i.invariant.1),
    )
