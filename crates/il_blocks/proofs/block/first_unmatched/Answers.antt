use Rattle.std.proofs.Common.{reverse, sym}
use Rattle.std.specs.Prelude.{map}
use Rattle.std.proofs.lemmas.List.{length-map}
use Rattle.il_core.specs.Statement.{placed}
use Rattle.il_blocks.proofs.BlockPlaces.{placed_at}
use Rattle.il_blocks.proofs.BlockStack.{goes_past, unmatched_here, none_unmatched}
use Rattle.il_blocks.proofs.block.first_unmatched.Goals as goal

pub returns-then-not-branch : goal.returns-then-not-branch
returns-then-not-branch c = (
  unmatched_here (map placed c.args.stmts.now) c.loop-i.i (placed c.index-stmts-i.result) (reverse c.loop-i.blocks.items)
      (placed_at c.args.stmts.now c.loop-i.i c.index-stmts-i.result c.loop-i-test.true (sym c.index-stmts-i.is)) c.loop-i.invariant.0
      (rw c.if-not-branch.true at (c.in_ok-pass.ensures {u = tt})),
  c.loop-i.invariant.1,
)

pub loop-i-preserved : goal.loop-i-preserved
loop-i-preserved c =
    goes_past (map placed c.args.stmts.now) c.loop-i.i (placed c.index-stmts-i.result) (reverse c.loop-i.blocks.items) (reverse c.pass.new.blocks.items)
    (placed_at c.args.stmts.now c.loop-i.i c.index-stmts-i.result c.loop-i-test.true (sym c.index-stmts-i.is)) c.loop-i.invariant
    (rw c.if-not-branch.false at (c.in_ok-pass.ensures {u = tt}))

pub returns : goal.returns
returns c = none_unmatched (map placed c.args.stmts.now) c.loop-i.i
    (rw length-map c.loop-i-test.false) c.loop-i.invariant.1
