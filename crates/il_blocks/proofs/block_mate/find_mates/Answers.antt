use Rattle.std.proofs.Common.{◌≡◌, ◌+◌, ◌∷◌, ◌++◌, [], ℕ, List, length, reverse, rules, arith, sym, subst}
use Rattle.std.specs.Prelude.{map, Some}
use Rattle.std.proofs.lemmas.List.{length-map}
use Rattle.il_core.specs.Statement.{Placed, placed, statement_of}
use Rattle.il_blocks.specs.declared.block.OpenBlock.{OpenBlock}
use Rattle.il_blocks.specs.Block.{closed_by}
use Rattle.il_blocks.specs.BlockStack.{moved}
use Rattle.il_blocks.specs.BlockTable.{head, noted}
use Rattle.il_blocks.proofs.BlockPlaces.{placed_at}
use Rattle.il_blocks.proofs.BlockStack.{goes_on}
use Rattle.il_blocks.proofs.BlockOrder.{ends_closed}
use Rattle.il_blocks.proofs.BlockMates.{SoFar, so_far_next, all_mates}
use Rattle.il_blocks.proofs.block_mate.find_mates.Goals as goal

pub loop-i-preserved : goal.loop-i-preserved
loop-i-preserved c =
    let ss : List Placed = map placed c.args.stmts.now in
    let es : List OpenBlock = reverse c.loop-i.blocks.items in
    let at = placed_at c.args.stmts.now c.loop-i.i c.index-stmts-i.result c.loop-i-test.true (sym c.index-stmts-i.is) in
    let past : moved c.loop-i.i (statement_of c.index-stmts-i.result.form) es ≡ Some (reverse c.pass.new.blocks.items) =
    goes_on ss c.loop-i.i (placed c.index-stmts-i.result) es (reverse c.pass.new.blocks.items) c.in_ok-pass.field-0 at c.loop-i.invariant.stack c.requires.matched (c.in_ok-pass.ensures {u = tt}) in
    let ends : c.push.new.self.items ≡ noted (closed_by (statement_of c.index-stmts-i.result.form)) es c.loop-i.i c.loop-i.ends.items ++ 0 ∷ [] = (search (rules, c.in_ok-push.ensures.items, c.note.ensures, c.closed_by.ensures)) in
    let heads : c.push-in-loop-i.new.self.items ≡ c.loop-i.heads.items ++ head es ∷ [] = (search (rules, c.in_ok-push-2.ensures)) in
    subst (λ (xs : List ℕ). SoFar ss (c.loop-i.i + 1) (reverse c.pass.new.blocks.items) xs c.push-in-loop-i.new.self.items) (sym ends)
    (subst (λ (xs : List ℕ). SoFar ss (c.loop-i.i + 1) (reverse c.pass.new.blocks.items) (noted (closed_by (statement_of c.index-stmts-i.result.form)) es c.loop-i.i c.loop-i.ends.items ++ 0 ∷ []) xs) (sym heads)
    (so_far_next ss c.loop-i.i (placed c.index-stmts-i.result) es (reverse c.pass.new.blocks.items) c.loop-i.ends.items c.loop-i.heads.items at c.loop-i.invariant past))

pub returns : goal.returns
returns c =
    let ss : List Placed = map placed c.args.stmts.now in
    let end : c.loop-i.i ≡ length ss = omega (arith, length-map c.args.stmts.now placed, c.loop-i-test.false, c.loop-i.auto.i-end) in
    let whole : SoFar ss (length ss) (reverse c.loop-i.blocks.items) c.loop-i.ends.items c.loop-i.heads.items = subst (λ (n : ℕ). SoFar ss n (reverse c.loop-i.blocks.items) c.loop-i.ends.items c.loop-i.heads.items) end c.loop-i.invariant in
    all_mates ss c.loop-i.ends.items c.loop-i.heads.items
    (subst (λ (es : List OpenBlock). SoFar ss (length ss) es c.loop-i.ends.items c.loop-i.heads.items) (ends_closed ss (reverse c.loop-i.blocks.items) c.requires.order whole.stack) whole)
