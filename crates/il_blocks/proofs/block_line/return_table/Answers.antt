use Rattle.std.proofs.Common.{◌≡◌, ◌+◌, ◌-◌, ◌<◌, ◌≤◌, ℕ, Bool, List, true, false, length, arith, sym, ◌∙◌, ap, subst}
use Rattle.std.specs.Prelude.{map}
use Rattle.std.proofs.lemmas.List.{length-map}
use Rattle.il_core.specs.Statement.{Placed, placed, statement_of}
use Rattle.il_core.specs.declared.statement.Stmt.{Stmt}
use Rattle.il_blocks.specs.BlockLink.{line, is_end}
use Rattle.il_blocks.proofs.BlockPlaces.{placed_at}
use Rattle.il_blocks.proofs.BlockLines.{ReturnsFrom, returns_more}
use Rattle.il_blocks.proofs.block_line.return_table.Goals as goal
use Rattle.il_blocks.proofs.block_line.return_table.Goals.{then-is_end, else-is_end}

both_ways : (b : Bool) → b ≡ true → b ≡ false → ⊥
both_ways b e f = let z : true ≡ false = sym e ∙ f in cc

pub loop-i-preserved : goal.loop-i-preserved
loop-i-preserved c =
    let ss : List Placed = map placed c.args.stmts.now in
    let n : ℕ = c.loop-i.i - 1 in
    let told : c.is_end.result ≡ is_end (statement_of c.index-stmts-i.result.form) = c.is_end.ensures ∙ ap (λ (x : Stmt). is_end (statement_of x.form)) (sym c.index-stmts-i.is) in
    let low : n ≤ length ss = rw length-map (omega (arith, c.loop-i.auto.i)) in
    let within : n < length c.args.stmts.now = omega arith in
    let far : n < length ss = rw length-map within in
    let at = placed_at c.args.stmts.now n c.index-stmts-i.result within (sym c.index-stmts-i.is) in
    let one : c.loop-i.i ≡ n + 1 = omega arith in
    let before : ReturnsFrom ss (n + 1) c.loop-i.end c.loop-i.returns.items = subst (λ (k : ℕ). ReturnsFrom ss k c.loop-i.end c.loop-i.returns.items) one c.loop-i.invariant in
    let yes_here : is_end (statement_of c.index-stmts-i.result.form) ≡ true → c.if-is_end.end ≡ line ss n =
    elim c.if-is_end.branch [ then-is_end w ↦ λ e. w.end-is ∙ c.requires.each n low | else-is_end w ↦ λ e. absurd (both_ways c.is_end.result (told ∙ e) w.if-is_end.false) ] in
    let not_here : is_end (statement_of c.index-stmts-i.result.form) ≡ false → c.if-is_end.end ≡ c.loop-i.end =
    elim c.if-is_end.branch [ then-is_end w ↦ λ e. absurd (both_ways c.is_end.result w.if-is_end.true (told ∙ e)) | else-is_end w ↦ λ e. w.end-is ] in
    returns_more ss n c.if-is_end.end c.loop-i.end c.loop-i.returns.items (placed c.index-stmts-i.result) at far before yes_here not_here
