use Rattle.std.proofs.Common.{◌+◌, ◌<◌, ◌≤◌, ℕ, List, true, false, length, arith, rules, sym, ◌∙◌, ap}
use Rattle.std.specs.Prelude.{map}
use Rattle.std.proofs.lemmas.List.{length-map}
use Rattle.il_core.specs.Statement.{Placed, placed}
use Rattle.il_blocks.specs.BlockLink.{Pairs}
use Rattle.il_blocks.proofs.BlockTargets.{line_low, line_read, end_read, pair_within, goes_on_at}
use Rattle.il_blocks.proofs.block_link.Tables.behind_false.Goals as goal

pub is_else-requires : goal.is_else-requires
is_else-requires c =
    let ss : List Placed = map placed c.args.stmts.now in
    let p : Pairs ss c.args.at c.end-end.result = end_read ss c.args.self.now.mates.ends.items c.args.self.now.mates.heads.items c.args.at c.end-end.result c.requires.tables.mates c.requires.opens c.end-end.ensures in
    rw length-map at (pair_within ss c.args.at c.end-end.result p)

pub line-requires : goal.line-requires
line-requires c =
    let ss : List Placed = map placed c.args.stmts.now in
    let p : Pairs ss c.args.at c.end-end.result = end_read ss c.args.self.now.mates.ends.items c.args.self.now.mates.heads.items c.args.at c.end-end.result c.requires.tables.mates c.requires.opens c.end-end.ensures in
    omega (arith, pair_within ss c.args.at c.end-end.result p, c.requires.tables.lines.long)

pub overflow_add-result : goal.overflow_add-result
overflow_add-result c =
    let ss : List Placed = map placed c.args.stmts.now in
    let p : Pairs ss c.args.at c.end-end.result = end_read ss c.args.self.now.mates.ends.items c.args.self.now.mates.heads.items c.args.at c.end-end.result c.requires.tables.mates c.requires.opens c.end-end.ensures in
    let within : c.end-end.result < length ss = pair_within ss c.args.at c.end-end.result p in
    let low : c.end-end.result ≤ length ss = omega arith in
    let small : c.line.result ≤ c.end-end.result = rw (line_read ss c.args.self.now.lines.items c.end-end.result c.line.result c.requires.tables.lines within c.line.ensures) (line_low ss c.end-end.result low) in
    let far : c.line.result < length c.args.stmts.now = omega (arith, length-map c.args.stmts.now placed) in
    (search rules)

pub line-requires-else-is_else : goal.line-requires-else-is_else
line-requires-else-is_else c =
    let ss : List Placed = map placed c.args.stmts.now in
    let p : Pairs ss c.args.at c.end-end.result = end_read ss c.args.self.now.mates.ends.items c.args.self.now.mates.heads.items c.args.at c.end-end.result c.requires.tables.mates c.requires.opens c.end-end.ensures in
    omega (arith, pair_within ss c.args.at c.end-end.result p, c.requires.tables.lines.long)

pub returns-then-is_else : goal.returns-then-is_else
returns-then-is_else c =
    let ss : List Placed = map placed c.args.stmts.now in
    let p : Pairs ss c.args.at c.end-end.result = end_read ss c.args.self.now.mates.ends.items c.args.self.now.mates.heads.items c.args.at c.end-end.result c.requires.tables.mates c.requires.opens c.end-end.ensures in
    goes_on_at ss c.args.at c.end-end.result (c.line.result + 1) true p (sym (c.is_else.ensures p.ender p.to) ∙ c.if-is_else.true)
    (ap (λ (n : ℕ). n + 1) (line_read ss c.args.self.now.lines.items c.end-end.result c.line.result c.requires.tables.lines (pair_within ss c.args.at c.end-end.result p) c.line.ensures))

pub returns-else-is_else : goal.returns-else-is_else
returns-else-is_else c =
    let ss : List Placed = map placed c.args.stmts.now in
    let p : Pairs ss c.args.at c.end-end.result = end_read ss c.args.self.now.mates.ends.items c.args.self.now.mates.heads.items c.args.at c.end-end.result c.requires.tables.mates c.requires.opens c.end-end.ensures in
    goes_on_at ss c.args.at c.end-end.result c.line-else-is_else.result false p (sym (c.is_else.ensures p.ender p.to) ∙ c.if-is_else.false)
    (line_read ss c.args.self.now.lines.items c.end-end.result c.line-else-is_else.result c.requires.tables.lines (pair_within ss c.args.at c.end-end.result p) c.line-else-is_else.ensures)
