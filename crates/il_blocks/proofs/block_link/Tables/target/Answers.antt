use Rattle.std.proofs.Common.{◌+◌, ◌<◌, ◌≤◌, ℕ, List, length, arith, rules, refl, sym, ◌∙◌, ap, subst}
use Rattle.std.specs.Prelude.{map}
use Rattle.std.proofs.lemmas.List.{length-map}
use Rattle.std.proofs.lemmas.Option.{slice_get_within}
use Rattle.il_core.specs.Statement.{Placed, placed, statement_of, otherwise, end_loop, goto}
use Rattle.il_core.specs.declared.statement.Form.{Form}
use Rattle.il_blocks.specs.declared.block.Kind.TheVariants as kind
use Rattle.il_blocks.specs.BlockLabel.{found}
use Rattle.il_blocks.specs.BlockLink.{Pairs, Surrounds, HasTarget}
use Rattle.il_blocks.specs.BlockTable.{SaysAt}
use Rattle.il_blocks.proofs.BlockTargets.{line_low, line_read, end_read, loop_read, head_read, opens_at, surrounds_opens, leaves_to, exit_target, exit_leaves, label_there, says_within, pair_within, pair_below}
use Rattle.il_blocks.proofs.block_link.Tables.target.Goals as goal

pub line-requires : goal.line-requires
line-requires c =
    let ss : List Placed = map placed c.args.stmts.now in
    let says : SaysAt ss c.args.at otherwise = subst (λ (f : Form). SaysAt ss c.args.at (statement_of f)) c.in-Else.is c.requires.says in
    let p : Pairs ss c.args.at c.end.result = end_read ss c.args.self.now.mates.ends.items c.args.self.now.mates.heads.items c.args.at c.end.result c.requires.tables.mates (opens_at ss c.args.at otherwise kind.Otherwise says refl) c.end.ensures in
    omega (arith, pair_within ss c.args.at c.end.result p, c.requires.tables.lines.long)

pub head-requires : goal.head-requires
head-requires c = omega (arith, says_within (map placed c.args.stmts.now) c.args.at (statement_of c.args.form.now) c.requires.says, c.requires.tables.mates.heads_long)

pub line-requires-in-EndLoop : goal.line-requires-in-EndLoop
line-requires-in-EndLoop c =
    let ss : List Placed = map placed c.args.stmts.now in
    let says : SaysAt ss c.args.at end_loop = subst (λ (f : Form). SaysAt ss c.args.at (statement_of f)) c.in-EndLoop.is c.requires.says in
    let p : Pairs ss c.head.result c.args.at = loop_read ss c.args.self.now.mates.ends.items c.args.self.now.mates.heads.items c.args.at c.head.result c.requires.tables.mates says c.head.ensures in
    omega (arith, pair_below ss c.head.result c.args.at p, c.requires.tables.lines.long)

pub procedure_end-requires : goal.procedure_end-requires
procedure_end-requires c = omega (arith, says_within (map placed c.args.stmts.now) c.args.at (statement_of c.args.form.now) c.requires.says, c.requires.tables.returns.long)

pub head-requires-in-Exit : goal.head-requires-in-Exit
head-requires-in-Exit c = omega (arith, says_within (map placed c.args.stmts.now) c.args.at (statement_of c.args.form.now) c.requires.says, c.requires.tables.mates.heads_long)

pub end-requires-in-Exit : goal.end-requires-in-Exit
end-requires-in-Exit c =
    let ss : List Placed = map placed c.args.stmts.now in
    let s : Surrounds ss c.head-in-Exit.result c.args.at = head_read ss c.args.self.now.mates.ends.items c.args.self.now.mates.heads.items c.args.at c.head-in-Exit.result (statement_of c.args.form.now) c.requires.tables.mates c.requires.says (exit_leaves c.args.form.now c.in-Exit.is) c.head-in-Exit.ensures in
    let within : c.head-in-Exit.result < length ss = slice_get_within ss c.head-in-Exit.result s.opener s.at in
    omega (arith, c.requires.tables.mates.ends_long)

pub line-requires-in-Exit : goal.line-requires-in-Exit
line-requires-in-Exit c =
    let ss : List Placed = map placed c.args.stmts.now in
    let s : Surrounds ss c.head-in-Exit.result c.args.at = head_read ss c.args.self.now.mates.ends.items c.args.self.now.mates.heads.items c.args.at c.head-in-Exit.result (statement_of c.args.form.now) c.requires.tables.mates c.requires.says (exit_leaves c.args.form.now c.in-Exit.is) c.head-in-Exit.ensures in
    let p : Pairs ss c.head-in-Exit.result c.end-in-Exit.result = end_read ss c.args.self.now.mates.ends.items c.args.self.now.mates.heads.items c.head-in-Exit.result c.end-in-Exit.result c.requires.tables.mates (surrounds_opens ss c.head-in-Exit.result c.args.at s) c.end-in-Exit.ensures in
    omega (arith, pair_within ss c.head-in-Exit.result c.end-in-Exit.result p, c.requires.tables.lines.long)

pub overflow_add-result : goal.overflow_add-result
overflow_add-result c =
    let ss : List Placed = map placed c.args.stmts.now in
    let s : Surrounds ss c.head-in-Exit.result c.args.at = head_read ss c.args.self.now.mates.ends.items c.args.self.now.mates.heads.items c.args.at c.head-in-Exit.result (statement_of c.args.form.now) c.requires.tables.mates c.requires.says (exit_leaves c.args.form.now c.in-Exit.is) c.head-in-Exit.ensures in
    let p : Pairs ss c.head-in-Exit.result c.end-in-Exit.result = end_read ss c.args.self.now.mates.ends.items c.args.self.now.mates.heads.items c.head-in-Exit.result c.end-in-Exit.result c.requires.tables.mates (surrounds_opens ss c.head-in-Exit.result c.args.at s) c.end-in-Exit.ensures in
    let within : c.end-in-Exit.result < length ss = pair_within ss c.head-in-Exit.result c.end-in-Exit.result p in
    let low : c.end-in-Exit.result ≤ length ss = omega arith in
    let small : c.line-in-Exit.result ≤ c.end-in-Exit.result = rw (line_read ss c.args.self.now.lines.items c.end-in-Exit.result c.line-in-Exit.result c.requires.tables.lines within c.line-in-Exit.ensures) (line_low ss c.end-in-Exit.result low) in
    let far : c.line-in-Exit.result < length c.args.stmts.now = omega (arith, length-map c.args.stmts.now placed) in
    (search rules)

pub returns-in-Else : goal.returns-in-Else
returns-in-Else c =
    let ss : List Placed = map placed c.args.stmts.now in
    let says : SaysAt ss c.args.at otherwise = subst (λ (f : Form). SaysAt ss c.args.at (statement_of f)) c.in-Else.is c.requires.says in
    let p : Pairs ss c.args.at c.end.result = end_read ss c.args.self.now.mates.ends.items c.args.self.now.mates.heads.items c.args.at c.end.result c.requires.tables.mates (opens_at ss c.args.at otherwise kind.Otherwise says refl) c.end.ensures in
    subst (λ (f : Form). HasTarget ss c.args.at (statement_of f) c.line.result) (sym c.in-Else.is)
    (c.end.result, p, line_read ss c.args.self.now.lines.items c.end.result c.line.result c.requires.tables.lines (pair_within ss c.args.at c.end.result p) c.line.ensures)

pub returns-in-EndLoop : goal.returns-in-EndLoop
returns-in-EndLoop c =
    let ss : List Placed = map placed c.args.stmts.now in
    let says : SaysAt ss c.args.at end_loop = subst (λ (f : Form). SaysAt ss c.args.at (statement_of f)) c.in-EndLoop.is c.requires.says in
    let p : Pairs ss c.head.result c.args.at = loop_read ss c.args.self.now.mates.ends.items c.args.self.now.mates.heads.items c.args.at c.head.result c.requires.tables.mates says c.head.ensures in
    subst (λ (f : Form). HasTarget ss c.args.at (statement_of f) c.line-in-EndLoop.result) (sym c.in-EndLoop.is)
    (c.head.result, p, line_read ss c.args.self.now.lines.items c.head.result c.line-in-EndLoop.result c.requires.tables.lines (pair_below ss c.head.result c.args.at p) c.line-in-EndLoop.ensures)

pub returns-in-None : goal.returns-in-None
returns-in-None c =
    let ss : List Placed = map placed c.args.stmts.now in
    let says : SaysAt ss c.args.at (goto c.in-Goto.name) = subst (λ (f : Form). SaysAt ss c.args.at (statement_of f)) c.in-Goto.is c.requires.says in
    absurd (label_there ss c.args.self.now.labels.entries c.args.at c.in-Goto.name c.requires.tables.labels c.requires.matched says
    (ap (λ (n : ℕ). found n c.in-Goto.name c.args.self.now.labels.entries) (sym c.requires.owner) ∙ sym c.found.ensures ∙ c.in-None.is))

pub returns-in-Return : goal.returns-in-Return
returns-in-Return c =
    let ss : List Placed = map placed c.args.stmts.now in
    subst (λ (f : Form). HasTarget ss c.args.at (statement_of f) c.procedure_end.result) (sym c.in-Return.is)
    (c.procedure_end.ensures ∙ c.requires.tables.returns.each c.args.at (says_within ss c.args.at (statement_of c.args.form.now) c.requires.says))

pub returns-in-Exit : goal.returns-in-Exit
returns-in-Exit c =
    let ss : List Placed = map placed c.args.stmts.now in
    let s : Surrounds ss c.head-in-Exit.result c.args.at = head_read ss c.args.self.now.mates.ends.items c.args.self.now.mates.heads.items c.args.at c.head-in-Exit.result (statement_of c.args.form.now) c.requires.tables.mates c.requires.says (exit_leaves c.args.form.now c.in-Exit.is) c.head-in-Exit.ensures in
    let p : Pairs ss c.head-in-Exit.result c.end-in-Exit.result = end_read ss c.args.self.now.mates.ends.items c.args.self.now.mates.heads.items c.head-in-Exit.result c.end-in-Exit.result c.requires.tables.mates (surrounds_opens ss c.head-in-Exit.result c.args.at s) c.end-in-Exit.ensures in
    exit_target ss c.args.at (statement_of c.args.form.now) (c.line-in-Exit.result + 1) (exit_leaves c.args.form.now c.in-Exit.is)
    (leaves_to ss c.args.at c.head-in-Exit.result c.end-in-Exit.result (c.line-in-Exit.result + 1) s p
    (ap (λ (n : ℕ). n + 1) (line_read ss c.args.self.now.lines.items c.end-in-Exit.result c.line-in-Exit.result c.requires.tables.lines (pair_within ss c.head-in-Exit.result c.end-in-Exit.result p) c.line-in-Exit.ensures)))
