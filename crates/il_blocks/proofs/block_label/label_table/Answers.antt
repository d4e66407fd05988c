use Rattle.std.proofs.Common.{◌≡◌, ◌+◌, ◌≤◌, ℕ, List, arith, sym, ◌∙◌, ap, subst}
use Rattle.std.specs.Prelude.{map}
use Rattle.il_core.specs.Statement.{placed, statement_of, Placed}
use Rattle.il_blocks.specs.BlockLabel.{owner, label_of, enlisted, Entries, IsTable}
use Rattle.il_blocks.proofs.BlockPlaces.{placed_at}
use Rattle.il_blocks.proofs.BlockLabels.{owner_next, table_next, table_whole}
use Rattle.il_blocks.proofs.block_label.label_table.Goals as goal

pub loop-i-preserved : goal.loop-i-preserved
loop-i-preserved c =
    let ss : List Placed = map placed c.args.stmts.now in
    let at = placed_at c.args.stmts.now c.loop-i.i c.index-stmts-i.result c.loop-i-test.true (sym c.index-stmts-i.is) in
    let within : c.loop-i.inside + c.begins-inside.result ≤ c.loop-i.i + 1 = omega (arith, c.loop-i.invariant.0, c.begins-inside.ensures.bound) in
    let next : c.loop-i.inside + c.begins-inside.result ≡ owner ss (c.loop-i.i + 1) =
    ap (λ (n : ℕ). n + c.begins-inside.result) c.loop-i.invariant.1 ∙ ap (λ (n : ℕ). owner ss c.loop-i.i + n) c.begins-inside.ensures.value
    ∙ sym (owner_next ss c.loop-i.i (placed c.index-stmts-i.result) at) in
    let grown : c.enlist.new.labels.entries ≡ enlisted (label_of (statement_of c.index-stmts-i.result.form)) (owner ss c.loop-i.i) c.loop-i.i c.loop-i.labels.entries =
    c.in_ok-enlist.ensures {u = tt} ∙ ap (λ (n : ℕ). enlisted (label_of (statement_of c.index-stmts-i.result.form)) n c.loop-i.i c.loop-i.labels.entries) c.loop-i.invariant.1 in (
      within,
      next,
      subst (λ (es : Entries). IsTable ss (c.loop-i.i + 1) es) (sym grown)
          (table_next ss c.loop-i.i (placed c.index-stmts-i.result) c.loop-i.labels.entries at c.loop-i.invariant.2),
    )

pub returns : goal.returns
returns c = table_whole c.args.stmts.now c.loop-i.i c.loop-i.labels.entries c.loop-i-test.false c.loop-i.invariant.2
