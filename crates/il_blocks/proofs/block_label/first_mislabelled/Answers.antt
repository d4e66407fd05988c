use Rattle.std.proofs.Common.{◌≡◌, ◌||◌, ◌+◌, ◌≤◌, ℕ, true, false, List, arith, sym, ◌∙◌, ap}
use Rattle.std.specs.Prelude.{map}
use Rattle.std.proofs.lemmas.List.{length-map}
use borrow.Author.Count.{below_more}
use Rattle.il_core.specs.Statement.{placed, statement_of, Placed}
use Rattle.il_blocks.specs.BlockLabel.{owner, label_of, target_of, is_repeat, is_lost, IsMislabelled}
use Rattle.il_blocks.proofs.BlockPlaces.{placed_at}
use Rattle.il_blocks.proofs.BlockLabels.{owner_next, table_same, mislabelled_here, labelled_here, none_mislabelled}
use Rattle.il_blocks.proofs.block_label.first_mislabelled.Goals as goal

pub returns-then-is_mislabelled : goal.returns-then-is_mislabelled
returns-then-is_mislabelled c =
    let ss : List Placed = map placed c.args.stmts.now in
    let at = placed_at c.args.stmts.now c.loop-i.i c.index-stmts-i.result c.loop-i-test.true (sym c.index-stmts-i.is) in
    let told : (is_repeat (label_of (statement_of c.index-stmts-i.result.form)) (owner ss c.loop-i.i) c.loop-i.i c.args.labels.now.entries || is_lost (target_of (statement_of c.index-stmts-i.result.form)) (owner ss c.loop-i.i) c.args.labels.now.entries) ≡ true =
    ap (λ (n : ℕ). is_repeat (label_of (statement_of c.index-stmts-i.result.form)) n c.loop-i.i c.args.labels.now.entries || is_lost (target_of (statement_of c.index-stmts-i.result.form)) n c.args.labels.now.entries) (sym c.loop-i.invariant.1)
    ∙ sym c.is_mislabelled.ensures ∙ c.if-is_mislabelled.true in (
      mislabelled_here ss c.loop-i.i (placed c.index-stmts-i.result) c.args.labels.now.entries at (table_same c.args.stmts.now c.args.labels.now.entries c.requires) told,
      c.loop-i.invariant.2,
    )

pub loop-i-preserved : goal.loop-i-preserved
loop-i-preserved c =
    let ss : List Placed = map placed c.args.stmts.now in
    let at = placed_at c.args.stmts.now c.loop-i.i c.index-stmts-i.result c.loop-i-test.true (sym c.index-stmts-i.is) in
    let told : (is_repeat (label_of (statement_of c.index-stmts-i.result.form)) (owner ss c.loop-i.i) c.loop-i.i c.args.labels.now.entries || is_lost (target_of (statement_of c.index-stmts-i.result.form)) (owner ss c.loop-i.i) c.args.labels.now.entries) ≡ false =
    ap (λ (n : ℕ). is_repeat (label_of (statement_of c.index-stmts-i.result.form)) n c.loop-i.i c.args.labels.now.entries || is_lost (target_of (statement_of c.index-stmts-i.result.form)) n c.args.labels.now.entries) (sym c.loop-i.invariant.1)
    ∙ sym c.is_mislabelled.ensures ∙ c.if-is_mislabelled.false in
    let within : c.loop-i.inside + c.begins-inside.result ≤ c.loop-i.i + 1 = omega (arith, c.loop-i.invariant.0, c.begins-inside.ensures.bound) in
    let next : c.loop-i.inside + c.begins-inside.result ≡ owner ss (c.loop-i.i + 1) =
    ap (λ (n : ℕ). n + c.begins-inside.result) c.loop-i.invariant.1 ∙ ap (λ (n : ℕ). owner ss c.loop-i.i + n) c.begins-inside.ensures.value
    ∙ sym (owner_next ss c.loop-i.i (placed c.index-stmts-i.result) at) in (
      within,
      next,
      below_more (λ (j : ℕ). IsMislabelled ss j → ⊥) c.loop-i.i c.loop-i.invariant.2
          (labelled_here ss c.loop-i.i (placed c.index-stmts-i.result) c.args.labels.now.entries at (table_same c.args.stmts.now c.args.labels.now.entries c.requires) told),
    )

pub returns : goal.returns
returns c = none_mislabelled (map placed c.args.stmts.now) c.loop-i.i (rw length-map c.loop-i-test.false) c.loop-i.invariant.2
