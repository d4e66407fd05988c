use Rattle.std.proofs.Common.{◌≡◌, ◌∙◌, ap, length, arith}
use Rattle.std.specs.Prelude.{map}
use Rattle.std.proofs.lemmas.List.{length-map}
use Rattle.il_core.specs.Statement.{placed}
use Rattle.il_types.specs.declared.counts.Counts.{Counts}
use Rattle.il_built.proofs.ProcedureCounts.{statements_are}
use Rattle.il_built.proofs.spans.end_of.Goals as goal

pub returns-then-counts_before-owner : goal.returns-then-counts_before-owner
returns-then-counts_before-owner c =
    let stmts = c.args.stmts.now in
    let size : length (map placed stmts) ≡ length stmts = length-map stmts placed in
    statements_are (map placed stmts) c.args.owner c.args.at c.loop-i.i c.requires.opening (omega arith) (omega arith) c.loop-i.invariant
    (λ _ e. c.if-counts_before-owner.true (ap (λ (n : Counts). n.procedures) c.counts_before.ensures ∙ e))

pub returns : goal.returns
returns c =
    let stmts = c.args.stmts.now in
    let size : length (map placed stmts) ≡ length stmts = length-map stmts placed in
    statements_are (map placed stmts) c.args.owner c.args.at (length stmts) c.requires.opening (omega arith) (omega arith)
    (λ k le lt. c.loop-i.invariant k le (omega arith)) (λ lt e. absurd (omega arith))
