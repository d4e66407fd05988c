use Rattle.std.proofs.Common.{◌≡◌}
use Rattle.std.specs.Prelude.{map}
use Rattle.il_core.specs.Procedure.{instruction_of}
use Rattle.il_built.specs.CheckedText.{post_of, target_at, instructions}
use Rattle.il_built.specs.Holding.{setting_at}
use Rattle.il_built.proofs.Given.{given_by}
use Rattle.il_built.proofs.lines.lines_of.Given as goal

abbrev pub invariant-loop-i : goal.invariant-loop-i
invariant-loop-i l =
    let stmts = l.setting.stmts in
    map instruction_of l.lines ≡ given_by (λ i x. instructions (setting_at stmts i) (post_of stmts l.span.owner) (target_at l.links i) x) stmts l.span.owner l.i
