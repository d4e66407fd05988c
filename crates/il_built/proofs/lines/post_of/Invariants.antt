use Rattle.std.proofs.Common.{◌≡◌, []}
use Rattle.il_built.specs.CheckedText.{posted}
use Rattle.il_built.specs.Holding.{setting_at}
use Rattle.il_built.proofs.Given.{given_by}
use Rattle.il_built.proofs.lines.post_of.Given as goal

abbrev pub invariant-loop-i : goal.invariant-loop-i
invariant-loop-i l = given_by (λ i x. posted (setting_at (l.setting.stmts) i) x) (l.setting.stmts) l.span.owner l.i ≡ []
