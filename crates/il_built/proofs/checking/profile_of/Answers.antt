use Rattle.std.proofs.Common.{◌∙◌, sym, ap, if◌then◌else◌, Bool}
use Rattle.il_core.specs.Statement.{Placed, placed}
use Rattle.il_built.specs.CheckedText.{wraps}
use Rattle.il_built.proofs.Profile.{seen_any}
use Rattle.il_built.proofs.checking.profile_of.Goals as goal

pub returns-then-has_wrap : goal.returns-then-has_wrap
returns-then-has_wrap c = ap (λ (b : Bool). if b then 2 else 1) (sym c.if-has_wrap.true ∙ c.has_wrap.ensures ∙ seen_any (λ (x : Placed). wraps x.says) placed c.args.stmts.now)

pub returns-else-has_wrap : goal.returns-else-has_wrap
returns-else-has_wrap c = ap (λ (b : Bool). if b then 2 else 1) (sym c.if-has_wrap.false ∙ c.has_wrap.ensures ∙ seen_any (λ (x : Placed). wraps x.says) placed c.args.stmts.now)
