use Rattle.std.proofs.Common.{sym, ◌∙◌}
use Rattle.il_inline.proofs.laws.same_expansion.Goals as goal

pub returns : goal.returns
returns c t e f a b = record { text = a.text ∙ sym b.text; origins = a.origins ∙ sym b.origins; spans = a.spans ∙ sym b.spans }
