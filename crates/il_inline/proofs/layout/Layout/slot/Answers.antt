use Rattle.std.proofs.Common.{◌∙◌, ap}
use Rattle.std.specs.Option.{unwrap_or}
use Rattle.std.proofs.lemmas.Option.{unwrap_or-slice_get}
use Rattle.il_inline.proofs.layout.Layout.slot.Goals as goal

pub returns-in-None : goal.returns-in-None
returns-in-None c =
    ap (λ o. unwrap_or o c.args.self.now.end) c.in-None.ensures.value ∙ unwrap_or-slice_get c.args.self.now.slots c.args.line c.args.self.now.end
