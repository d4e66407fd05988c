use Rattle.std.proofs.Common.{◌++◌, ◌∙◌, ap, List}
use Rattle.il_called.specs.declared.called.Origin.{Origin}
use Rattle.il_inline.proofs.Held.{repeated_is}
use Rattle.il_inline.proofs.origins.repeat.Goals as goal

pub returns : goal.returns
returns c =
    c.in_ok-extend_from_slice.ensures.items
    ∙ ap (λ (l : List Origin). c.args.out.now.items ++ l) (c.as_slice.ensures.value ∙ c.in_ok-same.ensures ∙ repeated_is c.args.origin c.args.times)
