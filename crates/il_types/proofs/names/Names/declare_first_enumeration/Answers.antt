use Rattle.std.proofs.Common.{◌∷◌, []}
use Rattle.std.proofs.lemmas.Result.{IfOk-weaker}
use Rattle.il_types.specs.Names.{entries_from}
use Rattle.il_types.proofs.FirstNames.{goes_further}
use Rattle.il_types.proofs.names.Names.declare_first_enumeration.Goals as goal

pub returns : goal.returns
returns c =
    IfOk-weaker c.declare_first_values.result _ _
    (λ x h. goes_further c.args.self.now c.declare_first.new.self c.declare_first_values.new.self (((0, c.args.name.now), (c.args.at, 0)) ∷ [])
    (entries_from 0 c.args.at 1 c.args.values.now) c.in_ok-declare_first.ensures h)
    c.declare_first_values.ensures
