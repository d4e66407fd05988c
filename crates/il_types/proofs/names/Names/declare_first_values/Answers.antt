use Rattle.std.proofs.Common.{◌+◌, ◌∷◌, [], sym, subst, take, ap}
use Rattle.std.proofs.lemmas.List.{take_all}
use Rattle.il_types.specs.Names.{Table, entries_from, GoesOn}
use Rattle.il_types.proofs.FirstNames.{goes_further, value_more}
use Rattle.il_types.proofs.names.Names.declare_first_values.Goals as goal

pub loop-k-preserved : goal.loop-k-preserved
loop-k-preserved c =
    let at = c.args.at in
    let k = c.loop-k.k in
    let values = c.args.values.now in
    let v = c.index-values-k.result in
    let before = c.args.self.now in
    let after = c.declare_first.new.self in
    subst (λ (es : Table). GoesOn before after es) (sym (value_more at k values v c.loop-k-test.true c.index-values-k.is))
    (goes_further before c.loop-k.self after (entries_from 0 at 1 (take k values)) (((0, v), (at, k + 1)) ∷ []) c.loop-k.invariant c.in_ok-declare_first.ensures)

pub returns : goal.returns
returns c =
    subst (λ (es : Table). GoesOn c.args.self.now c.loop-k.self es) (ap (entries_from 0 c.args.at 1) (take_all c.loop-k.k c.args.values.now c.loop-k-test.false)) c.loop-k.invariant
