use Rattle.path_expr.proofs.Ranks.{all_defined}
use Rattle.path_expr.proofs.definitions.definitions.Goals as goal

pub returns : goal.returns
returns c =
    all_defined c.args.live.now c.args.steps.now c.args.answer c.in_ok-used.used.items c.in_ok-ranks.ranks.items c.in_ok-defs.defs c.whole_of-whole.result
    _ _ _ _ c.as_slice.ensures.value c.as_slice-2.ensures.value c.as_slice-3.ensures.value c.as_slice-4.ensures.value
    c.in_ok-used.ensures c.in_ok-ranks.ensures.exact c.in_ok-defs.ensures c.whole_of-whole.ensures
