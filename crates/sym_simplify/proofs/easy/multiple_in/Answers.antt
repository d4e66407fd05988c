-- The parts of a normal term, one by one.
use Rattle.std.proofs.Common.{◌∙◌}
use Rattle.sym_simplify.proofs.EasyParts.{no-multiple, one-multiple, two-multiple, more-multiple}
use Rattle.sym_simplify.proofs.easy.multiple_in.Goals as goal

pub returns-in-len1 : goal.returns-in-len1
returns-in-len1 c =
    c.single_in.ensures
    ∙ one-multiple c.args.sum.now c.as_slice.result.now c.only-item.result c.as_slice.ensures c.only-item.is c.in-len1.len_at_least c.in-len1.len_below

pub returns-in-len2 : goal.returns-in-len2
returns-in-len2 c =
    c.double_in.ensures
    ∙ two-multiple c.args.sum.now c.as_slice.result.now c.first-item.result c.second-item.result c.as_slice.ensures c.first-item.is c.second-item.is c.in-len2.len_at_least c.in-len2.len_below

pub returns-in_default : goal.returns-in_default
returns-in_default c = no-multiple c.args.sum.now c.as_slice.result.now c.as_slice.ensures c.in_default.len_below

pub returns-in_default-2 : goal.returns-in_default-2
returns-in_default-2 c = more-multiple c.args.sum.now c.as_slice.result.now c.as_slice.ensures c.in_default.len_at_least
