-- The parts of a side, one by one.
use Rattle.std.proofs.Common.{◌∙◌}
use Rattle.form_text.proofs.PartTexts.{no-bare, one-bare, more-bare}
use Rattle.form_text.proofs.forms.is_bare.Goals as goal

pub returns-in-empty : goal.returns-in-empty
returns-in-empty c = c.is_natural.ensures ∙ no-bare c.args.side.now c.as_slice.result.now c.as_slice.ensures c.in-empty.len_below

pub returns-in-len1 : goal.returns-in-len1
returns-in-len1 c =
    c.is_place_alone.ensures
    ∙ one-bare c.args.side.now c.as_slice.result.now c.only-item.result c.as_slice.ensures c.only-item.is c.in-len1.len_at_least c.in-len1.len_below

pub returns-in_default : goal.returns-in_default
returns-in_default c = more-bare c.args.side.now c.as_slice.result.now c.as_slice.ensures c.in_default.len_at_least
