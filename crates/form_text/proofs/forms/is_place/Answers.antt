-- The parts of a normal term, one by one.
use Rattle.std.proofs.Common.{◌∙◌}
use Rattle.form_text.proofs.PartTexts.{none-place, just-place, many-place}
use Rattle.form_text.proofs.forms.is_place.Goals as goal

pub returns-in-len1 : goal.returns-in-len1
returns-in-len1 c =
    c.is_place_with.ensures
    ∙ just-place c.args.at c.args.normal.now c.as_slice.result.now c.only-item.result c.as_slice.ensures c.only-item.is c.in-len1.len_at_least c.in-len1.len_below

pub returns-in_default : goal.returns-in_default
returns-in_default c = none-place c.args.at c.args.normal.now c.as_slice.result.now c.as_slice.ensures c.in_default.len_below

pub returns-in_default-2 : goal.returns-in_default-2
returns-in_default-2 c = many-place c.args.at c.args.normal.now c.as_slice.result.now c.as_slice.ensures c.in_default.len_at_least
