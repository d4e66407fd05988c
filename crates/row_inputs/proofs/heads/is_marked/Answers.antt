use Rattle.std.proofs.Common.{sym, ap, ◌∙◌, Some}
use Rattle.std.proofs.lemmas.Option.{slice_get-get_or}
use Rattle.row_inputs.proofs.heads.is_marked.Goals as goal

pub returns : goal.returns
returns c = slice_get-get_or c.args.marks.now c.args.line _ c.requires.inside
