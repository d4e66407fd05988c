use Rattle.std.proofs.Common.{sym, ◌∙◌, ap}
use Rattle.cert_text.specs.LineReading.{line_at, line_read}
use Rattle.cert_text.proofs.line.spelt_line.Goals as goal

pub returns-in-Some : goal.returns-in-Some
unfolding line_read
returns-in-Some c = c.worded_line.ensures ∙ ap (line_at c.args.text.now) (sym c.in-Some.ensures)

pub returns-in-None : goal.returns-in-None
unfolding line_read
returns-in-None c = c.bare_line.ensures ∙ ap (line_at c.args.text.now) (sym c.in-None.ensures)
