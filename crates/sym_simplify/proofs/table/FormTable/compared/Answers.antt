use Rattle.sym_simplify.specs.Open.{open_form}
use Rattle.sym_simplify.proofs.LiteralForms.{negated_heft}
use Rattle.sym_simplify.proofs.table.FormTable.compared.Goals as goal

pub kept-requires-clause-small : goal.kept-requires-clause-small
kept-requires-clause-small c =
    rw (c.in_ok-negated-in-Some.ensures.form, negated_heft (open_form c.args.self.now c.args.form.now)) c.requires.small
