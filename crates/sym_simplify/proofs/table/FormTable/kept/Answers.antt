use Rattle.std.proofs.Common.{◌∙◌}
use Rattle.sym_simplify.proofs.OpenParts.{constant_small}
use Rattle.sym_simplify.proofs.LiteralForms.{kept_is}
use Rattle.sym_simplify.proofs.table.FormTable.kept.Goals as goal

pub kept_form-requires : goal.kept_form-requires
kept_form-requires c = constant_small c.args.self.now c.args.form.now.parts.items c.args.form.now.constant _ c.requires.small

pub returns : goal.returns
returns c =
    c.kept_form.ensures ∙ kept_is c.args.self.now c.args.form.now.parts.items c.args.form.now.constant c.args.relation _ (rw c.deref.ensures.value at c.in_ok-sum.ensures)
