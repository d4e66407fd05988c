use Rattle.std.proofs.Common.{rules, SFits}
use Rattle.std.specs.Int.{w128}
use Rattle.std.proofs.lemmas.Int.{to_z-of_z}
use Rattle.sym_simplify.specs.Table.{form_at}
use Rattle.sym_simplify.proofs.Norms.{number_small}
use Rattle.sym_simplify.proofs.table.FormTable.product.Goals as goal

pub scaled-requires-in-Constant-node-clause-small : goal.scaled-requires-in-Constant-node-clause-small
scaled-requires-in-Constant-node-clause-small c =
    let fits : SFits w128 c.in-Constant-node.factor = search rules in
    number_small (form_at c.args.self.now c.args.left) (form_at c.args.self.now c.args.right) c.in-Constant-node.factor _ _ c.requires.small
    c.in-Constant-node.ensures.form (to_z-of_z w128 c.in-Constant-node.factor fits)
