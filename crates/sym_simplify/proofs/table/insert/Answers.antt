use Rattle.std.proofs.Common.{◌∙◌, sym, ap, Some}
use Rattle.sym_simplify.proofs.Cells.{table_more}
use Rattle.sym_simplify.proofs.EqualCells.{cell_is}
use Rattle.sym_simplify.proofs.table.insert.Goals as goal

pub returns-clause-node : goal.returns-clause-node
returns-clause-node c =
    let found = c.in_ok-index.ensures.stored in
    found.1 ∙ ap Some (sym (cell_is c.args.node found.0 found.2))

pub returns-clause-table : goal.returns-clause-table
returns-clause-table c = table_more c.args.nodes.now.keys c.insert_full.new.self.keys c.args.node c.requires.table c.requires.below c.in_ok-index.ensures.keys c.in_ok-index.ensures.unique
