use Rattle.il_blocks.proofs.BlockLabels.{table_same}
use Rattle.il_blocks.proofs.block_link.match_blocks.Goals as goal

pub links-requires-clause-tables : goal.links-requires-clause-tables
links-requires-clause-tables c = record {
  lines = c.in_ok-lines.ensures {u = tt};
  returns = c.in_ok-returns.ensures {u = tt};
  mates = c.in_ok-mates.ensures {u = tt};
  labels = table_same c.args.stmts.now c.in_ok-labels.labels.entries (c.in_ok-labels.ensures {u = tt});
}
