use Rattle.semantic_tables.proofs.Tables.{one_table}
use Rattle.semantic_tables.proofs.laws.one_table.Goals as goal

pub returns : goal.returns
returns c = λ p loops pc. one_table p loops pc c.one_listing.ensures
