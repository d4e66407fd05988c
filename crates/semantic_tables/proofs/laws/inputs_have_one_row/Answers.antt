use Rattle.semantic_tables.proofs.Tables.{one_row_each}
use Rattle.semantic_tables.proofs.laws.inputs_have_one_row.Goals as goal

pub returns : goal.returns
returns c = λ p loops pc t b k. one_row_each p loops pc t c.inputs_take_one_path.ensures c.normal_terms_keep_values.ensures b k
