use Rattle.path_expr.proofs.Earlier.{earlier_ones}
use Rattle.path_expr.proofs.laws.definitions_name_earlier_ones.Goals as goal

pub returns : goal.returns
returns c = earlier_ones
