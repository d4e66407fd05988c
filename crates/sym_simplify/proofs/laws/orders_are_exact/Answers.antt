use Rattle.sym_simplify.proofs.Exact.{exact_order}
use Rattle.sym_simplify.proofs.laws.orders_are_exact.Goals as goal

pub returns : goal.returns
returns c = exact_order
