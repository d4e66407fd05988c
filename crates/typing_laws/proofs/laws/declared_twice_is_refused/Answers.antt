use Rattle.typing_laws.proofs.Ordered.{are_placed}
use Rattle.typing_laws.proofs.Twice.{twice_refused}
use Rattle.typing_laws.proofs.laws.declared_twice_is_refused.Goals as goal

pub returns : goal.returns
returns c stmts order i x says = twice_refused stmts i x (are_placed stmts order) says
