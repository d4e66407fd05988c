use Rattle.typing_laws.proofs.Ordered.{are_placed}
use Rattle.typing_laws.proofs.Force.{force_found}
use Rattle.typing_laws.proofs.laws.in_force_is_found.Goals as goal

pub returns : goal.returns
returns c stmts order i name = force_found stmts i name (are_placed stmts order)
