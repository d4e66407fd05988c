use Rattle.typing_laws.proofs.Ordered.{are_placed}
use Rattle.typing_laws.proofs.UnknownNames.{unknown_refused}
use Rattle.typing_laws.proofs.laws.unknown_names_are_refused.Goals as goal

pub returns : goal.returns
returns c stmts order i x = unknown_refused stmts i x (are_placed stmts order)
