use Rattle.typing_laws.proofs.Ordered.{are_placed}
use Rattle.typing_laws.proofs.StaticBounds.{bounds_found}
use Rattle.typing_laws.proofs.laws.static_bounds_are_found.Goals as goal

pub returns : goal.returns
returns c stmts order once all i e kind t = bounds_found stmts i e kind (record { placed = are_placed stmts order; once = once }) all t
