use Rattle.typing_laws.proofs.Ordered.{are_placed}
use Rattle.typing_laws.proofs.StatementKinds.{well_typed_is, is_well_typed}
use Rattle.typing_laws.proofs.laws.well_typed_is_accepted.Goals as goal

pub returns : goal.returns
returns c stmts order once i x = (
  λ h. is_well_typed stmts i x (record { placed = are_placed stmts order; once = once }) h,
  λ w. well_typed_is stmts i x (record { placed = are_placed stmts order; once = once }) w,
)
