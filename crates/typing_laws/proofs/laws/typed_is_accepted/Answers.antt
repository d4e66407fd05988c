use Rattle.typing_laws.proofs.Ordered.{are_placed}
use Rattle.typing_laws.proofs.ExpressionKinds.{typed_kind, kind_typed}
use Rattle.typing_laws.proofs.laws.typed_is_accepted.Goals as goal

pub returns : goal.returns
returns c stmts order once i e kind = (
  λ h. kind_typed stmts i e kind (record { placed = are_placed stmts order; once = once }) h,
  λ t. typed_kind stmts i e kind (record { placed = are_placed stmts order; once = once }) t,
)
