use Rattle.typing_laws.proofs.Ordered.{are_placed}
use Rattle.typing_laws.proofs.Modes.{breaks_modes, modes_broken}
use Rattle.typing_laws.proofs.laws.broken_modes_are_refused.Goals as goal

pub returns : goal.returns
returns c stmts order once i x = (
  λ h. modes_broken stmts i x (record { placed = are_placed stmts order; once = once }) h,
  λ b. breaks_modes stmts i x (record { placed = are_placed stmts order; once = once }) b,
)
