use Rattle.typing_laws.proofs.Ordered.{are_placed}
use Rattle.typing_laws.proofs.EmptyRanges.{empty_range, range_empty}
use Rattle.typing_laws.proofs.laws.empty_ranges_are_refused.Goals as goal

pub returns : goal.returns
returns c stmts order once i x = (
  λ h. range_empty stmts i x (record { placed = are_placed stmts order; once = once }) h,
  λ e. empty_range stmts i x (record { placed = are_placed stmts order; once = once }) e,
)
