use Rattle.control_flow.proofs.ComingBack.{back_found}
use Rattle.control_flow.proofs.Listing.{both_ways}
use Rattle.control_flow.proofs.Showing.{not_back}
use Rattle.control_flow.proofs.shaping.comes_back.Goals as goal

pub returns : goal.returns
returns c =
    rw c.as_slice-2.ensures
    (both_ways (c.in_ok-marks.ensures.exact c.args.line)
    (back_found c.args.rows.now c.row_at.result.now c.as_slice.result.now c.in_ok-blocked.blocked.items c.args.line c.row_at.ensures c.as_slice.ensures.value
    c.in_ok-blocked.ensures.exact))

pub returns-then-not-has_later : goal.returns-then-not-has_later
returns-then-not-has_later c = (
  λ t. absurd (cc),
  λ b. absurd (not_back c.args.rows.now c.args.row.now c.args.line c.requires.row c.if-not-has_later.ensures b),
)
