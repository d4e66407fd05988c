use Rattle.std.proofs.Common.{map}
use Rattle.std.proofs.lemmas.Result.{err_from_is_err_and}
use Rattle.il_core.specs.Statement.{placed}
use Rattle.il_called.specs.Called.{called_of}
use Rattle.acceptance.proofs.Accepting.{are_accepted, are_refused}
use Rattle.acceptance.proofs.acceptance.expanded.Goals as goal

pub returns-in_err-called : goal.returns-in_err-called
returns-in_err-called c =
    let failed = err_from_is_err_and c.from_residual-in_err-called.result c.from_residual-in_err-called.ensures.1 in
    let refused =
    are_refused (map placed c.args.stmts.now) c.as_slice.result.now c.in_ok-links.links c.in_err-called.field-0.0 c.as_slice.ensures c.in_ok-links.ensures c.in_err-called.ensures in
    rw failed.1 (rw failed.2 refused)

pub returns : goal.returns
returns c = (
  are_accepted (map placed c.args.stmts.now) c.as_slice.result.now c.in_ok-links.links (called_of c.in_ok-called.called) c.in_ok-expand.field-0 c.as_slice.ensures
      c.in_ok-links.ensures c.in_ok-called.ensures.0 c.in_ok-called.ensures.1 c.in_ok-expand.ensures.expansion,
  c.in_ok-expand.ensures.fits,
)
