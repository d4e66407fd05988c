use Rattle.std.proofs.Common.{◌≡◌}
use Rattle.std.specs.Prelude.{map}
use Rattle.il_built.proofs.Given.{given_by}
use Rattle.il_called.specs.Called.{written_of}
use Rattle.call_rules.specs.CalledText.{written_lines}
use Rattle.call_built.proofs.lines.lines_of.Given as goal

abbrev pub invariant-loop-i : goal.invariant-loop-i
invariant-loop-i l =
    let stmts = l.setting.stmts in
    map written_of l.lines ≡ given_by (written_lines stmts l.links l.span.owner) stmts l.span.owner l.i
