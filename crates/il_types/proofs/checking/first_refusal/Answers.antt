use Rattle.std.specs.Prelude.{map}
use Rattle.il_core.specs.Statement.{placed}
use Rattle.il_types.proofs.Passing.{answers_with}
use Rattle.il_types.proofs.checking.first_refusal.Goals as goal

pub returns-in_ok-before-in-Ok : goal.returns-in_ok-before-in-Ok
returns-in_ok-before-in-Ok c = answers_with (map placed c.args.stmts.now) c.in-Ok.names c.first_of_rules.result c.in-Ok.ensures.0 c.in-Ok.ensures.1 c.first_of_rules.ensures
