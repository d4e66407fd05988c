use Rattle.std.specs.Prelude.{map}
use Rattle.il_core.specs.Tree.{tree_of}
use Rattle.il_syntax.specs.Expression.{kinds}
use Rattle.il_syntax.proofs.CallArguments.{goes_on_list, ends_list, fails}
use Rattle.il_syntax.proofs.form_call.listed.Goals as goal

pub returns-in-Err : goal.returns-in-Err
returns-in-Err c =
    fails (kinds c.args.tokens.now) (map tree_of c.loop-argument.arguments) (kinds c.loop-argument.rest.now) (kinds c.first_argument.result.0.now)
    c.first_argument.result.1 c.in-Err.end c.loop-argument.invariant c.first_argument.ensures.cut c.in-Err.ensures

pub returns-in-None : goal.returns-in-None
returns-in-None c =
    ends_list (kinds c.args.tokens.now) (kinds c.loop-argument.rest.now) (kinds c.first_argument.result.0.now) c.loop-argument.arguments c.push.new.self c.in-Ok.argument
    c.first_argument.result.1 c.loop-argument.invariant c.first_argument.ensures.cut c.in-None.is c.in-Ok.ensures c.in_ok-push-in-Ok.ensures.ok

pub loop-argument-preserved : goal.loop-argument-preserved
loop-argument-preserved c =
    goes_on_list (kinds c.args.tokens.now) (kinds c.loop-argument.rest.now) (kinds c.first_argument.result.0.now) c.loop-argument.arguments c.push.new.self c.in-Ok.argument
    c.first_argument.result.1 c.in-Some.after c.loop-argument.invariant c.first_argument.ensures.cut c.in-Some.is c.in-Ok.ensures c.in_ok-push-in-Ok.ensures.ok
