use Rattle.std.specs.Prelude.{map}
use Rattle.il_core.specs.Statement.{placed}
use Rattle.il_calls.proofs.Refused.{named_refused, past_limits, unfit, all_kept}
use Rattle.il_calls.proofs.checking.check_declared.Goals as goal

pub returns-in-Some : goal.returns-in-Some
returns-in-Some c = named_refused (map placed c.args.stmts.now) c.args.links.now c.first_of_call_rules.result c.in-Some.refusal c.requires.once c.in-Some.is c.first_of_call_rules.ensures

pub returns-in-Some-2 : goal.returns-in-Some-2
returns-in-Some-2 c =
    let links = c.args.links.now in
    past_limits (map placed c.args.stmts.now) links c.first_of_call_rules.result c.in_ok-refusal.field-0 c.in-Some-2.refusal c.requires.once c.in_default.is c.first_of_call_rules.ensures
    c.in-Some-2.is (c.in_ok-refusal.ensures links)

pub returns-in-Some-3 : goal.returns-in-Some-3
returns-in-Some-3 c =
    let links = c.args.links.now in
    unfit (map placed c.args.stmts.now) links c.first_of_call_rules.result c.in_ok-refusal.field-0 c.in_ok-refusal-2.field-0 c.in-Some-3.refusal c.requires.once
    c.in_default.is c.first_of_call_rules.ensures c.in_default-2.is (c.in_ok-refusal.ensures links) c.in-Some-3.is (c.in_ok-refusal-2.ensures links)

pub build-requires-clause-kept : goal.build-requires-clause-kept
build-requires-clause-kept c =
    let links = c.args.links.now in
    all_kept (map placed c.args.stmts.now) links c.first_of_call_rules.result c.in_ok-refusal.field-0 c.in_ok-refusal-2.field-0 c.requires.once
    c.in_default.is c.first_of_call_rules.ensures c.in_default-2.is (c.in_ok-refusal.ensures links) c.in_default-3.is (c.in_ok-refusal-2.ensures links)

pub returns : goal.returns
returns c =
    let links = c.args.links.now in (
      all_kept (map placed c.args.stmts.now) links c.first_of_call_rules.result c.in_ok-refusal.field-0 c.in_ok-refusal-2.field-0 c.requires.once
          c.in_default.is c.first_of_call_rules.ensures c.in_default-2.is (c.in_ok-refusal.ensures links) c.in_default-3.is (c.in_ok-refusal-2.ensures links),
      c.in_ok-text.ensures,
    )
