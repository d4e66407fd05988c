use Rattle.std.proofs.Common.{subst}
use Rattle.std.specs.Prelude.{Option, map}
use Rattle.il_core.specs.Statement.{placed}
use Rattle.il_core.specs.declared.refusal.Refusal.{Refusal}
use Rattle.il_types.specs.Rules.{IsRefused}
use Rattle.call_rules.specs.Clash.{twice_at}
use Rattle.call_rules.proofs.Joined.{answers_twice}
use Rattle.il_calls.proofs.Once.{none_again}
use Rattle.il_calls.proofs.checking.check_calls.Goals as goal

pub returns-in-Some : goal.returns-in-Some
returns-in-Some c =
    let stmts = map placed c.args.stmts.now in
    let links = c.args.links.now in
    answers_twice stmts links c.in-Some.refusal (subst (λ (o : Option Refusal). IsRefused (twice_at stmts links) stmts o) c.in-Some.is (c.in_ok-refusal.ensures links))

pub check_declared-requires-clause-names : goal.check_declared-requires-clause-names
check_declared-requires-clause-names c =
    let stmts = map placed c.args.stmts.now in
    let links = c.args.links.now in
    c.in_ok-declared.ensures.whole (none_again stmts links c.in_ok-declared.declared.redeclaration
    (subst (λ (o : Option Refusal). IsRefused (twice_at stmts links) stmts o) c.in_default.is (c.in_ok-refusal.ensures links)) c.in_ok-declared.ensures.first)

pub check_declared-requires-clause-once : goal.check_declared-requires-clause-once
check_declared-requires-clause-once c =
    let stmts = map placed c.args.stmts.now in
    subst (λ (o : Option Refusal). IsRefused (twice_at stmts c.args.links.now) stmts o) c.in_default.is (c.in_ok-refusal.ensures c.args.links.now)
