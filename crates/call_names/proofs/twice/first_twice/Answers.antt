use Rattle.std.proofs.Common.{ℕ, ◌+◌, ◌≤◌, ◌<◌, ◌∙◌, sym, ap, subst, List, length}
use Rattle.std.specs.Prelude.{map}
use Rattle.std.proofs.lemmas.List.{length-map}
use Rattle.il_core.specs.Statement.{placed, statement_of}
use Rattle.il_core.specs.declared.refusal.Code.TheVariants as code
use Rattle.il_types.specs.declared.counts.Counts.{Counts}
use Rattle.il_types.specs.declared.rules.Found.{Found}
use Rattle.il_types.specs.Names.{counts_at}
use Rattle.il_types.specs.Rules.{naming, refusal_of}
use Rattle.il_types.proofs.Passing.{here, refuses_here, before_more, nowhere}
use Rattle.call_rules.specs.Clash.{twice_at}
use Rattle.call_names.specs.declared.outline.Outline.{Outline}
use Rattle.call_names.specs.Sorted.{AreAllSorted}
use Rattle.call_names.proofs.AlikeTables.{clash_alike}
use Rattle.call_names.proofs.Turns.{inside, clash_here, redeclaration_here, none_here, calls_next, clash_read_here, few_behind}
use Rattle.call_names.proofs.twice.first_twice.Goals as goal

pub clash_in-requires-clause-inside : goal.clash_in-requires-clause-inside
clash_in-requires-clause-inside c =
    let all = map placed c.args.stmts.now in
    let h : c.loop-i.i < length all = subst (λ n. c.loop-i.i < n) (sym (length-map c.args.stmts.now placed)) c.loop-i-test.true in
    let owner = ap (λ (n : Counts). n.procedures) c.counts_before-owner.ensures in
    subst (λ n. n < length c.as_slice-in-loop-i.result.now) (sym owner)
    (subst (λ (os : List Outline). (counts_at all c.loop-i.i).procedures < length os) (sym c.as_slice-in-loop-i.ensures.value) (inside all c.in_ok-outlines.outlines.items c.loop-i.i h c.in_ok-outlines.ensures))

pub clash_in-requires-clause-own : goal.clash_in-requires-clause-own
clash_in-requires-clause-own c =
    subst (λ (all : List (List (List ℕ))). AreAllSorted c.as_slice-in-loop-i.result.now all) (sym c.as_slice-in-loop-i-2.ensures.value)
    (subst (λ (os : List Outline). AreAllSorted os c.in_ok-own.own.items) (c.as_slice.ensures.value ∙ sym c.as_slice-in-loop-i.ensures.value) c.in_ok-own.ensures)

pub returns-in-Some : goal.returns-in-Some
returns-in-Some c = λ links.
    let all = map placed c.args.stmts.now in
    let i = c.loop-i.i in
    let x = c.index-stmts-i.result in
    let os = c.in_ok-outlines.outlines.items in
    let owner = ap (λ (n : Counts). n.procedures) c.counts_before-owner.ensures in
    let alike = clash_alike c.args.names.now all c.counts_before-owner.result.procedures i c.new-setting.result c.requires.names owner c.new-setting.ensures in
    let found = clash_read_here all links os c.as_slice-in-loop-i.result.now c.counts_before-owner.result.procedures i c.loop-i.calls c.new-setting.result (statement_of x.form) c.in_ok-name.field-0
    c.in_ok-outlines.ensures c.as_slice-in-loop-i.ensures.value owner alike c.in_ok-name.ensures in
    refuses_here (twice_at all links) c.args.stmts.now i x (naming code.Twice c.in-Some.name) c.refusal_of.result c.loop-i-test.true c.index-stmts-i.is (c.loop-i.invariant.before links)
    (clash_here all links os i c.loop-i.calls (statement_of x.form) c.in-Some.name c.in_ok-outlines.ensures c.loop-i.invariant.calls (sym found ∙ c.in-Some.is))
    (c.refusal_of.ensures ∙ ap (λ (f : Found). refusal_of f x.place) c.naming.ensures)

pub returns-in-Some-redeclared_at : goal.returns-in-Some-redeclared_at
returns-in-Some-redeclared_at c = λ links.
    let all = map placed c.args.stmts.now in
    let i = c.loop-i.i in
    let x = c.index-stmts-i.result in
    let there = here c.args.stmts.now i x c.loop-i-test.true c.index-stmts-i.is in
    refuses_here (twice_at all links) c.args.stmts.now i x (naming code.Twice c.in-Some-redeclared_at.name) c.refusal_of-in-Some-redeclared_at.result c.loop-i-test.true c.index-stmts-i.is
    (c.loop-i.invariant.before links)
    (redeclaration_here all links c.args.redeclaration i (placed x) c.in-Some-redeclared_at.name there c.requires.redeclaration (sym c.redeclared_at.ensures ∙ c.in-Some-redeclared_at.is))
    (c.refusal_of-in-Some-redeclared_at.ensures ∙ ap (λ (f : Found). refusal_of f x.place) c.naming-in-Some-redeclared_at.ensures)

pub loop-i-preserved : goal.loop-i-preserved
loop-i-preserved c =
    let all = map placed c.args.stmts.now in
    let i = c.loop-i.i in
    let x = c.index-stmts-i.result in
    let os = c.in_ok-outlines.outlines.items in
    let there = here c.args.stmts.now i x c.loop-i-test.true c.index-stmts-i.is in
    let owner = ap (λ (n : Counts). n.procedures) c.counts_before-owner.ensures in
    let alike = clash_alike c.args.names.now all c.counts_before-owner.result.procedures i c.new-setting.result c.requires.names owner c.new-setting.ensures in
    record {
      few = subst (λ n. n ≤ i + 1) (sym c.calls_behind-calls.ensures) (few_behind c.loop-i.calls i (statement_of x.form) c.loop-i.invariant.few);
      calls = c.calls_behind-calls.ensures ∙ calls_next all i c.loop-i.calls (placed x) there c.loop-i.invariant.calls;
      before = λ links.
          let found = clash_read_here all links os c.as_slice-in-loop-i.result.now c.counts_before-owner.result.procedures i c.loop-i.calls c.new-setting.result (statement_of x.form) c.in_ok-name.field-0
          c.in_ok-outlines.ensures c.as_slice-in-loop-i.ensures.value owner alike c.in_ok-name.ensures in
          before_more (twice_at all links) c.args.stmts.now i x c.loop-i-test.true c.index-stmts-i.is (c.loop-i.invariant.before links)
          (none_here all links os c.args.redeclaration i c.loop-i.calls (placed x) there c.in_ok-outlines.ensures c.loop-i.invariant.calls (sym found ∙ c.in-None.is) c.requires.redeclaration
          (sym c.redeclared_at.ensures ∙ c.in-None-redeclared_at.is) (c.loop-i.invariant.before links));
    }

pub returns : goal.returns
returns c = λ links. nowhere (twice_at (map placed c.args.stmts.now) links) c.args.stmts.now c.loop-i.i c.loop-i-test.false (c.loop-i.invariant.before links)
