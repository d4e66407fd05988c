use Rattle.std.proofs.Common.{◌≤◌, sym, ap, subst, below_more}
use Rattle.std.specs.Prelude.{map}
use Rattle.std.proofs.lemmas.List.{length-map}
use Rattle.il_core.specs.Statement.{placed}
use Rattle.il_types.specs.declared.counts.Counts.{Counts}
use Rattle.il_types.proofs.Passing.{here}
use Rattle.call_rules.proofs.Here.{setting_here}
use Rattle.il_calls.proofs.Small.{small_here, names_short, bounds_small}
use Rattle.il_calls.proofs.variables.variables_are_small.Goals as goal

pub loop-i-preserved : goal.loop-i-preserved
loop-i-preserved c =
    let all = map placed c.args.stmts.now in
    let i = c.loop-i.i in
    let x = c.index-stmts-i.result in
    let owner = ap (λ (n : Counts). n.procedures) c.counts_before-owner.ensures in
    let at = setting_here all c.args.names.now c.counts_before-owner.result.procedures i c.new-setting.result c.requires.names owner c.new-setting.ensures in
    below_more _ _ c.loop-i.invariant (small_here all i (placed x) c.new-setting.result (here c.args.stmts.now i x c.loop-i-test.true c.index-stmts-i.is) at c.variable_is_small.ensures)

pub returns-clause-short : goal.returns-clause-short
returns-clause-short c =
    names_short (map placed c.args.stmts.now) c.loop-i.i (subst (λ n. n ≤ c.loop-i.i) (sym (length-map c.args.stmts.now placed)) c.loop-i-test.false) c.loop-i.invariant

pub returns-clause-small : goal.returns-clause-small
returns-clause-small c =
    bounds_small (map placed c.args.stmts.now) c.loop-i.i (subst (λ n. n ≤ c.loop-i.i) (sym (length-map c.args.stmts.now placed)) c.loop-i-test.false) c.loop-i.invariant
