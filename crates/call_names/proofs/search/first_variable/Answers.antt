use Rattle.std.proofs.Common.{◌∙◌, sym, ◌++◌, arith}
use Rattle.call_names.specs.Search.{is_among}
use Rattle.call_names.specs.declared.outline.Variable.{Variable}
use Rattle.call_names.proofs.Passing.{find_here, find_passed, find_end}
use Rattle.call_names.proofs.search.first_variable.Goals as goal

pub returns-in-Some : goal.returns-in-Some
returns-in-Some c = sym (sym c.loop-variable.invariant ∙ find_here (is_among c.args.sought.now) (λ (v : Variable). c.args.stem.now ++ v.name) c.args.variables.now c.loop-variable.variable-index
    c.variable-item.result c.sought_name.result c.in-Some.name c.loop-variable-test.true c.variable-item.is c.sought_name.ensures c.in-Some.is)

pub loop-variable-preserved : goal.loop-variable-preserved
loop-variable-preserved c = find_passed (is_among c.args.sought.now) (λ (v : Variable). c.args.stem.now ++ v.name) c.args.variables.now c.loop-variable.variable-index
    c.variable-item.result c.sought_name.result c.loop-variable-test.true c.variable-item.is c.sought_name.ensures c.in-None.is ∙ c.loop-variable.invariant

pub returns : goal.returns
returns c = sym (sym c.loop-variable.invariant ∙ find_end (is_among c.args.sought.now) (λ (v : Variable). c.args.stem.now ++ v.name) c.args.variables.now c.loop-variable.variable-index
    (omega (arith, c.loop-variable-test.false)))
