-- The copies are as many as the INOUT variables, and stand last.
use Rattle.std.proofs.Common.{◌≡◌, ◌∙◌, ◌-◌, List, length, ap, subst, IfOk, arith}
use Rattle.il_core.specs.Run.{variable_count}
use Rattle.difference.specs.declared.constraint.Constraint.{Constraint}
use Rattle.path_inputs.specs.Bounding.{equal_from}
use Rattle.path_inputs.proofs.Copies.{first-copy, copies-few}
use Rattle.path_inputs.proofs.system.equal_copies.Goals as goal

pub overflow_sub-places : goal.overflow_sub-places
overflow_sub-places c =
    let e = ap length c.requires.variables in
    let k = copies-few c.args.places.now c.requires.places in
    omega arith

pub equal_from-requires : goal.equal_from-requires
equal_from-requires c =
    let e = ap length c.requires.variables in
    let k = copies-few c.args.places.now c.requires.places in
    let l = c.requires.places.few in
    omega arith

pub returns : goal.returns
returns c =
    let f = first-copy c.args.places.now (length c.args.places.now - length c.args.variables.now) c.requires.places (ap (λ n. length c.args.places.now - n) (ap length c.requires.variables)) in
    subst (λ (cs : List Constraint). IfOk c.equal_from.result (λ v. v.items ≡ cs))
    (ap (λ n. equal_from n c.args.variables.now) f ∙ ap (equal_from (variable_count c.args.places.now)) c.requires.variables)
    c.equal_from.ensures
