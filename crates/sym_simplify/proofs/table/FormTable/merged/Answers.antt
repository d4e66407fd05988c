use Rattle.std.proofs.Common.{rules, ◌≤◌, ◌⊎◌, inl, inr, length, arith}
use Rattle.sym_simplify.specs.Form.{constant}
use Rattle.sym_simplify.proofs.OpenParts.{step_less, step_equal, step_greater, finished, finished_within, coefficients_small, constants_small}
use Rattle.sym_simplify.proofs.table.FormTable.merged.Goals as goal
use Rattle.sym_simplify.proofs.table.FormTable.merged.Goals.{then-loop-i-test+else-j-len, else-loop-i-test}

pub with_sum-requires : goal.with_sum-requires
with_sum-requires c =
    constants_small c.args.self.now c.args.left.now.parts.items c.args.right.now.parts.items c.args.left.now.constant c.args.right.now.constant _ c.requires.small

pub push_sum-requires : goal.push_sum-requires
push_sum-requires c =
    coefficients_small c.args.self.now c.args.left.now.parts.items c.args.right.now.parts.items (constant c.args.left.now.constant) (constant c.args.right.now.constant)
    c.loop-i.i c.loop-i.j c.part_at-part.result c.part_at-other.result _ c.requires.small (search rules) (search rules)

pub loop-i-preserved-in-Less : goal.loop-i-preserved-in-Less
loop-i-preserved-in-Less c =
    rw c.in_ok-push-in-Less.ensures.items
    (step_less c.args.self.now c.args.left.now.parts.items c.args.right.now.parts.items c.args.left.now.constant c.args.right.now.constant
    c.loop-i.parts.items c.loop-i.i c.loop-i.j c.part_at-part.result c.part_at-other.result (search rules) (search rules) c.requires.left c.in-Less.ensures c.loop-i.invariant)

pub loop-i-preserved-in-Equal : goal.loop-i-preserved-in-Equal
loop-i-preserved-in-Equal c =
    step_equal c.args.self.now c.args.left.now.parts.items c.args.right.now.parts.items c.args.left.now.constant c.args.right.now.constant
    c.loop-i.parts.items c.push_sum.new.parts.items c.loop-i.i c.loop-i.j c.part_at-part.result c.part_at-other.result (search rules) (search rules) c.requires.right c.in-Equal.ensures
    c.in_ok-push_sum-in-Equal.ensures c.loop-i.invariant

pub loop-i-preserved : goal.loop-i-preserved
loop-i-preserved c =
    rw c.in_ok-push-in-Greater.ensures.items
    (step_greater c.args.self.now c.args.left.now.parts.items c.args.right.now.parts.items c.args.left.now.constant c.args.right.now.constant
    c.loop-i.parts.items c.loop-i.i c.loop-i.j c.part_at-part.result c.part_at-other.result (search rules) (search rules) c.requires.right c.in-Greater.ensures c.loop-i.invariant)

pub returns-clause-form : goal.returns-clause-form
returns-clause-form c =
    let past : (length c.args.left.now.parts.items ≤ c.loop-i.i) ⊎ (length c.args.right.now.parts.items ≤ c.loop-i.j)
    = elim c.loop-i-test.branch [ then-loop-i-test+else-j-len w ↦ inr (omega arith) | else-loop-i-test w ↦ inl (omega arith) ] in
    rw (c.with_sum.ensures.constant, c.with_sum.ensures.parts)
    (finished c.args.self.now c.args.left.now.parts.items c.args.right.now.parts.items c.args.left.now.constant c.args.right.now.constant
    c.loop-i.parts.items c.append_from.new.parts.items c.append_from-2.new.parts.items c.loop-i.i c.loop-i.j past (search rules) (search rules) c.loop-i.invariant)

pub returns-clause-within : goal.returns-clause-within
returns-clause-within c =
    rw c.with_sum.ensures.parts
    (finished_within c.args.self.now c.args.left.now.parts.items c.args.right.now.parts.items c.args.left.now.constant c.args.right.now.constant
    c.loop-i.parts.items c.append_from.new.parts.items c.append_from-2.new.parts.items c.loop-i.i c.loop-i.j (search rules) (search rules) c.requires.left c.requires.right c.loop-i.invariant)
