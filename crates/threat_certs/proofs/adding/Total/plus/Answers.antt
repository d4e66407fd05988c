use Rattle.std.proofs.Common.{rules, ◌≤◌, ◌⊎◌, inl, inr, length, arith}
use Rattle.sym_simplify.specs.Form.{constant}
use Rattle.threat_certs.proofs.Counted.{step_less, step_equal, step_greater, finished, part_within, constant_within}
use Rattle.threat_certs.proofs.adding.Total.plus.Goals as goal
use Rattle.threat_certs.proofs.adding.Total.plus.Goals.{then-loop-i-test+else-j-len, else-loop-i-test}

pub with_sum-requires-clause-left : goal.with_sum-requires-clause-left
with_sum-requires-clause-left c = constant_within _ c.args.self.now.parts.items c.args.self.now.constant c.requires.left

pub with_sum-requires-clause-right : goal.with_sum-requires-clause-right
with_sum-requires-clause-right c = constant_within _ c.args.other.now.parts.items c.args.other.now.constant c.requires.right

pub push_sum-requires-clause-left : goal.push_sum-requires-clause-left
push_sum-requires-clause-left c = part_within _ c.args.self.now.parts.items (constant c.args.self.now.constant) c.loop-i.i c.part_at-first.result c.requires.left (search rules)

pub push_sum-requires-clause-right : goal.push_sum-requires-clause-right
push_sum-requires-clause-right c = part_within _ c.args.other.now.parts.items (constant c.args.other.now.constant) c.loop-i.j c.part_at-second.result c.requires.right (search rules)

pub loop-i-preserved-in-Less : goal.loop-i-preserved-in-Less
loop-i-preserved-in-Less c =
    rw c.in_ok-push-in-Less.ensures.items
    (step_less c.args.self.now.parts.items c.args.other.now.parts.items c.args.self.now.constant c.args.other.now.constant
    c.loop-i.parts.items c.loop-i.i c.loop-i.j c.part_at-first.result c.part_at-second.result (search rules) (search rules) c.in-Less.ensures c.loop-i.invariant)

pub loop-i-preserved-in-Equal : goal.loop-i-preserved-in-Equal
loop-i-preserved-in-Equal c =
    step_equal c.args.self.now.parts.items c.args.other.now.parts.items c.args.self.now.constant c.args.other.now.constant
    c.loop-i.parts.items c.push_sum.new.parts.items c.loop-i.i c.loop-i.j c.part_at-first.result c.part_at-second.result (search rules) (search rules) c.in-Equal.ensures
    c.in_ok-push_sum-in-Equal.ensures c.loop-i.invariant

pub loop-i-preserved : goal.loop-i-preserved
loop-i-preserved c =
    rw c.in_ok-push-in-Greater.ensures.items
    (step_greater c.args.self.now.parts.items c.args.other.now.parts.items c.args.self.now.constant c.args.other.now.constant
    c.loop-i.parts.items c.loop-i.i c.loop-i.j c.part_at-first.result c.part_at-second.result (search rules) (search rules) c.in-Greater.ensures c.loop-i.invariant)

pub returns : goal.returns
returns c =
    let past : (length c.args.self.now.parts.items ≤ c.loop-i.i) ⊎ (length c.args.other.now.parts.items ≤ c.loop-i.j)
    = elim c.loop-i-test.branch [ then-loop-i-test+else-j-len w ↦ inr (omega arith) | else-loop-i-test w ↦ inl (omega arith) ] in
    rw (c.with_sum.ensures.constant, c.with_sum.ensures.parts)
    (finished c.args.self.now.parts.items c.args.other.now.parts.items c.args.self.now.constant c.args.other.now.constant
    c.loop-i.parts.items c.append_from.new.parts.items c.append_from-2.new.parts.items c.loop-i.i c.loop-i.j past (search rules) (search rules) c.loop-i.invariant)
