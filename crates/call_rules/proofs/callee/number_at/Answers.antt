use Rattle.std.proofs.Common.{ap, arith}
use Rattle.il_types.specs.declared.counts.Counts.{Counts}
use Rattle.call_rules.proofs.Here.{procedures_at_most}
use Rattle.call_rules.proofs.callee.number_at.Goals as goal

pub overflow_add-result : goal.overflow_add-result
overflow_add-result c =
    let few = procedures_at_most c.args.setting.now.stmts c.args.at c.requires in
    let same = ap (λ (n : Counts). n.procedures) c.counts_before.ensures.counts in
    let size = c.counts_before.ensures.few in
    omega arith
