use Rattle.std.proofs.Common.{◌≡◌, ◌≤◌, ◌∙◌, sym, subst, ap, arith}
use Rattle.il_types.specs.declared.counts.Counts.{Counts}
use Rattle.il_types.specs.Names.{counts_at}
use Rattle.il_built.proofs.CountsAtMost.{counts_at_most}
use Rattle.il_built.proofs.expressions.built_recalled.Goals as goal

pub overflow_add-place : goal.overflow_add-place
overflow_add-place c =
    let s = c.args.setting.now in
    let few = c.counts_before-copies.ensures.few in
    let counts : c.counts_before-variables.result ≡ counts_at s.stmts s.at = c.counts_before-variables.ensures.counts ∙ ap (counts_at s.stmts) c.at.ensures in
    let v = (counts_at_most s.stmts s.at (omega arith)).variables in
    let k = (counts_at_most s.stmts c.args.spot.0 (omega arith)).copies in
    let a : c.counts_before-variables.result.variables ≤ s.at = subst (λ (n : Counts). n.variables ≤ s.at) (sym counts) v in
    let b : c.counts_before-copies.result.copies ≤ c.args.spot.0 = subst (λ (n : Counts). n.copies ≤ c.args.spot.0) (sym c.counts_before-copies.ensures.counts) k in
    omega arith
