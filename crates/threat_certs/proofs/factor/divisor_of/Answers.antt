use Rattle.std.proofs.Common.{subst, refl, length}
use Rattle.std.specs.Int.{IsGcd}
use Rattle.std.proofs.lemmas.Option.{slice_get_read}
use Rattle.sym_simplify.specs.declared.normal.Normal.{out-Normal}
use Rattle.sym_simplify.specs.Held.{form_of}
use Rattle.threat_certs.proofs.Factors.{parts_start, parts_step, parts_end, factor_small, factor_reduced}
use Rattle.threat_certs.proofs.factor.divisor_of.Goals as goal

pub loop-part-init : goal.loop-part-init
loop-part-init c = parts_start c.args.sum.now c.as_slice-part-items.result.now c.as_slice-part-items.ensures

pub loop-part-preserved : goal.loop-part-preserved
loop-part-preserved c =
    parts_step c.loop-part.divisor c.greatest_divisor-divisor.result c.as_slice-part-items.result.now c.loop-part.part-index c.part-item.result (out-Normal c.args.sum.now).constant (form_of c.args.sum.now)
    (slice_get_read c.as_slice-part-items.result.now (length c.as_slice-part-items.result.now) c.loop-part.part-index c.part-item.result refl c.loop-part-test.true c.part-item.is)
    (subst (λ n. IsGcd c.loop-part.divisor n c.greatest_divisor-divisor.result) c.size_of.ensures c.greatest_divisor-divisor.ensures) c.loop-part.invariant

pub returns-clause-small : goal.returns-clause-small
returns-clause-small c =
    factor_small c.loop-part.divisor (out-Normal c.args.sum.now).constant (form_of c.args.sum.now)
    (parts_end c.loop-part.divisor c.as_slice-part-items.result.now c.loop-part.part-index (out-Normal c.args.sum.now).constant (form_of c.args.sum.now) c.loop-part-test.false c.loop-part.invariant)
    _ c.requires.first c.requires.coefficients

pub returns-clause-reduced : goal.returns-clause-reduced
returns-clause-reduced c =
    factor_reduced c.loop-part.divisor (out-Normal c.args.sum.now).constant (form_of c.args.sum.now)
    (parts_end c.loop-part.divisor c.as_slice-part-items.result.now c.loop-part.part-index (out-Normal c.args.sum.now).constant (form_of c.args.sum.now) c.loop-part-test.false c.loop-part.invariant)
    c.requires.constant c.requires.first
