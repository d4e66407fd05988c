use Rattle.std.proofs.Common.{rules, SFits, to_z, of_z, refl, ap, ◌∙◌, length}
use Rattle.std.specs.Int.{w128}
use Rattle.std.proofs.lemmas.Int.{to_z-of_z}
use Rattle.std.proofs.lemmas.Option.{slice_get_read}
use Rattle.sym_simplify.specs.declared.normal.Normal.{out-Normal}
use Rattle.sym_simplify.specs.Held.{form_of}
use Rattle.threat_certs.specs.Adding.{divided}
use Rattle.threat_certs.proofs.Divided.{divided_start, divided_step, divided_end}
use Rattle.threat_certs.proofs.factor.divided_by.Goals as goal

pub loop-part-init : goal.loop-part-init
loop-part-init c = rw c.new-parts.ensures.items (divided_start c.args.sum.now c.as_slice-part-items.result.now _ _ c.as_slice-part-items.ensures)

pub loop-part-preserved : goal.loop-part-preserved
loop-part-preserved c =
    rw c.in_ok-push.ensures.items
    (divided_step c.loop-part.parts.items c.divided_part.result c.as_slice-part-items.result.now c.loop-part.part-index c.part-item.result _ _ (out-Normal c.args.sum.now).constant _
    (slice_get_read c.as_slice-part-items.result.now (length c.as_slice-part-items.result.now) c.loop-part.part-index c.part-item.result refl c.loop-part-test.true c.part-item.is)
    c.divided_part.ensures.coefficient c.divided_part.ensures.factor c.loop-part.invariant)

pub returns : goal.returns
returns c =
    let f : SFits w128 c.args.factor = search rules in
    let d : SFits w128 c.args.constant = search rules in
    divided_end c.loop-part.parts.items c.as_slice-part-items.result.now c.loop-part.part-index _ _ (out-Normal c.args.sum.now).constant _ c.loop-part-test.false c.loop-part.invariant
    ∙ (ap (λ x. divided x (to_z w128 (of_z w128 c.args.constant)) (form_of c.args.sum.now)) (to_z-of_z w128 c.args.factor f)
    ∙ ap (λ x. divided c.args.factor x (form_of c.args.sum.now)) (to_z-of_z w128 c.args.constant d))
