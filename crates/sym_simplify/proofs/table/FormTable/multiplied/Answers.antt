use Rattle.std.proofs.Common.{rules, SFits, of_z, ◌∙◌, sym, ap}
use Rattle.std.specs.Int.{w128}
use Rattle.std.proofs.lemmas.Int.{to_z-of_z}
use Rattle.sym_simplify.specs.Form.{constant}
use Rattle.sym_simplify.proofs.OpenParts.{constant_heft, multiple_small, times_small, multiplied_end, multiplied_is, scale_other, within_map}
use Rattle.sym_simplify.proofs.table.FormTable.multiplied.Goals as goal

pub times_part-requires : goal.times_part-requires
times_part-requires c =
    let fits : SFits w128 c.args.factor = search rules in
    rw (to_z-of_z w128 c.args.factor fits)
    (times_small c.args.self.now c.args.form.now.parts.items c.deref-part-items.result.now (constant c.args.form.now.constant) c.args.factor c.loop-part.part-index _ _ c.requires.small (search rules) (search rules))

pub with_multiple-requires : goal.with_multiple-requires
with_multiple-requires c =
    let fits : SFits w128 c.args.factor = search rules in
    rw (to_z-of_z w128 c.args.factor fits)
    (multiple_small c.args.factor c.args.form.now.constant _ _ (constant_heft c.args.self.now c.args.form.now.parts.items c.args.form.now.constant) c.requires.small)

pub returns-clause-form : goal.returns-clause-form
returns-clause-form c =
    let fits : SFits w128 c.args.factor = search rules in
    let e = multiplied_end c.args.factor _ c.loop-part.parts.items c.args.form.now.parts.items c.loop-part.part-index (to_z-of_z w128 c.args.factor fits) (search rules) c.loop-part.invariant in
    rw (c.with_multiple.ensures.constant, c.with_multiple.ensures.parts, e, to_z-of_z w128 c.args.factor fits)
    (multiplied_is c.args.self.now c.args.factor c.args.form.now.constant c.args.form.now.parts.items ∙ sym (scale_other c.args.factor _ (λ e. c.if-factor-eq0.false (ap (of_z w128) e))))

pub returns-clause-within : goal.returns-clause-within
returns-clause-within c =
    let fits : SFits w128 c.args.factor = search rules in
    let e = multiplied_end c.args.factor _ c.loop-part.parts.items c.args.form.now.parts.items c.loop-part.part-index (to_z-of_z w128 c.args.factor fits) (search rules) c.loop-part.invariant in
    rw (c.with_multiple.ensures.parts, e) (within_map c.args.self.now c.args.factor c.args.form.now.parts.items c.requires.within)
