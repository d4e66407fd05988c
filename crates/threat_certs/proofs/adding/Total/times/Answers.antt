use Rattle.std.proofs.Common.{rules, SFits}
use Rattle.std.specs.Int.{w128}
use Rattle.std.proofs.lemmas.Int.{to_z-of_z}
use Rattle.sym_simplify.specs.Form.{constant}
use Rattle.threat_certs.proofs.Counted.{part_small, constant_small, multiplied_end, multiplied_is}
use Rattle.threat_certs.proofs.adding.Total.times.Goals as goal

pub times_part-requires : goal.times_part-requires
times_part-requires c =
    let fits : SFits w128 c.args.factor = search rules in
    rw (to_z-of_z w128 c.args.factor fits)
    (part_small c.args.factor c.args.self.now.parts.items c.deref-part-items.result.now (constant c.args.self.now.constant) c.loop-part.part-index c.part-item.result
    c.requires.factor c.requires.small (search rules) (search rules) c.part-item.is)

pub with_multiple-requires : goal.with_multiple-requires
with_multiple-requires c =
    let fits : SFits w128 c.args.factor = search rules in
    rw (to_z-of_z w128 c.args.factor fits) (constant_small c.args.factor c.args.self.now.constant c.args.self.now.parts.items c.requires.factor c.requires.small)

pub returns : goal.returns
returns c =
    let fits : SFits w128 c.args.factor = search rules in
    let e = multiplied_end c.args.factor _ c.loop-part.parts.items c.args.self.now.parts.items c.loop-part.part-index (to_z-of_z w128 c.args.factor fits) (search rules) c.loop-part.invariant in
    rw (c.with_multiple.ensures.constant, c.with_multiple.ensures.parts, e, to_z-of_z w128 c.args.factor fits) (multiplied_is c.args.factor c.args.self.now.constant c.args.self.now.parts.items)
