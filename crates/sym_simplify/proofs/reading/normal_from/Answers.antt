use Rattle.std.proofs.Common.{rules, ◌∙◌, pos}
use Rattle.sym_simplify.specs.Form.{constant}
use Rattle.sym_simplify.proofs.HeldParts.{before_step, before_end, rolled}
use Rattle.sym_simplify.proofs.reading.normal_from.Goals as goal

pub loop-part-preserved : goal.loop-part-preserved
loop-part-preserved c =
    rw c.in_ok-push.ensures.ok
    (before_step c.args.table.now c.loop-part.read c.args.parts.now c.loop-part.part-index _ _ (constant (pos 0)) _ (search rules) (search rules) c.in_ok-atom.ensures c.loop-part.invariant)

pub returns : goal.returns
returns c =
    rolled (pos 0) c.loop-part.read
    ∙ before_end c.args.table.now c.loop-part.read c.args.parts.now c.loop-part.part-index (constant (pos 0)) _ (search rules) c.loop-part.invariant
