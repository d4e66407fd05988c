use Rattle.std.proofs.Common.{rules, arith}
use Rattle.sym_simplify.specs.Form.{constant}
use Rattle.sym_simplify.proofs.OpenParts.{closing_step}
use Rattle.sym_simplify.proofs.table.FormTable.closed.Goals as goal

pub loop-left-preserved : goal.loop-left-preserved
loop-left-preserved c = record {
  in_parts = omega arith;
  closing = closing_step c.args.self.now c.loop-left.self c.put-in-loop-left.new.self c.args.form.now.parts.items (constant c.args.form.now.constant) c.loop-left.left
      c.part_at.result c.loop-left.id c.in_ok-id-2.id (search rules) (omega arith) c.requires c.loop-left.invariant.closing
      c.put-in-loop-left.ensures.kept c.in_ok-id-2.ensures.within c.in_ok-id-2.ensures.form;
}
