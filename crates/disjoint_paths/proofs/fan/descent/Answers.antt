use Rattle.std.proofs.Common.{arith}
use Rattle.disjoint_paths.proofs.Descents.{descent_more}
use Rattle.disjoint_paths.proofs.fan.descent.Goals as goal

pub loop-before-preserved : goal.loop-before-preserved
loop-before-preserved c =
    let l = c.loop-before.invariant.known in
    let h = c.requires.linked c.loop-before.number l c.in-Some.before c.in-Some.ensures in
    rw c.in_ok-push.ensures.items
    (record {
      known = omega (arith, h, l);
      linked = descent_more c.args.opened.now c.loop-before.numbers.items c.args.at c.loop-before.number c.in-Some.before c.loop-before.invariant.linked l c.in-Some.ensures;
    })

pub loop-before-smaller : goal.loop-before-smaller
loop-before-smaller c = c.requires.linked c.loop-before.number c.loop-before.invariant.known c.in-Some.before c.in-Some.ensures

pub returns : goal.returns
returns c = (c.loop-before.number, c.loop-before.invariant.known, c.in_default.ensures, c.loop-before.invariant.linked)
