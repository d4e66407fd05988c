use Rattle.std.proofs.Common.{◌++◌, take, ◌∙◌, arith}
use Rattle.std.proofs.KnownBytes.{Appends-trans}
use Rattle.il_edge.proofs.Calls.{parts-moved}
use Rattle.il_edge.proofs.whole.write_all.Goals as goal

pub loop-rest-preserved : goal.loop-rest-preserved
loop-rest-preserved g c =
    let done = c.loop-rest.invariant in
    let count = c.in-Ok.count in
    let rest = c.loop-rest.rest.now in
    record {
      front = done.front ++ take count rest;
      parts = rw c.split_at.ensures.back (parts-moved c.args.bytes.now done.front rest count done.parts);
      wrote = Appends-trans _ _ _ _ _ done.wrote c.in-Ok.ensures.bytes;
      told = c.in-Ok.ensures.told ∙ done.told;
      settled = c.in-Ok.ensures.settled ∙ done.settled;
      later = omega (arith, done.later, c.in-Ok.ensures.cause.later);
    }
