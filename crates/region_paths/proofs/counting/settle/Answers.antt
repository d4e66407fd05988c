use Rattle.std.proofs.Common.{◌≡◌, ap, ◌+◌, ℕ, suc, subst, Bool, true, false, length, arith}
use Rattle.std.specs.Bool.{OnFalse}
use Rattle.il_core.specs.Checked.{procedure_of}
use Rattle.region_paths.specs.Count.{IsOne, CountAtLeast}
use Rattle.region_paths.proofs.Rounds.{ones_least, ones_most, same_counts, all_at}
use Rattle.region_paths.proofs.counting.settle.Goals as goal

told : (b : Bool) (X : Type 0) → b ≡ false → OnFalse b X → X
told true X e h = absurd (cc)
told false X e h = h

pub loop-round-init : goal.loop-round-init
loop-round-init c = record {
  size = c.requires.size;
  few = λ k d h. omega (arith, c.requires.ones k d h);
  least = λ loops h. ones_least (procedure_of c.args.proc.now) loops c.args.graph.now c.args.counts.now (all_at IsOne c.args.counts.now c.requires.ones);
  most = λ loops h. (0, ones_most (procedure_of c.args.proc.now) loops c.args.graph.now c.args.counts.now (all_at IsOne c.args.counts.now c.requires.ones));
}

pub loop-round-preserved : goal.loop-round-preserved
loop-round-preserved c = record {
  size = c.recount.ensures.size;
  few = c.recount.ensures.few;
  least = λ loops h.
      let e : c.loop-round._round + 1 ≡ suc c.loop-round._round = omega arith in
      rw e (c.recount.ensures.least loops c.loop-round._round h (c.raise_lines.ensures.raised.least loops c.loop-round._round (c.loop-round.invariant.least loops h)));
  most = λ loops h. let k = c.loop-round.invariant.most loops h in let m = c.raise_lines.ensures.raised.most loops k.0 h k.1 in c.recount.ensures.most loops m.0 h m.1;
}

pub returns-then-not-recount-clause-least : goal.returns-then-not-recount-clause-least
returns-then-not-recount-clause-least c = λ loops h.
    same_counts (procedure_of c.args.proc.now) loops c.args.graph.now c.raise_lines.new.counts c.recount.new.counts c.loop-round._round
    (told c.recount.result (c.recount.new.counts ≡ c.raise_lines.new.counts) c.if-not-recount.true c.recount.ensures.same)
    (c.raise_lines.ensures.raised.least loops c.loop-round._round (c.loop-round.invariant.least loops h)) (λ n l. c.recount.ensures.least loops n h l) (suc (length c.args.proc.now.lines))

pub returns-then-not-recount-clause-most : goal.returns-then-not-recount-clause-most
returns-then-not-recount-clause-most c = λ loops h. let k = c.loop-round.invariant.most loops h in let m = c.raise_lines.ensures.raised.most loops k.0 h k.1 in c.recount.ensures.most loops m.0 h m.1

pub returns-clause-least : goal.returns-clause-least
returns-clause-least c = λ loops h.
    let e : c.loop-round._round ≡ suc (length c.args.proc.now.lines) = omega (arith, c.loop-round-test.false, c.loop-round.auto._round-end, c.len-round-end.ensures, ap length c.lines.ensures.value) in
    subst (λ (n : ℕ). CountAtLeast (procedure_of c.args.proc.now) loops c.args.graph.now n 0 c.loop-round.counts) e (c.loop-round.invariant.least loops h)
