use Rattle.std.proofs.Common.{◌≡◌, sym, ap, ◌∙◌, ℕ, suc, ◌+◌, subst, Bool, true, false, ◌||◌, List, All, length, arith}
use Rattle.std.specs.Prelude.{slice_set}
use Rattle.std.specs.Bool.{OnFalse}
use Rattle.std.proofs.lemmas.List.{length-set}
use Rattle.std.proofs.lemmas.List.Elements.{All-set}
use Rattle.il_core.specs.Checked.{procedure_of}
use Rattle.region_paths.specs.Count.{IsFew, CountAtLeast, CountAtMost}
use Rattle.region_paths.proofs.Rounds.{put_least, put_most, round_least}
use Rattle.region_paths.proofs.counting.recount.Goals as goal

-- two steps of which neither changed anything
unchanged : (a b : Bool) (new mid old : List ℕ) → OnFalse a (mid ≡ old) → OnFalse b (new ≡ mid) → OnFalse (a || b) (new ≡ old)
unchanged true b new mid old f g = tt
unchanged false true new mid old f g = tt
unchanged false false new mid old f g = g ∙ f

pub loop-id-preserved : goal.loop-id-preserved
loop-id-preserved c =
    let e : c.put_count-changed.new.counts ≡ slice_set c.loop-id.counts c.loop-id.id c.count_at-count.result = c.put_count-changed.ensures.after in
    record {
      size = ap length e ∙ length-set c.loop-id.counts c.loop-id.id c.count_at-count.result ∙ c.loop-id.invariant.size;
      few = subst (All IsFew) (sym e) (All-set IsFew c.loop-id.counts c.loop-id.id c.count_at-count.result c.count_at-count.ensures.few c.loop-id.invariant.few);
      same = unchanged c.loop-id.changed c.put_count-changed.result c.put_count-changed.new.counts c.loop-id.counts c.args.counts.now c.loop-id.invariant.same c.put_count-changed.ensures.same;
      least = λ loops n h l.
          let before = c.loop-id.invariant.least loops n h l in
          subst (CountAtLeast (procedure_of c.args.proc.now) loops c.args.graph.now n (c.loop-id.id + 1)) (sym e)
          (put_least (procedure_of c.args.proc.now) loops c.args.graph.now n c.loop-id.id c.count_at-count.result c.loop-id.counts before
          (λ d u. c.count_at-count.ensures.least loops n d h before u));
      most = λ loops n h m.
          let before = c.loop-id.invariant.most loops n h m in (
            suc before.0,
            subst (CountAtMost (procedure_of c.args.proc.now) loops c.args.graph.now (suc before.0)) (sym e)
                (put_most (procedure_of c.args.proc.now) loops c.args.graph.now before.0 c.loop-id.id c.count_at-count.result c.loop-id.counts before.1
                (λ d u. c.count_at-count.ensures.most loops before.0 d h before.1 u)),
          );
    }

pub returns-clause-least : goal.returns-clause-least
returns-clause-least c = λ loops n h l.
    round_least (procedure_of c.args.proc.now) loops c.args.graph.now n c.loop-id.id c.loop-id.counts c.requires.lowered
    (omega (arith, c.loop-id-test.false, c.loop-id.invariant.size, c.requires.size)) (c.loop-id.invariant.least loops n h l)
