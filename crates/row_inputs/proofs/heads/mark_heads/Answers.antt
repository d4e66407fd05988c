use Rattle.std.proofs.Common.{refl, ap, ◌∙◌, subst, take_all}
use Rattle.region_paths.proofs.Rounds.{all_at}
use Rattle.row_inputs.specs.Heads.{AreMarked, IsUnmarked}
use Rattle.row_inputs.proofs.Marked.{mark_next}
use Rattle.row_inputs.proofs.heads.mark_heads.Goals as goal

pub loop-info-init : goal.loop-info-init
loop-info-init c = record { size = refl; each = λ line b e. all_at IsUnmarked c.args.marks.now c.requires.none line b e }

pub loop-info-preserved : goal.loop-info-preserved
loop-info-preserved c = record {
  size = c.mark.ensures.size ∙ c.loop-info.invariant.size;
  each = λ line b e.
      mark_next c.args.loops.now c.loop-info.info-index c.info-item.result c.loop-info.marks line b c.loop-info-test.true c.info-item.is
      (c.mark.ensures.each line b e) (c.loop-info.invariant.each line);
}

pub returns-clause-each : goal.returns-clause-each
returns-clause-each c =
    subst (λ l. AreMarked l c.loop-info.marks) (take_all c.loop-info.info-index c.args.loops.now c.loop-info-test.false) c.loop-info.invariant.each
