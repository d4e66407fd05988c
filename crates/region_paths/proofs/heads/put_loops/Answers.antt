use Rattle.std.proofs.Common.{◌≡◌, refl, sym, ◌∙◌, subst, ℕ, suc, get_or, ◌-◌, length, arith}
use Rattle.std.proofs.lemmas.Option.{slice_get-get_or}
use Rattle.control_flow.specs.declared.control.LoopInfo.{LoopInfo}
use Rattle.region_paths.proofs.LoopHeads.{IsLoopFrom, loop_put, loop_none}
use Rattle.region_paths.specs.Walk.{IsNone}
use Rattle.region_paths.proofs.Rounds.{all_at}
use Rattle.region_paths.proofs.heads.put_loops.Goals as goal

pub loop-at-preserved : goal.loop-at-preserved
loop-at-preserved c =
    let e : suc (c.loop-at.at - 1) ≡ c.loop-at.at = omega (arith, c.loop-at-test.true) in
    let x : LoopInfo = get_or c.args.loops.now (c.loop-at.at - 1) c.index-loops-at.result in
    let there = slice_get-get_or c.args.loops.now (c.loop-at.at - 1) c.index-loops-at.result (omega (arith, c.loop-at-test.true, c.loop-at.auto.at)) in
    record {
      size = c.put_loop.ensures.size ∙ c.loop-at.invariant.size;
      each = λ line o g.
          loop_put c.args.loops.now (c.loop-at.at - 1) line x c.loop-at.heads o there
          (c.put_loop.ensures.each line o g)
          (λ p h. subst (λ (n : ℕ). IsLoopFrom c.args.loops.now n line p) (sym e) (c.loop-at.invariant.each line p h));
    }

pub loop-at-init : goal.loop-at-init
loop-at-init c = record {
  size = refl;
  each = λ line o e.
      subst (IsLoopFrom c.args.loops.now (length c.args.loops.now) line) (sym (all_at IsNone c.args.heads.now c.requires.none line o e))
      (loop_none c.args.loops.now (length c.args.loops.now) line (omega arith));
}

pub returns-clause-each : goal.returns-clause-each
returns-clause-each c = λ line o e.
    let z : c.loop-at.at ≡ 0 = omega (arith, c.loop-at-test.false) in
    subst (λ (n : ℕ). IsLoopFrom c.args.loops.now n line o) z (c.loop-at.invariant.each line o e)
