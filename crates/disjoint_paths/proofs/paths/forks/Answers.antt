use Rattle.std.proofs.Common.{◌∙◌, refl, sym, arith}
use Rattle.flow_graph.proofs.Members.{IsIn-get_or}
use Rattle.disjoint_paths.proofs.Lists.{place_of}
use Rattle.disjoint_paths.proofs.paths.forks.Goals as goal

pub returns-then-line-row : goal.returns-then-line-row
returns-then-line-row c =
    ((λ f. absurd (cc)), λ one. absurd (c.if-line-row.true (one _ _ (IsIn-get_or c.args.row.now c.loop-line.line-index 0 c.loop-line-test.true) (IsIn-get_or c.args.row.now 0 0 (omega arith)))))

pub returns : goal.returns
returns c = (
  (λ f b d i j. (
      let x = place_of c.args.row.now b i in
      let y = place_of c.args.row.now d j in
      let l = x.1 in
      let m = y.1 in
      sym x.2 ∙ (c.loop-line.invariant x.0 (omega arith) ∙ (sym (c.loop-line.invariant y.0 (omega arith)) ∙ y.2))
      )),
  λ one. refl,
)
