use Rattle.std.proofs.Common.{arith}
use Rattle.std.proofs.lemmas.Option.{slice_get-get_or}
use Rattle.regular_algebra.specs.declared.steps.Step.TheVariants.{Plus}
use Rattle.regular_algebra.proofs.Uses.{named-lower}
use Rattle.path_expr.proofs.Ranks.{define_skip, define_more}
use Rattle.path_expr.proofs.definitions.defs_of.Goals as goal
use Rattle.path_expr.proofs.definitions.defs_of.Goals.{then-used-k+in_ok-push, else-used-k}

pub def_of-requires-clause-within : goal.def_of-requires-clause-within
def_of-requires-clause-within c =
    λ v h.
    let n = named-lower _ c.args.steps.now c.requires.lower c.loop-k.k _ (slice_get-get_or c.args.steps.now c.loop-k.k (Plus 0 0) c.loop-k-test.true) v h in
    omega (arith, n, c.loop-k-test.true, c.requires.marks, c.requires.ranks.size)

pub loop-k-preserved : goal.loop-k-preserved
loop-k-preserved c = elim c.if-used-k.branch [
  | then-used-k+in_ok-push w ↦
      rw w.defs-is
      (define_more c.args.live.now c.args.steps.now c.args.used.now c.args.ranks.now c.loop-k.k _ c.loop-k.defs _ (omega (arith, c.loop-k-test.true, c.requires.marks))
      c.loop-k.invariant w.if-used-k.true (slice_get-get_or c.args.steps.now c.loop-k.k (Plus 0 0) c.loop-k-test.true) (rw w.def_of.ensures at w.in_ok-push.ensures.ok))
  | else-used-k w ↦
      rw w.defs-is
      (define_skip c.args.live.now c.args.steps.now c.args.used.now c.args.ranks.now c.loop-k.k c.loop-k.defs (omega (arith, c.loop-k-test.true, c.requires.marks))
      c.loop-k.invariant w.if-used-k.false)
]
