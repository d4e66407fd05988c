use Rattle.std.proofs.Common.{◌≡◌, ◌∙◌, ◌<◌, ◌+◌, ℕ, sym, ap, subst, length}
use Rattle.std.specs.Prelude.{map, Some, slice_get}
use Rattle.std.proofs.lemmas.List.{length_push}
use Rattle.il_core.specs.Statement.{placed}
use Rattle.il_types.specs.Names.{counts_at}
use Rattle.il_types.proofs.Counting.{pushed}
use Rattle.il_types.proofs.Passing.{counts_more}
use Rattle.il_types.proofs.counts.all_counts.Goals as goal

pub loop-i-preserved : goal.loop-i-preserved
loop-i-preserved c =
    let stmts = c.args.stmts.now in
    let e = c.in_ok-push.ensures.items in
    record {
      counts = c.counts_behind-counts.ensures.counts ∙ counts_more stmts c.loop-i.i c.index-stmts-i.result c.loop-i.counts c.loop-i-test.true c.index-stmts-i.is c.loop-i.invariant.counts;
      behind = c.counts_behind-counts.ensures.behind;
      size = ap length e ∙ length_push c.loop-i.all.items c.loop-i.counts ∙ ap (λ n. n + 1) c.loop-i.invariant.size;
      each = subst (λ xs. (k : ℕ) → k < c.loop-i.i + 1 → slice_get xs k ≡ Some (counts_at (map placed stmts) k)) (sym e)
          (pushed c.loop-i.all.items c.loop-i.i (counts_at (map placed stmts)) c.loop-i.counts c.loop-i.invariant.size c.loop-i.invariant.each c.loop-i.invariant.counts);
    }
