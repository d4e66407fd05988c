use Rattle.std.proofs.Common.{◌≡◌, ◌∙◌, ap, ℕ, length, arith}
use Rattle.flow_graph.specs.Graph.{Joins, heads_from, tails_into}
use Rattle.flow_graph.specs.Search.{Reaches, row_of}
use Rattle.interval_reduce.specs.Choice.{Precedes}
use Rattle.interval_reduce.proofs.Alike.{level_alike}
use Rattle.interval_reduce.proofs.Carrying.{preceded, converse, reaches_same}
use Rattle.interval_reduce.proofs.levels.level_of.Goals as goal

pub level-requires : goal.level-requires
level-requires c =
    let p : (k : ℕ) → row_of c.as_slice.result.now k ≡ tails_into c.args.arcs.now k = rw c.as_slice.ensures.value c.in_ok-preds.ensures.rows in
    let s : (k : ℕ) → row_of c.as_slice-2.result.now k ≡ heads_from c.args.arcs.now k = rw c.as_slice-2.ensures.value c.in_ok-succs.ensures.rows in
    let m : length c.as_slice.result.now ≡ c.args.count = ap length c.as_slice.ensures.value ∙ c.in_ok-preds.ensures.size in
    let n : length c.as_slice-2.result.now ≡ c.args.count = ap length c.as_slice-2.ensures.value ∙ c.in_ok-succs.ensures.size in
    let same = converse c.args.arcs.now c.as_slice.result.now c.as_slice-2.result.now p s in
    let below = c.requires.below in
    record {
      some = let z = c.requires.some in omega (arith, m, z);
      succs = omega (arith, m, n);
      rows = λ a k i. let b = (below k a ((preceded c.args.arcs.now c.as_slice.result.now p k a).0 i)).tail in omega (arith, b, m);
      next_rows = λ a k i. let b = (below a k ((preceded c.args.arcs.now c.as_slice.result.now p a k).0 ((same a k).1 i))).head in omega (arith, b, m);
      same_arcs = same;
    }

pub returns : goal.returns
returns c =
    let p : (k : ℕ) → row_of c.as_slice.result.now k ≡ tails_into c.args.arcs.now k = rw c.as_slice.ensures.value c.in_ok-preds.ensures.rows in
    let same = preceded c.args.arcs.now c.as_slice.result.now p in
    level_alike (Reaches (Precedes c.as_slice.result.now) 0) (Reaches (Joins c.args.arcs.now) 0) (Precedes c.as_slice.result.now) (Joins c.args.arcs.now)
    (reaches_same (Precedes c.as_slice.result.now) (Joins c.args.arcs.now) same) same c.in_ok-intervals.intervals c.in_ok-intervals.ensures
