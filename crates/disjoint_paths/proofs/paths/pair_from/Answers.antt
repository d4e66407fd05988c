use Rattle.std.proofs.Common.{◌≡◌, ◌∙◌, ap, ℕ, List, [], drop, take, length, ◌-◌}
use Rattle.std.proofs.lemmas.List.{get_or_read, take_rest}
use Rattle.flow_graph.specs.Search.{IsMarked, row_of}
use Rattle.disjoint_paths.specs.FirstPath.{IsNext}
use Rattle.disjoint_paths.proofs.Cuts.{no_fork}
use Rattle.disjoint_paths.proofs.Walks.{walk_below}
use Rattle.disjoint_paths.proofs.paths.pair_from.Goals as goal

pub returns-then-not-forks-clause-none : goal.returns-then-not-forks-clause-none
returns-then-not-forks-clause-none c =
    let e : c.as_slice.result.now ≡ row_of c.args.rows.now c.args.tail = c.as_slice.ensures ∙ get_or_read c.args.rows.now c.args.tail c.index-rows-tail.result c.requires.line c.index-rows-tail.is [] in
    no_fork (IsNext c.args.rows.now) (IsMarked c.args.targets.now) c.args.tail c.requires.simple (λ b d i j. c.forks.ensures.0 c.if-not-forks.true b d (rw e i) (rw e j))

pub widen-requires-2 : goal.widen-requires-2
widen-requires-2 c =
    let w = rw c.in-Some.is at c.in_ok-first.ensures.some in
    let e : take (length c.as_slice-2.result.now - 1) (drop 1 c.as_slice-2.result.now) ≡ w.0 =
    take_rest c.as_slice-2.result.now 1 ∙ ap (λ (xs : List ℕ). drop 1 xs) (c.as_slice-2.ensures ∙ w.2) in
    record {
      targets = c.requires.size;
      rows = c.requires.rows;
      tail = c.requires.line;
      path = rw e (walk_below _ c.args.rows.now c.requires.rows c.args.tail w.0 w.4.first.stop w.4.first.walk);
      simple = c.requires.simple;
      first = rw e w.4.first;
    }
