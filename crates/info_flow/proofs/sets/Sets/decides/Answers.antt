use Rattle.std.proofs.Common.{◌≡◌, ◌↔◌, sym, ◌∙◌, true, false}
use Rattle.std.proofs.lemmas.Bool.{false≢true}
use Rattle.std.proofs.lemmas.Result.{IfOk-weaker}
use Rattle.flow_graph.specs.Search.{IsMarked}
use Rattle.disjoint_paths.specs.FirstPath.{IsNext}
use Rattle.disjoint_paths.specs.Pair.{HasPair}
use Rattle.info_flow.specs.Growth.{IsDeciding, IsDecided}
use Rattle.info_flow.proofs.PairsOfPaths.{rows_below, none_to_itself, pair_by_rows}
use Rattle.info_flow.proofs.sets.Sets.decides.Goals as goal

pub has_pair-requires-clause-rows : goal.has_pair-requires-clause-rows
has_pair-requires-clause-rows c = rows_below c.args.graph.now c.args.rows.now c.requires.formed c.requires.rows

pub has_pair-requires-clause-simple : goal.has_pair-requires-clause-simple
has_pair-requires-clause-simple c = none_to_itself c.args.graph.now c.args.rows.now c.requires.formed c.requires.rows c.args.line

pub returns-clause-deciding : goal.returns-clause-deciding
returns-clause-deciding c =
    IfOk-weaker c.has_pair.result (λ found. (found ≡ true) ↔ HasPair (IsNext c.args.rows.now) (IsMarked c.as_slice.result.now) c.args.line)
    (λ found. found ≡ true → IsDeciding c.args.graph.now c.args.self.now.lines.items c.args.line)
    (λ found told e. (
      c.is_test.ensures.0 c.if-not-is_test.false,
      (pair_by_rows c.args.graph.now c.args.rows.now c.requires.rows (IsMarked c.args.self.now.lines.items) c.args.line).0 (rw c.as_slice.ensures.value at (told.0 e)),
    ))
    c.has_pair.ensures

pub returns-clause-decided : goal.returns-clause-decided
returns-clause-decided c =
    IfOk-weaker c.has_pair.result (λ found. (found ≡ true) ↔ HasPair (IsNext c.args.rows.now) (IsMarked c.as_slice.result.now) c.args.line)
    (λ found. found ≡ false → IsMarked c.args.asked.now c.args.line → IsDecided c.args.graph.now c.args.self.now.lines.items c.args.line)
    (λ found told e asked d. absurd (false≢true (sym e ∙ told.1 (rw c.as_slice.ensures.value
    ((pair_by_rows c.args.graph.now c.args.rows.now c.requires.rows (IsMarked c.args.self.now.lines.items) c.args.line).1 d.1)))))
    c.has_pair.ensures
