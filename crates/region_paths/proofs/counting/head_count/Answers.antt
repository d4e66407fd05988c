use Rattle.std.proofs.Common.{sym, ap, ◌∙◌, subst, ℕ, ◌<◌, Option, List, length}
use Rattle.std.specs.Prelude.{IfSome}
use Rattle.il_core.specs.LineGraph.{IsIn}
use Rattle.il_core.specs.Checked.{procedure_of}
use Rattle.region_paths.specs.PathTree.{leading_tree}
use Rattle.region_paths.specs.Walk.{IsLoopOf}
use Rattle.region_paths.specs.Count.{leaves, capped}
use Rattle.region_paths.proofs.Walking.{in_at}
use Rattle.region_paths.proofs.Counts.{there}
use Rattle.region_paths.proofs.counting.head_count.Goals as goal

pub leading_count-requires-clause-leading : goal.leading_count-requires-clause-leading
leading_count-requires-clause-leading c =
    let k = there c.args.loops.now c.in-Some.at (subst (λ (o : Option ℕ). IfSome o (λ k. k < length c.args.loops.now)) c.in-Some.is c.requires.at) in
    let e = c.leading_at.ensures k.0 k.1 in
    λ q i. c.requires.leading k.0 (in_at c.args.loops.now c.in-Some.at k.0 k.1) q (subst (λ (ls : List ℕ). IsIn ls q) e i)

pub returns-in-Some-clause-exact : goal.returns-in-Some-clause-exact
returns-in-Some-clause-exact c = λ line at_line.
    let h = subst (IsLoopOf c.args.loops.now line) c.in-Some.is at_line in
    (h.2, c.leading_count.ensures.exact line ∙ ap (λ (ls : List ℕ). capped (leaves (leading_tree (procedure_of c.args.proc.now) line ls))) (c.leading_at.ensures h.0 h.1 ∙ sym h.3))
