use Rattle.std.proofs.Common.{get_or, arith}
use Rattle.std.proofs.lemmas.Option.{slice_get-get_or}
use Rattle.il_core.specs.Checked.{procedure_of}
use Rattle.region_paths.proofs.Rounds.{raised_put}
use Rattle.region_paths.proofs.counting.raise_node.Goals as goal

pub returns-clause-raised : goal.returns-clause-raised
returns-clause-raised c =
    let e = slice_get-get_or c.args.counts.now c.args.id 0 (omega (arith, c.requires.there, c.requires.size)) in
    raised_put (procedure_of c.args.proc.now) c.args.graph.now c.args.heads.now c.args.id c.max-count.result (get_or c.args.counts.now c.args.id 0) c.count_at.result c.args.counts.now e
    c.max-count.ensures (λ loops n d h m u. c.count_at.ensures.most loops n d h m u)
