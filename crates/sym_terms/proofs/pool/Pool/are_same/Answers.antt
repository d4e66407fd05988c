use Rattle.std.proofs.Common.{rules}
use Rattle.sym_terms.proofs.Sharing.{shared}
use Rattle.sym_terms.proofs.pool.Pool.are_same.Goals as goal

pub returns-clause-same : goal.returns-clause-same
returns-clause-same c = shared c.args.self.now c.args.a c.args.b c.eq.result c.node-first.ensures.pool c.requires.left c.requires.right (search rules) (search rules)
