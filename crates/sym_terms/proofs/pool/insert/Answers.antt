use Rattle.sym_terms.proofs.Numbered.{pool_more}
use Rattle.sym_terms.proofs.pool.insert.Goals as goal

pub returns-clause-pool : goal.returns-clause-pool
returns-clause-pool c = pool_more c.args.nodes.now.keys c.insert_full.new.self.keys c.args.node c.requires.pool c.requires.below c.in_ok-index.ensures.keys c.in_ok-index.ensures.unique
