use Rattle.std.proofs.Common.{◌+◌, ◌*◌, max}
use Rattle.sym_terms.proofs.pool.Pool.+substitution.Given as goal

abbrev pub decreases-subst_in : goal.decreases-subst_in
decreases-subst_in l = 3 * l.id.index + 1

abbrev pub decreases-fresh_in : goal.decreases-fresh_in
decreases-fresh_in l = 3 * l.id.index

abbrev pub decreases-sides_in : goal.decreases-sides_in
decreases-sides_in l = 3 * max l.a.index l.b.index + 2
