use Rattle.std.proofs.Common.{◌+◌, ◌*◌}
use Rattle.sym_simplify.proofs.norming.+norming.Given as goal

abbrev pub decreases-norm_in : goal.decreases-norm_in
decreases-norm_in l = 3 * l.id.index + 1

abbrev pub decreases-open_in : goal.decreases-open_in
decreases-open_in l = 3 * l.id.index

abbrev pub decreases-side_in : goal.decreases-side_in
decreases-side_in l = 3 * l.id.index + 2
