use Rattle.region_paths.proofs.Cuts.{heads_cut}
use Rattle.region_paths.proofs.laws.heads_cut_cycles.Goals as goal

pub returns : goal.returns
returns c = heads_cut
