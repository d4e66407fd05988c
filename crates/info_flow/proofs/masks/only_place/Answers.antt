use Rattle.info_flow.proofs.PlaceMasks.{single}
use Rattle.info_flow.proofs.masks.only_place.Goals as goal

pub returns : goal.returns
returns c = λ p. single c.args.place c.requires p
