use Rattle.region_paths.specs.Listing.{IsShortPath, IsLongPath}
use Rattle.region_paths.proofs.Orders.{one_listing}
use Rattle.region_paths.proofs.laws.one_listing.Goals as goal

pub returns : goal.returns
returns c = λ p loops pc. record { short = one_listing (IsShortPath p loops pc); long = one_listing (IsLongPath p loops pc) }
