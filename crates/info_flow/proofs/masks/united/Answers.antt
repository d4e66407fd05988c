use Rattle.std.proofs.Common.{bit_or}
use Rattle.std.proofs.lemmas.Nat.{or_lt}
use Rattle.info_flow.proofs.masks.united.Goals as goal

pub returns-clause-fits : goal.returns-clause-fits
returns-clause-fits c =
    or_lt 64 (bit_or c.args.first c.args.second) c.args.third (or_lt 64 c.args.first c.args.second c.ranges.first.fits c.ranges.second.fits) c.ranges.third.fits
