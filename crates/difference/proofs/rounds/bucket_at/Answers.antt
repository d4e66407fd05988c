-- The bucket stands at its place.
use Rattle.std.proofs.Common.{arith}
use Rattle.std.proofs.lemmas.Grind.{common_steps}
use Rattle.std.proofs.lemmas.Option.{gets}
use Rattle.difference.proofs.rounds.bucket_at.Goals as goal

pub returns : goal.returns
returns c = (c.index-buckets-place.result, grind (arith, common_steps, gets), c.as_slice.ensures.value)
