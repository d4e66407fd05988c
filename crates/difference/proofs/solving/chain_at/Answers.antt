-- The chain of an unknown stands at its place.
use Rattle.std.proofs.Common.{arith}
use Rattle.std.proofs.lemmas.Grind.{common_steps}
use Rattle.std.proofs.lemmas.Option.{gets}
use Rattle.difference.proofs.solving.chain_at.Goals as goal

pub returns-in-Some : goal.returns-in-Some
returns-in-Some c =
    rw c.in-Some.is (c.index-chains-unknown.result, grind (arith, common_steps, gets), c.as_slice.ensures.value)
