use Rattle.std.proofs.Common.{◌≡◌, map, take}
use Rattle.difference.proofs.rounds.copied.Given as goal

abbrev pub invariant-loop-chain : goal.invariant-loop-chain
invariant-loop-chain l = map (λ c. c.items) l.chains.items ≡ map (λ c. c.items) (take l.chain-index l.board.chains.items)
