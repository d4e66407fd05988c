use Rattle.std.proofs.Common.{◌≡◌, drop, map, string_bytes}
use Rattle.request.specs.Reading.{read_from}
use Rattle.request.proofs.Exactly.{answer}
use Rattle.request.proofs.reading.read_words.Given as goal

-- what is read of the words that are left is what is read of all
abbrev pub invariant-loop-word : goal.invariant-loop-word
invariant-loop-word l = read_from l.asked (map string_bytes (drop l.word-index l.words)) ≡ answer (map string_bytes l.words)
