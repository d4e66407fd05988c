use Rattle.std.proofs.Common.{map, string_bytes, sym, ◌∙◌, ap}
use Rattle.request.specs.Reading.{after_word}
use Rattle.request.proofs.Exactly.{understood, answer, goes_on, breaks, ends}
use Rattle.request.proofs.reading.read_words.Goals as goal

pub loop-word-preserved : goal.loop-word-preserved
loop-word-preserved c =
    goes_on string_bytes c.args.words.now c.loop-word.word-index c.word-item.result c.loop-word.asked c.in-Some.more (answer (map string_bytes c.args.words.now))
    c.loop-word-test.true (sym c.word-item.is) c.loop-word.invariant (ap (after_word c.loop-word.asked) (sym c.as_str.ensures.value) ∙ sym c.in-Some.ensures)

pub returns-in-None : goal.returns-in-None
returns-in-None c =
    understood (map string_bytes c.args.words.now) _
    (breaks string_bytes c.args.words.now c.loop-word.word-index c.word-item.result c.loop-word.asked (answer (map string_bytes c.args.words.now))
    c.loop-word-test.true (sym c.word-item.is) c.loop-word.invariant (ap (after_word c.loop-word.asked) (sym c.as_str.ensures.value) ∙ sym c.in-None.ensures))

pub returns : goal.returns
returns c =
    understood (map string_bytes c.args.words.now) c.request_of.result
    (ends string_bytes c.args.words.now c.loop-word.word-index c.loop-word.asked (answer (map string_bytes c.args.words.now)) c.loop-word-test.false c.loop-word.invariant ∙ sym c.request_of.ensures)
