use Rattle.std.proofs.Common.{◌∙◌, sym}
use Rattle.std.proofs.lemmas.Fmt.{parse-decimal}
use Rattle.call_names.proofs.Numbered.{digits_there, digits_text, some_place}
use Rattle.call_names.proofs.number.call_number.Goals as goal

pub returns-in-None : goal.returns-in-None
returns-in-None c = λ old k rest small is. absurd (some_place c.args.bytes.now old k rest small is c.in-None.ensures.place)

pub returns-in-Err : goal.returns-in-Err
returns-in-Err c = λ old k rest small is.
    let digits = digits_there c.args.bytes.now old k rest c.in-Some.end small is c.in-Some.ensures.place in
    absurd (c.in-Err.ensures.cases.0 (digits_text k _ small digits))

pub returns-in-Ok-parse : goal.returns-in-Ok-parse
returns-in-Ok-parse c = λ old k rest small is.
    let digits = digits_there c.args.bytes.now old k rest c.in-Some.end small is c.in-Some.ensures.place in
    let read = parse-decimal 64 k c.in-Ok.text.now c.parse.result small small (c.in-Ok.ensures.cases.0 ∙ digits) c.parse.ensures.value.0 in
    let same = sym c.in-Ok-parse.is ∙ read in
    cc

pub returns-in-Err-parse : goal.returns-in-Err-parse
returns-in-Err-parse c = λ old k rest small is.
    let digits = digits_there c.args.bytes.now old k rest c.in-Some.end small is c.in-Some.ensures.place in
    let read = parse-decimal 64 k c.in-Ok.text.now c.parse.result small small (c.in-Ok.ensures.cases.0 ∙ digits) c.parse.ensures.value.0 in
    let same = sym c.in-Err-parse.is ∙ read in
    absurd (cc)
