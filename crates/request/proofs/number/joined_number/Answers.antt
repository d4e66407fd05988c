use Rattle.std.proofs.Common.{◌++◌, sym, ◌∙◌, ap}
use Rattle.std.specs.Prelude.{codes}
use Rattle.request.proofs.Numbers.{behind_front, not_found}
use Rattle.request.proofs.number.joined_number.Goals as goal

pub returns-in-Some : goal.returns-in-Some
returns-in-Some c =
    let h = c.in-Some.ensures.cases in
    c.number_of.ensures ∙ behind_front (codes "--generate=") c.args.word.now c.in-Some.digits.now (h.1.1 ∙ ap (λ ds. codes "--generate=" ++ ds) (sym h.2))

pub returns-in-None : goal.returns-in-None
returns-in-None c = not_found (codes "--generate=") c.args.word.now (λ n h. c.in-None.ensures.cases _ h.is)
