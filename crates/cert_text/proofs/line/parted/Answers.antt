use Rattle.cert_text.proofs.Parts.{parted-some_place, parted-no_place}
use Rattle.cert_text.proofs.line.parted.Goals as goal

pub returns-in-Some : goal.returns-in-Some
returns-in-Some c = parted-some_place c.args.end c.args.text.now c.in-Some.place c.in-Some.ensures.place c.in-Some.ensures.within

pub returns-in-None : goal.returns-in-None
returns-in-None c = parted-no_place c.args.end c.args.text.now c.in-None.ensures.place
